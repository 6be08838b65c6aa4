-- Who was blocked stays so where a lock only adds to what its owner has: for `LockFile::leaves_blocked` and `LockFile::grant`.
use Rattle.lock_server.proofs.Common.{arith, ℕ, ◌≡◌, ◌≢◌, inl, inr, ap, sym, subst, refl, ◌∙◌, Bool, true, false, Option, Some, None, List, [], ◌∷◌, ◌++◌, All, take, common_steps, ◌&&◌, if◌then◌else◌, slice_get, eqb-true, All-head, All-tail}
use Rattle.lock_server.proofs.Common.{Mode, Read, Write, HeldConflicts, is_covered, Owner, Process, Description, Family, Bytes, Whole, Policy, Held, Queue, IsBlockedIn, Pending, FileState, SetsLock, GetsLock, by_owner, locks_on, as_wait, AllBlocked, HasIn, IsWaitBlocked, IsReadyAt, LeavesAt}
use Rattle.std.specs.Prelude.{◌==◌}
use Rattle.std.proofs.Math.Seq.{take-append_seam}
use Rattle.lock_server.specs.Adding.{IsAtMost, AddsIn, LeavesBlocked, OnlyAdds}
use Rattle.lock_server.specs.Waiting.{AreBlockedTo}
use Rattle.lock_server.proofs.CompatibleLemmas.{hit}
use Rattle.lock_server.proofs.GrantLemmas.{same_parts}

-- what is in the way of a lock is in its way under a mode that is no less
still_conflicts : (held : Option Mode) (added wanted : Mode) → IsAtMost held added → HeldConflicts held wanted → HeldConflicts (Some added) wanted
still_conflicts None added wanted at_most conflicts = absurd conflicts
still_conflicts (Some Read) added Read at_most conflicts = absurd conflicts
still_conflicts (Some Read) Read Write at_most conflicts = tt
still_conflicts (Some Read) Write Write at_most conflicts = tt
still_conflicts (Some Write) Read wanted at_most conflicts = absurd at_most
still_conflicts (Some Write) Write Read at_most conflicts = tt
still_conflicts (Some Write) Write Write at_most conflicts = tt

-- so it is where that mode is set, and where what was held stays
still_there : (here : Bool) (held : Option Mode) (added wanted : Mode) → (here ≡ true → IsAtMost held added) → HeldConflicts held wanted
    → HeldConflicts (if here then Some added else held) wanted
still_there true held added wanted at_most conflicts = still_conflicts held added wanted (at_most refl) conflicts
still_there false held added wanted at_most conflicts = conflicts

module _ (F G : FileState) (wait : Pending) where
  bytes_still : SetsLock Bytes F wait.owner wait.span (Some wait.mode) G → AddsIn Bytes F wait → (other : Owner) (byte : ℕ) (wanted : Mode)
      → HeldConflicts (by_owner F.bytes other byte) wanted → HeldConflicts (by_owner G.bytes other byte) wanted
  bytes_still sets adds (Process number) byte wanted conflicts = absurd conflicts
  bytes_still sets adds (Description number) byte wanted conflicts =
      subst (λ (held : Option Mode). HeldConflicts held wanted) (sym (sets.bytes number byte))
      (still_there (wait.owner == number && is_covered wait.span byte) (F.bytes number byte) wait.mode wanted
      (λ here. let h = hit wait.owner wait.span number byte here in
      subst (λ (owner : ℕ). IsAtMost (F.bytes owner byte) wait.mode) h.is (adds byte h.covered)) conflicts)

  flocks_still : SetsLock Whole F wait.owner wait.span (Some wait.mode) G → AddsIn Whole F wait → (other : ℕ) (wanted : Mode)
      → HeldConflicts (F.flocks other) wanted → HeldConflicts (G.flocks other) wanted
  flocks_still sets adds other wanted conflicts =
      subst (λ (held : Option Mode). HeldConflicts held wanted) (sym (sets.flocks other))
      (still_there (wait.owner == other) (F.flocks other) wait.mode wanted
      (λ here. subst (λ (owner : ℕ). IsAtMost (F.flocks owner) wait.mode) (eqb-true wait.owner other here) adds) conflicts)

  -- what blocked a request blocks it still, where the lock of one family is set
  held_still : (family : Family) → SetsLock family F wait.owner wait.span (Some wait.mode) G → AddsIn family F wait → (of : Family) (one : Pending)
      → IsBlockedIn of (locks_on F) (as_wait one) → IsBlockedIn of (locks_on G) (as_wait one)
  held_still Bytes sets adds Bytes one c = record {
    byte = c.byte;
    covered = c.covered;
    other = c.other;
    blocks = record { another = c.blocks.another; conflicts = bytes_still sets adds c.other c.byte one.mode c.blocks.conflicts };
  }
  held_still Bytes sets adds Whole one c = record {
    description = c.description;
    another = c.another;
    conflicts = subst (λ (held : Option Mode). HeldConflicts held one.mode) (sym (sets.flocks c.description)) c.conflicts;
  }
  held_still Whole sets adds Bytes one c = record {
    byte = c.byte;
    covered = c.covered;
    other = c.other;
    blocks = record { another = c.blocks.another; conflicts = other_bytes sets c.other c.byte one.mode c.blocks.conflicts };
  } where
    other_bytes : SetsLock Whole F wait.owner wait.span (Some wait.mode) G → (other : Owner) (byte : ℕ) (wanted : Mode)
        → HeldConflicts (by_owner F.bytes other byte) wanted → HeldConflicts (by_owner G.bytes other byte) wanted
    other_bytes sets (Process number) byte wanted conflicts = absurd conflicts
    other_bytes sets (Description number) byte wanted conflicts = subst (λ (held : Option Mode). HeldConflicts held wanted) (sym (sets.bytes number byte)) conflicts
  held_still Whole sets adds Whole one c = record {
    description = c.description;
    another = c.another;
    conflicts = flocks_still sets adds c.description one.mode c.conflicts;
  }

  -- another owner has no more than before
  has_no_more : (family of : Family) → SetsLock family F wait.owner wait.span (Some wait.mode) G → (one : Pending) → one.owner ≢ wait.owner
      → HasIn of G one → HasIn of F one
  has_no_more Bytes Bytes sets one differs has = λ byte covered. grind (arith, common_steps, eqb-true)
  has_no_more Bytes Whole sets one differs has = grind (arith, common_steps)
  has_no_more Whole Bytes sets one differs has = λ byte covered. grind (arith, common_steps)
  has_no_more Whole Whole sets one differs has = grind (arith, common_steps, eqb-true)

  one_still : (policy : Policy) → GetsLock F wait G → OnlyAdds F wait → (earlier : List Pending) (one : Pending) → (policy ≡ Queue → one.owner ≢ wait.owner)
      → IsWaitBlocked policy F earlier one → IsWaitBlocked policy G earlier one
  one_still Held gets adds earlier one differs held = held_still wait.family gets adds one.family one held
  one_still Queue gets adds earlier one differs (inl held) = inl (held_still wait.family gets adds one.family one held)
  one_still Queue gets adds earlier one differs (inr behind) =
      inr (behind.0, λ has. behind.1 (has_no_more wait.family one.family gets one (differs refl) has))

  -- so is each of these
  all_still : (policy : Policy) → GetsLock F wait G → OnlyAdds F wait → (earlier waits : List Pending) → (policy ≡ Queue → All (λ one. one.owner ≢ wait.owner) waits)
      → AllBlocked policy F earlier waits → AllBlocked policy G earlier waits
  all_still policy gets adds earlier [] differ all = tt
  all_still policy gets adds earlier (one ∷ waits) differ all = (
    one_still policy gets adds earlier one (λ queue. All-head (λ o. o.owner ≢ wait.owner) one waits (differ queue)) all.0,
    all_still policy gets adds (earlier ++ one ∷ []) waits (λ queue. All-tail (λ o. o.owner ≢ wait.owner) one waits (differ queue)) all.1,
  )

-- the waits before the one at the place stay blocked
pub leaves_blocked : (policy : Policy) (F : FileState) (place : ℕ) (wait : Pending) → slice_get F.waits place ≡ Some wait → OnlyAdds F wait
    → (policy ≡ Queue → All (λ one. one.owner ≢ wait.owner) (take place F.waits)) → LeavesBlocked policy F place
leaves_blocked policy F place wait here adds differ = λ one G there gets blocked.
    let same : one ≡ wait = cc in
    all_still F G wait policy (subst (λ (w : Pending). GetsLock F w G) same gets) adds [] (take place F.waits) differ blocked

-- so many are blocked behind the grant
pub blocked_behind : (policy : Policy) (F M G : FileState) (place : ℕ) (wait : Pending) → LeavesAt F place wait M → GetsLock F wait G → G.waits ≡ M.waits
    → slice_get F.waits place ≡ Some wait → LeavesBlocked policy F place → IsReadyAt policy F place → AreBlockedTo policy G place
blocked_behind policy F M G place wait left gets waits here leaves ready =
    let parts = same_parts ready.before left.before ready.wait wait ready.after left.after (ready.at ∙ sym left.at) (sym ready.is_next.place ∙ left.leaves.place) in
    let front : take place F.waits ≡ ready.before =
    ap (take place) ready.is_next.place ∙ subst (λ (n : ℕ). take n (ready.before ++ ready.wait ∷ ready.after) ≡ ready.before) ready.at
    (take-append_seam ready.before (ready.wait ∷ ready.after)) in
    let still : take place G.waits ≡ left.before =
    ap (take place) (waits ∙ left.leaves.waits) ∙ subst (λ (n : ℕ). take n (left.before ++ left.after) ≡ left.before) left.at
    (take-append_seam left.before left.after) in
    subst (λ (ws : List Pending). AllBlocked policy G [] ws) (front ∙ parts.before ∙ sym still)
    (leaves wait G here gets (subst (λ (ws : List Pending). AllBlocked policy F [] ws) (sym front) ready.is_next.earliest))

-- no wait at all is
pub none_blocked : (policy : Policy) (F : FileState) (count : ℕ) → count ≡ 0 → AreBlockedTo policy F count
none_blocked policy F count none = subst (λ (n : ℕ). AreBlockedTo policy F n) (sym none) tt
