-- What holds between two calls holds after a wait joined that closes no cycle: for the server's fact `safe`.
use Rattle.lock_server.proofs.Common.{arith, ℕ, ◌≡◌, ◌∙◌, ◌⊎◌, inl, inr, sym, ap, subst, refl, List, [], ◌∷◌, ◌++◌, common_steps, IsTrue, cases_eq, Family, Bytes, Whole, Policy, Held, Queue, Pending, FileState, AllBlocked, HasIn, IsSettled, IsWaitBlocked, State, IsBlockedByOwner, WaitsFor, WaitsForOn, WaitsUncrossed, IsFreeOfCycles, IsCompatible, IsSafe, AreTicketsOnce, Suspends, IsRefused}
use Rattle.lock_server.specs.Files.{Joins}
use Rattle.lock_server.proofs.ReachedLemmas.{another_blocks}
use Rattle.lock_server.proofs.ChainLemmas.{chain_weaker, free_joined}
use Rattle.lock_server.proofs.ListLemmas.{no_place}
use Rattle.lock_server.proofs.ReadyLemmas.{AllBlocked-push}
use Rattle.lock_server.proofs.SafeLemmas.{IsSafeBut, waiter_detected}
use Rattle.lock_server.proofs.StateLemmas.{file_from_same}
use Rattle.lock_server.proofs.StepLemmas.{still_blocked}

-- the file with one wait more
abbrev with_wait : FileState → Pending → FileState
with_wait F wait = record { bytes = F.bytes; flocks = F.flocks; waits = F.waits ++ wait ∷ [] }

joined_is : (F : FileState) (wait : Pending) (G : FileState) → Joins F wait G → G ≡ with_wait F wait
joined_is F wait G joins i = record {
  bytes = λ owner byte. joins.locks.bytes owner byte i;
  flocks = λ owner. joins.locks.flocks owner i;
  waits = joins.waits i;
}

-- who is in the longer list has the same, and is blocked by the same
has_before : (family : Family) (F : FileState) (wait one : Pending) → HasIn family (with_wait F wait) one → HasIn family F one
has_before Bytes F wait one has = has
has_before Whole F wait one has = has

blocked_still : (policy : Policy) (F : FileState) (wait : Pending) (earlier : List Pending) (one : Pending) → IsWaitBlocked policy F earlier one
    → IsWaitBlocked policy (with_wait F wait) earlier one
blocked_still Held F wait earlier one held = held
blocked_still Queue F wait earlier one (inl held) = inl held
blocked_still Queue F wait earlier one (inr behind) = inr (behind.0, λ has. behind.1 (has_before one.family F wait one has))

all_blocked_still : (policy : Policy) (F : FileState) (wait : Pending) (earlier waits : List Pending) → AllBlocked policy F earlier waits
    → AllBlocked policy (with_wait F wait) earlier waits
all_blocked_still policy F wait earlier [] all = tt
all_blocked_still policy F wait earlier (one ∷ waits) all =
    (blocked_still policy F wait earlier one all.0, all_blocked_still policy F wait (earlier ++ one ∷ []) waits all.1)

-- a blocked wait joins blocked ones
joined_settled : (policy : Policy) (F : FileState) (wait : Pending) → IsSettled policy F → IsWaitBlocked policy F F.waits wait
    → IsSettled policy (with_wait F wait)
joined_settled policy F wait settled blocked = all_blocked_still policy F wait [] (F.waits ++ wait ∷ []) (AllBlocked-push policy F [] F.waits wait settled blocked)

-- a place in the longer list is one in the list, or the last
record IsFrom (waits before : List Pending) (one wait : Pending) : Type 0 where
  from : ((after : List Pending) × (waits ≡ before ++ one ∷ after)) ⊎ ((before ≡ waits) × (one ≡ wait))

stands_in_longer : (waits before : List Pending) (one : Pending) (after : List Pending) (wait : Pending) → waits ++ wait ∷ [] ≡ before ++ one ∷ after
    → IsFrom waits before one wait
stands_in_longer [] [] one after wait place =
    let e : wait ∷ [] ≡ one ∷ after = place in
    let here : one ≡ wait = cc in record { from = inr (refl, here) }
stands_in_longer [] (b ∷ before) one after wait place =
    let e : wait ∷ [] ≡ b ∷ (before ++ one ∷ after) = place in
    let rest : [] ≡ before ++ one ∷ after = cc in absurd (no_place before one after rest)
stands_in_longer (w ∷ waits) [] one after wait place =
    let e : w ∷ (waits ++ wait ∷ []) ≡ one ∷ after = place in
    let here : w ≡ one = cc in record { from = inl (waits, ap (λ (x : Pending). x ∷ waits) here) }
stands_in_longer (w ∷ waits) (b ∷ before) one after wait place =
    let e : w ∷ (waits ++ wait ∷ []) ≡ b ∷ (before ++ one ∷ after) = place in
    let here : w ≡ b = cc in
    let there : waits ++ wait ∷ [] ≡ before ++ one ∷ after = cc in
    elim (stands_in_longer waits before one after wait there).from [
      | inl stands ↦
          record { from = inl (stands.0, ap (λ (l : List Pending). w ∷ l) stands.1 ∙ ap (λ (x : Pending). x ∷ (before ++ one ∷ stands.0)) here) }
      | inr last ↦
          record { from = inr (ap (λ (l : List Pending). b ∷ l) last.0 ∙ ap (λ (x : Pending). x ∷ waits) (sym here), last.1) }
    ]

-- who blocks a wait that joins, and is followed if it is detected
BlocksNew : Policy → FileState → Pending → ℕ → Type 0
BlocksNew policy F wait other = IsTrue wait.detect × IsBlockedByOwner policy F F.waits wait other

-- the locks of the longer list block the same
blocked_before : (policy : Policy) (F : FileState) (wait : Pending) (before : List Pending) (one : Pending) (other : ℕ)
    → IsBlockedByOwner policy (with_wait F wait) before one other → IsBlockedByOwner policy F before one other
blocked_before policy F wait before one other blocked = grind (arith, common_steps, still_blocked)

module _ (policy : Policy) (S : State) (file : ℕ) (wait : Pending) (T : State) (suspends : Suspends S file wait T) where
  longer : T.files file ≡ with_wait (S.files file) wait
  longer = joined_is (S.files file) wait (T.files file) suspends.joins

  on_longer : (one other : ℕ) → WaitsForOn policy (with_wait (S.files file) wait) one other
      → WaitsFor policy S one other ⊎ ((one ≡ wait.owner) × BlocksNew policy (S.files file) wait other)
  unfolding BlocksNew
  on_longer one other step =
      let blocked = blocked_before policy (S.files file) wait step.before step.wait other step.blocked in
      elim (stands_in_longer (S.files file).waits step.before step.wait step.after wait step.place).from [
        | inl stands ↦ inl (record {
          file = file;
          on_file = record { before = step.before; wait = step.wait; after = stands.0; place = stands.1; detected = step.detected; of_one = step.of_one; blocked = blocked };
        })
        | inr last ↦ inr (
          sym step.of_one ∙ ap (λ (w : Pending). w.owner) last.1,
          (
            subst (λ (w : Pending). IsTrue w.detect) last.1 step.detected,
            subst (λ (w : Pending). IsBlockedByOwner policy (S.files file) (S.files file).waits w other) last.1
                (subst (λ (before : List Pending). IsBlockedByOwner policy (S.files file) before step.wait other) last.0 blocked),
          ),
        )
      ]

  -- a step was there before, or is that of the wait that joined
  new_step : (one other : ℕ) → WaitsFor policy T one other → WaitsFor policy S one other ⊎ ((one ≡ wait.owner) × BlocksNew policy (S.files file) wait other)
  new_step one other step = elim (cases_eq step.file file) [
    | inl here ↦
        on_longer one other
        (subst (λ (F : FileState). WaitsForOn policy F one other) longer (subst (λ (f : ℕ). WaitsForOn policy (T.files f) one other) here step.on_file))
    | inr differs ↦ inl (record {
      file = step.file;
      on_file = subst (λ (F : FileState). WaitsForOn policy F one other) (file_from_same (S.files step.file) (T.files step.file) (suspends.changes.others step.file differs)) step.on_file;
    })
  ]

  joined_free : ¬ IsRefused policy S file wait → IsFreeOfCycles policy S → IsFreeOfCycles policy T
  unfolding BlocksNew
  joined_free open_still free owner cycle =
      free_joined (WaitsUncrossed policy S) (WaitsUncrossed policy T) wait.owner (BlocksNew policy (S.files file) wait)
      (λ one other step. elim (new_step one other step.0) [
        | inl was ↦ inl (was, λ crossed. step.1 ((suspends.changes.crossed one).1 (waiter_detected policy T one other step.0, inl crossed)))
        | inr new ↦ inr new
      ])
      (λ next added led. elim led [
        | inl same ↦ another_blocks policy (S.files file) (S.files file).waits wait next added.1 same
        | inr chained ↦ open_still (
          added.0,
          record {
            blocker = next;
            blocked = added.1;
            led = (chained.0, chain_weaker (WaitsUncrossed policy S) (WaitsFor policy S) (λ one other step. step.0) next chained.0 wait.owner chained.1);
          },
        )
      ])
      free owner cycle

  -- what holds of each other file and of the longer one holds of all
  at_each_file : (P : FileState → Type 0) → ((other : ℕ) → P (S.files other)) → P (with_wait (S.files file) wait) → (other : ℕ) → P (T.files other)
  at_each_file P before here other = elim (cases_eq other file) [
    | inl is ↦ subst (λ (f : ℕ). P (T.files f)) (sym is) (subst P (sym longer) here)
    | inr differs ↦ subst P (sym (file_from_same (S.files other) (T.files other) (suspends.changes.others other differs))) (before other)
  ]

  -- a wait that closes no cycle joins, be it blocked or not
  pub safe_but_joined : IsSafeBut policy file S → ¬ IsRefused policy S file wait → IsSafeBut policy file T
  safe_but_joined safe open_still = record {
    compatible = at_each_file IsCompatible safe.compatible (let was = safe.compatible file in record { bytes = was.bytes; flocks = was.flocks });
    settled = λ other differs.
        subst (λ (F : FileState). IsSettled policy F) (sym (file_from_same (S.files other) (T.files other) (suspends.changes.others other differs))) (safe.settled other differs);
    free_of_cycles = joined_free open_still safe.free_of_cycles;
  }

  -- a blocked wait that closes no cycle joins
  pub safe_joined : IsSafe policy S → IsWaitBlocked policy (S.files file) (S.files file).waits wait → ¬ IsRefused policy S file wait
      → AreTicketsOnce T → IsSafe policy T
  safe_joined safe blocked open_still once = record {
    compatible = at_each_file IsCompatible safe.compatible (let was = safe.compatible file in record { bytes = was.bytes; flocks = was.flocks });
    settled = at_each_file (IsSettled policy) safe.settled (joined_settled policy (S.files file) wait (safe.settled file) blocked);
    free_of_cycles = joined_free open_still safe.free_of_cycles;
    once = once;
  }
