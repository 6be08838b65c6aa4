-- Which waits stay blocked after a change: for `LockFile::freed_by_set`, `Reach::behind`, `LockServer::cancel` and others.
use Rattle.lock_server.proofs.Common.{arith, ℕ, ◌≡◌, ◌≢◌, ◌∙◌, ◌⊎◌, ◌≤◌, inl, inr, sym, ap, subst, refl, Bool, true, false, Option, Some, None, List, [], ◌∷◌, ◌++◌, All, Any, zero, suc, take, append_assoc, append-nil, ◌&&◌, if◌then◌else◌, slice_get, cases_eq, cases_lt, eqb-true, nat_tests, All-head, All-tail}
use Rattle.lock_server.proofs.Common.{Mode, Read, Write, Span, Conflict, Covers, HeldConflicts, IsByteRange, is_covered, Owner, Process, Description, Family, Bytes, Whole, Policy, Held, Queue, IsBlockedIn, Pending, Freed, Nobody, Of, Meeting, Reach, FileState, GetsLock, Leaves, SameLocks, SetsBytes, SetsFlock, SetsLock, by_owner, locks_on, AreBlockedBut, Frees, IsAmong, Reaches, SetFrees, TakesNothing, as_wait, AllBlocked, Grants, HasIn, IsAtLeast, IsHeldBack, IsSettled, IsWaitBlocked, PendingsConflict}
use Rattle.std.specs.Prelude.{◌==◌}
use Rattle.wait_core.specs.Blocking.{Meet}
use Rattle.lock_server.specs.declared.freed.Freed.TheVariants.{Anybody}
use Rattle.lock_server.specs.Files.{ClearsBytes}
use Rattle.lock_server.specs.Freed.{AllBlockedBut, FreesBehind, Keeps, LeavingFrees, reach_of}
use Rattle.lock_server.proofs.CompatibleLemmas.{hit}
use Rattle.lock_server.proofs.LeaveLemmas.{Any-at}
use Rattle.lock_server.proofs.ListLemmas.{Any-cons, Any-here, Any-nil, Any-there}
use Rattle.lock_server.proofs.StateLemmas.{file_from_same}

-- a choice whose test fails
not_chosen : {X : Type 0} (b : Bool) (one other : X) → (b ≡ true → ⊥) → (if b then one else other) ≡ other
not_chosen true one other isnt = absurd (isnt refl)
not_chosen false one other isnt = refl

chosen : {X : Type 0} (b : Bool) (one other : X) → b ≡ true → (if b then one else other) ≡ one
chosen true one other is = refl
chosen false one other is = absurd (let no : false ≡ true = is in cc)

module _ (F G : FileState) (owner : ℕ) (span : Span) (mode : Option Mode) where
  -- away from a change each owner has what it had
  bytes_away : SetsBytes F owner span mode G → (other byte : ℕ) → ¬ Covers span byte → G.bytes other byte ≡ F.bytes other byte
  bytes_away sets other byte away =
      sets.bytes other byte ∙ not_chosen (owner == other && is_covered span byte) mode (F.bytes other byte) (λ here. away (hit owner span other byte here).covered)

  bytes_of_others : SetsBytes F owner span mode G → (other byte : ℕ) → other ≢ owner → G.bytes other byte ≡ F.bytes other byte
  bytes_of_others sets other byte differs =
      sets.bytes other byte ∙ not_chosen (owner == other && is_covered span byte) mode (F.bytes other byte) (λ here. differs (sym (hit owner span other byte here).is))

  still_at : SetsBytes F owner span mode G → (other : Owner) (byte : ℕ) (wanted : Mode) → ¬ Covers span byte → HeldConflicts (by_owner F.bytes other byte) wanted
      → HeldConflicts (by_owner G.bytes other byte) wanted
  still_at sets (Process number) byte wanted away conflicts = absurd conflicts
  still_at sets (Description number) byte wanted away conflicts =
      subst (λ (held : Option Mode). HeldConflicts held wanted) (sym (bytes_away sets number byte away)) conflicts

  -- so a wait that the change doesn't meet is held back as it was
  held_away : (family of : Family) → SetsLock family F owner span mode G → (wait : Pending) → (of ≡ family → Meet of span wait.span → ⊥)
      → IsBlockedIn of (locks_on F) (as_wait wait) → IsBlockedIn of (locks_on G) (as_wait wait)
  held_away Bytes Bytes sets wait apart c = record {
    byte = c.byte;
    covered = c.covered;
    other = c.other;
    blocks = record {
      another = c.blocks.another;
      conflicts = still_at sets c.other c.byte wait.mode
          (λ here. apart refl (let a = here.0 in let b = here.1 in let d = c.covered.0 in let e = c.covered.1 in (omega arith, omega arith))) c.blocks.conflicts;
    };
  }
  held_away Bytes Whole sets wait apart c = record {
    description = c.description;
    another = c.another;
    conflicts = subst (λ (held : Option Mode). HeldConflicts held wait.mode) (sym (sets.flocks c.description)) c.conflicts;
  }
  held_away Whole Bytes sets wait apart c = record {
    byte = c.byte;
    covered = c.covered;
    other = c.other;
    blocks = record { another = c.blocks.another; conflicts = at c.other c.blocks.conflicts };
  } where
    at : (other : Owner) → HeldConflicts (by_owner F.bytes other c.byte) wait.mode → HeldConflicts (by_owner G.bytes other c.byte) wait.mode
    at (Process number) conflicts = absurd conflicts
    at (Description number) conflicts = subst (λ (held : Option Mode). HeldConflicts held wait.mode) (sym (sets.bytes number c.byte)) conflicts
  held_away Whole Whole sets wait apart c = absurd (apart refl tt)

  -- and its owner has no more of what it is for
  has_away : (family of : Family) → SetsLock family F owner span mode G → (wait : Pending) → (of ≡ family → Meet of span wait.span → ⊥)
      → HasIn of G wait → HasIn of F wait
  has_away Bytes Bytes sets wait apart has = λ byte covered.
      subst (λ (held : Option Mode). IsAtLeast held wait.mode)
      (bytes_away sets wait.owner byte (λ here. apart refl (let a = here.0 in let b = here.1 in let d = covered.0 in let e = covered.1 in (omega arith, omega arith))))
      (has byte covered)
  has_away Bytes Whole sets wait apart has = subst (λ (held : Option Mode). IsAtLeast held wait.mode) (sets.flocks wait.owner) has
  has_away Whole Bytes sets wait apart has = λ byte covered. subst (λ (held : Option Mode). IsAtLeast held wait.mode) (sets.bytes wait.owner byte) (has byte covered)
  has_away Whole Whole sets wait apart has = absurd (apart refl tt)

  blocked_away : (policy : Policy) (family : Family) → SetsLock family F owner span mode G → (earlier later : List Pending) (wait : Pending)
      → ¬ Reaches (record { family = family; span = span }) wait
      → (Any (λ v. PendingsConflict v wait) earlier → Any (λ v. PendingsConflict v wait) later)
      → IsWaitBlocked policy F earlier wait → IsWaitBlocked policy G later wait
  blocked_away Held family sets earlier later wait away behind held =
      held_away family wait.family sets wait (λ same meet. away (record { family = same; meet = meet })) held
  blocked_away Queue family sets earlier later wait away behind (inl held) =
      inl (held_away family wait.family sets wait (λ same meet. away (record { family = same; meet = meet })) held)
  blocked_away Queue family sets earlier later wait away behind (inr queued) =
      inr (behind queued.0, λ has. queued.1 (has_away family wait.family sets wait (λ same meet. away (record { family = same; meet = meet })) has))

  -- a set that takes nothing leaves in the way what was so
  still_kept : SetsBytes F owner span mode G → TakesNothing F owner span mode → (other : Owner) (byte : ℕ) (wanted : Mode)
      → HeldConflicts (by_owner F.bytes other byte) wanted → HeldConflicts (by_owner G.bytes other byte) wanted
  still_kept sets keeps (Process number) byte wanted conflicts = absurd conflicts
  still_kept sets keeps (Description number) byte wanted conflicts =
      subst (λ (held : Option Mode). HeldConflicts held wanted) (sym (sets.bytes number byte)) (at (owner == number && is_covered span byte) refl)
    where
      at : (b : Bool) → (owner == number && is_covered span byte) ≡ b → HeldConflicts (if b then mode else F.bytes number byte) wanted
      at true here = let h = hit owner span number byte here in
          keeps byte h.covered wanted (subst (λ (n : ℕ). HeldConflicts (F.bytes n byte) wanted) (sym h.is) conflicts)
      at false away = conflicts

  held_kept : SetsBytes F owner span mode G → TakesNothing F owner span mode → (of : Family) (wait : Pending) → IsBlockedIn of (locks_on F) (as_wait wait)
      → IsBlockedIn of (locks_on G) (as_wait wait)
  held_kept sets keeps Bytes wait c = record {
    byte = c.byte;
    covered = c.covered;
    other = c.other;
    blocks = record { another = c.blocks.another; conflicts = still_kept sets keeps c.other c.byte wait.mode c.blocks.conflicts };
  }
  held_kept sets keeps Whole wait c = record {
    description = c.description;
    another = c.another;
    conflicts = subst (λ (held : Option Mode). HeldConflicts held wait.mode) (sym (sets.flocks c.description)) c.conflicts;
  }

  has_of_others : SetsBytes F owner span mode G → (of : Family) (wait : Pending) → wait.owner ≢ owner → HasIn of G wait → HasIn of F wait
  has_of_others sets Bytes wait differs has = λ byte covered.
      subst (λ (held : Option Mode). IsAtLeast held wait.mode) (bytes_of_others sets wait.owner byte differs) (has byte covered)
  has_of_others sets Whole wait differs has = subst (λ (held : Option Mode). IsAtLeast held wait.mode) (sets.flocks wait.owner) has

-- whether the wait is for a lock there
pub reaches_or_not : (reach : Reach) (wait : Pending) → Reaches reach wait ⊎ (¬ Reaches reach wait)
reaches_or_not reach wait = at wait.family reach.family refl refl
  where
    at : (one other : Family) → wait.family ≡ one → reach.family ≡ other → Reaches reach wait ⊎ (¬ Reaches reach wait)
    at Bytes Whole is there = inr (λ reaches. let no : Bytes ≡ Whole = sym is ∙ reaches.family ∙ there in cc)
    at Whole Bytes is there = inr (λ reaches. let no : Whole ≡ Bytes = sym is ∙ reaches.family ∙ there in cc)
    at Whole Whole is there = inl (record { family = is ∙ sym there; meet = subst (λ (f : Family). Meet f reach.span wait.span) (sym is) tt })
    at Bytes Bytes is there = elim (cases_lt wait.span.last reach.span.first) [
      | inl before ↦ inr (λ reaches. let meet : Meet Bytes reach.span wait.span = subst (λ (f : Family). Meet f reach.span wait.span) is reaches.meet in
          let a = meet.0 in absurd (omega arith))
      | inr not_before ↦ elim (cases_lt reach.span.last wait.span.first) [
        | inl behind ↦ inr (λ reaches. let meet : Meet Bytes reach.span wait.span = subst (λ (f : Family). Meet f reach.span wait.span) is reaches.meet in
            let a = meet.1 in absurd (omega arith))
        | inr not_behind ↦ inl (record {
          family = is ∙ sym there;
          meet = subst (λ (f : Family). Meet f reach.span wait.span) (sym is) (let m : Meet Bytes reach.span wait.span = (omega arith, omega arith) in m);
        })
      ]
    ]

-- a wait that conflicts with another is for a lock where that one is to have its own
pub conflict_reaches : (v wait : Pending) → PendingsConflict v wait → Reaches (reach_of v) wait
conflict_reaches v wait c = record { family = sym c.conflict.family; meet = c.conflict.ranges }

write_conflicts : (mode wanted : Mode) → mode ≡ Write → Conflict mode wanted
write_conflicts Read wanted is = absurd (let no : Read ≡ Write = is in cc)
write_conflicts Write Read is = tt
write_conflicts Write Write is = tt

covered_is : (span : Span) (byte : ℕ) → Covers span byte → is_covered span byte ≡ true
covered_is span byte covered = grind (arith, nat_tests)

here_is : (owner : ℕ) (span : Span) (byte : ℕ) → Covers span byte → (owner == owner && is_covered span byte) ≡ true
here_is owner span byte covered = grind (arith, nat_tests)

same_number : (owner : ℕ) → (owner == owner) ≡ true
same_number owner = grind (arith, nat_tests)

-- the first byte of two ranges that meet
common_byte : (one other : Span) → one.first ≤ one.last → other.first ≤ other.last → Meet Bytes one other → (byte : ℕ) × Covers one byte × Covers other byte
common_byte one other a b meet = let c = meet.0 in let d = meet.1 in elim (cases_lt one.first other.first) [
  | inl before ↦ (other.first, (omega arith, omega arith), (omega arith, omega arith))
  | inr past ↦ (one.first, (omega arith, omega arith), (omega arith, omega arith))
]

-- who has a write lock holds back each other wait that it meets
barred_in : (F G : FileState) (lock wait : Pending) (family : Family) → lock.mode ≡ Write → IsByteRange lock.span → IsByteRange wait.span
    → SetsLock family F lock.owner lock.span (Some lock.mode) G → wait.owner ≢ lock.owner → Meet family lock.span wait.span
    → IsBlockedIn family (locks_on G) (as_wait wait)
barred_in F G lock wait Bytes write one other sets differs meet =
    let common = common_byte lock.span wait.span one.0 other.0 meet in
    let has : G.bytes lock.owner common.0 ≡ Some lock.mode =
    sets.bytes lock.owner common.0 ∙ chosen (lock.owner == lock.owner && is_covered lock.span common.0) (Some lock.mode) (F.bytes lock.owner common.0) (here_is lock.owner lock.span common.0 common.1) in
    record {
      byte = common.0;
      covered = common.2;
      other = Description lock.owner;
      blocks = record {
        another = λ same. differs (let e : Description lock.owner ≡ Description wait.owner = same in let is : lock.owner ≡ wait.owner = cc in sym is);
        conflicts = subst (λ (held : Option Mode). HeldConflicts held wait.mode) (sym has) (write_conflicts lock.mode wait.mode write);
      };
    }
barred_in F G lock wait Whole write one other sets differs meet =
    let has : G.flocks lock.owner ≡ Some lock.mode =
    sets.flocks lock.owner ∙ chosen (lock.owner == lock.owner) (Some lock.mode) (F.flocks lock.owner) (same_number lock.owner) in
    record {
      description = lock.owner;
      another = λ same. differs (let e : Description lock.owner ≡ Description wait.owner = same in let is : lock.owner ≡ wait.owner = cc in sym is);
      conflicts = subst (λ (held : Option Mode). HeldConflicts held wait.mode) (sym has) (write_conflicts lock.mode wait.mode write);
    }

barred : (F G : FileState) (lock wait : Pending) → lock.mode ≡ Write → IsByteRange lock.span → IsByteRange wait.span
    → GetsLock F lock G → wait.owner ≢ lock.owner → Reaches (reach_of lock) wait → IsHeldBack G wait
barred F G lock wait write one other gets differs reaches =
    subst (λ (family : Family). IsBlockedIn family (locks_on G) (as_wait wait)) (sym reaches.family)
    (barred_in F G lock wait lock.family write one other gets differs (subst (λ (family : Family). Meet family lock.span wait.span) reaches.family reaches.meet))

by_lock : (policy : Policy) (F : FileState) (earlier : List Pending) (wait : Pending) → IsHeldBack F wait → IsWaitBlocked policy F earlier wait
by_lock Held F earlier wait held = held
by_lock Queue F earlier wait held = inl held

-- a wait that is behind some of these is behind some of those, or behind the one that leaves
abbrev Follows : Pending → List Pending → List Pending → Type 0
Follows left earlier later =
    (wait : Pending) → Any (λ v. PendingsConflict v wait) earlier → Any (λ v. PendingsConflict v wait) later ⊎ PendingsConflict left wait

last_or_before : {X : Type 0} (P : X → Type 0) (xs : List X) (x : X) → Any P (xs ++ x ∷ []) → Any P xs ⊎ P x
last_or_before P [] x any = elim (Any-cons P x [] any) [ inl here ↦ inr here | inr there ↦ absurd (Any-nil P there) ]
last_or_before P (y ∷ xs) x any = elim (Any-cons P y (xs ++ x ∷ []) any) [
  | inl here ↦ inl (Any-here P y xs here)
  | inr there ↦ elim (last_or_before P xs x there) [ inl before ↦ inl (Any-there P y xs before) | inr last ↦ inr last ]
]

Any-more : {X : Type 0} (P : X → Type 0) (xs : List X) (x : X) → Any P xs → Any P (xs ++ x ∷ [])
Any-more P [] x any = absurd (Any-nil P any)
Any-more P (y ∷ xs) x any = elim (Any-cons P y xs any) [
  | inl here ↦ Any-here P y (xs ++ x ∷ []) here
  | inr there ↦ Any-there P y (xs ++ x ∷ []) (Any-more P xs x there)
]

follows_more : (left : Pending) (earlier later : List Pending) (one : Pending) → Follows left earlier later → Follows left (earlier ++ one ∷ []) (later ++ one ∷ [])
follows_more left earlier later one follows wait any = elim (last_or_before (λ v. PendingsConflict v wait) earlier one any) [
  | inl before ↦ elim (follows wait before) [
    | inl there ↦ inl (Any-more (λ v. PendingsConflict v wait) later one there)
    | inr behind ↦ inr behind
  ]
  | inr last ↦ inl (Any-at (λ v. PendingsConflict v wait) later [] one last)
]

follows_left : (left : Pending) (earlier : List Pending) → Follows left (earlier ++ left ∷ []) earlier
follows_left left earlier wait any = last_or_before (λ v. PendingsConflict v wait) earlier left any

-- who stays blocked where one of the waits leaves
abbrev Stays : Policy → FileState → FileState → Pending → Freed → Freed → (Pending → Type 0) → Type 0
Stays policy F G left freed after Good = (earlier later : List Pending) (wait : Pending) → Good wait → Follows left earlier later
    → ((¬ IsAmong freed wait) → IsWaitBlocked policy F earlier wait) → ¬ IsAmong after wait → IsWaitBlocked policy G later wait

abbrev HasRange : Pending → Type 0
HasRange wait = IsByteRange wait.span

module _ (policy : Policy) (F G : FileState) (left : Pending) (freed after : Freed) (Good : Pending → Type 0) (stays : Stays policy F G left freed after Good) where
  stay_behind : (earlier later : List Pending) → Follows left earlier later → (waits : List Pending) → All Good waits
      → AllBlockedBut policy F freed earlier waits → AllBlockedBut policy G after later waits
  stay_behind earlier later follows [] ranges all = tt
  stay_behind earlier later follows (wait ∷ waits) ranges all = (
    stays earlier later wait (All-head Good wait waits ranges) follows all.0,
    stay_behind (earlier ++ wait ∷ []) (later ++ wait ∷ []) (follows_more left earlier later wait follows) waits (All-tail Good wait waits ranges) all.1,
  )

  stay_without : (earlier before behind : List Pending) → All Good (before ++ left ∷ behind)
      → AllBlockedBut policy F freed earlier (before ++ left ∷ behind) → AllBlockedBut policy G after earlier (before ++ behind)
  stay_without earlier [] behind ranges all =
      stay_behind (earlier ++ left ∷ []) earlier (follows_left left earlier) behind (All-tail Good left behind ranges) all.1
  stay_without earlier (wait ∷ before) behind ranges all = (
    stays earlier earlier wait (All-head Good wait (before ++ left ∷ behind) ranges) (λ any is. inl is) all.0,
    stay_without (earlier ++ wait ∷ []) before behind (All-tail Good wait (before ++ left ∷ behind) ranges) all.1,
  )

-- where each wait is blocked, so is each but some
pub settled_but : (policy : Policy) (F : FileState) (freed : Freed) (earlier waits : List Pending) → AllBlocked policy F earlier waits
    → AllBlockedBut policy F freed earlier waits
settled_but policy F freed earlier [] all = tt
settled_but policy F freed earlier (wait ∷ waits) all = (λ away. all.0, settled_but policy F freed (earlier ++ wait ∷ []) waits all.1)

-- and each but any
pub any_but : (policy : Policy) (F : FileState) (earlier waits : List Pending) → AllBlockedBut policy F Anybody earlier waits
any_but policy F earlier [] = tt
any_but policy F earlier (wait ∷ waits) = (λ none. absurd (none tt), any_but policy F (earlier ++ wait ∷ []) waits)

-- the one at a place is blocked, or may be freed
blocked_at : (policy : Policy) (F : FileState) (freed : Freed) (earlier waits : List Pending) (i : ℕ) (wait : Pending) → AllBlockedBut policy F freed earlier waits
    → slice_get waits i ≡ Some wait → ¬ IsAmong freed wait → IsWaitBlocked policy F (earlier ++ take i waits) wait
blocked_at policy F freed earlier [] i wait all is away = absurd (let no : None ≡ Some wait = is in cc)
blocked_at policy F freed earlier (first ∷ waits) zero wait all is away =
    let e : Some first ≡ Some wait = is in
    let same : first ≡ wait = cc in
    subst (λ (w : Pending). IsWaitBlocked policy F (earlier ++ []) w) same
    (subst (λ (ws : List Pending). IsWaitBlocked policy F ws first) (sym (append-nil earlier)) (all.0 (λ among. away (subst (λ (w : Pending). IsAmong freed w) same among))))
blocked_at policy F freed earlier (first ∷ waits) (suc i) wait all is away =
    subst (λ (ws : List Pending). IsWaitBlocked policy F ws wait) (append_assoc earlier (first ∷ []) (take i waits))
    (blocked_at policy F freed (earlier ++ first ∷ []) waits i wait all.1 is away)

-- a range on both sides of another meets what that one meets
meets_wider : (family : Family) (one other span : Span) → one.first ≤ other.first → other.last ≤ one.last → Meet family other span → Meet family one span
meets_wider Bytes one other span from to meet = let a = meet.0 in let b = meet.1 in (omega arith, omega arith)
meets_wider Whole one other span from to meet = tt

pub reaches_wider : (one other : Reach) → one.family ≡ other.family → one.span.first ≤ other.span.first → other.span.last ≤ one.span.last
    → (wait : Pending) → Reaches other wait → Reaches one wait
reaches_wider one other same from to wait reaches = record {
  family = reaches.family ∙ sym same;
  meet = meets_wider wait.family one.span other.span wait.span from to reaches.meet;
}

-- a grant, where the change that freed some waits lies on a part of the file
module _ (policy : Policy) (F G : FileState) (granted : Pending) (reach : Reach) (gets : GetsLock F granted G) where
  away_still : (earlier later : List Pending) (wait : Pending) → Follows granted earlier later → ¬ Reaches (reach_of granted) wait
      → IsWaitBlocked policy F earlier wait → IsWaitBlocked policy G later wait
  away_still earlier later wait follows away blocked =
      blocked_away F G granted.owner granted.span (Some granted.mode) policy granted.family gets earlier later wait away
      (λ any. elim (follows wait any) [ inl there ↦ there | inr conflict ↦ absurd (away (conflict_reaches granted wait conflict)) ])
      blocked

  -- no wait beyond both is freed
  stays_beyond : (hull : Reach) → ((wait : Pending) → (Reaches reach wait ⊎ Reaches (reach_of granted) wait) → Reaches hull wait)
      → Stays policy F G granted (Meeting reach) (Meeting hull) HasRange
  stays_beyond hull encloses earlier later wait range follows blocked beyond =
      away_still earlier later wait follows (λ reaches. beyond (encloses wait (inr reaches))) (blocked (λ reaches. beyond (encloses wait (inl reaches))))

  -- nor, behind a write lock on all of it, one of another owner
  stays_barred : granted.mode ≡ Write → IsByteRange granted.span → ((wait : Pending) → Reaches reach wait → Reaches (reach_of granted) wait)
      → Stays policy F G granted (Meeting reach) (Of granted.owner (reach_of granted)) HasRange
  stays_barred write range covers earlier later wait other_range follows blocked others = elim (reaches_or_not (reach_of granted) wait) [
    | inl reaches ↦ elim (cases_eq wait.owner granted.owner) [
      | inl same ↦ absurd (others (same, reaches))
      | inr differs ↦ by_lock policy G later wait (barred F G granted wait write range other_range gets differs reaches)
    ]
    | inr away ↦ away_still earlier later wait follows away (blocked (λ reaches. away (covers wait reaches)))
  ]

-- fewer are blocked for sure, where more may be freed
pub but_more : (policy : Policy) (F : FileState) (freed more : Freed) → ((wait : Pending) → IsAmong freed wait → IsAmong more wait) → (earlier waits : List Pending)
    → AllBlockedBut policy F freed earlier waits → AllBlockedBut policy F more earlier waits
but_more policy F freed more among earlier [] all = tt
but_more policy F freed more among earlier (wait ∷ waits) all =
    (λ none. all.0 (λ is. none (among wait is)), but_more policy F freed more among (earlier ++ wait ∷ []) waits all.1)

-- the waits after a grant
pub granted_but : (policy : Policy) (F : FileState) (granted : Pending) (G : FileState) (freed after : Freed) (grants : Grants policy F granted G)
    → Stays policy F G granted freed after HasRange → All HasRange F.waits → AreBlockedBut policy F freed → AreBlockedBut policy G after
granted_but policy F granted G freed after grants stays ranges all =
    subst (λ (ws : List Pending). AllBlockedBut policy G after [] ws) (sym grants.waits)
    (stay_without policy F G granted freed after HasRange stays [] grants.before grants.after
    (subst (λ (ws : List Pending). All HasRange ws) grants.is_next.place ranges)
    (subst (λ (ws : List Pending). AllBlockedBut policy F freed [] ws) grants.is_next.place all))

pub granted_beyond : (policy : Policy) (F : FileState) (granted : Pending) (G : FileState) (reach hull : Reach) → Grants policy F granted G
    → ((wait : Pending) → (Reaches reach wait ⊎ Reaches (reach_of granted) wait) → Reaches hull wait)
    → All HasRange F.waits → AreBlockedBut policy F (Meeting reach) → AreBlockedBut policy G (Meeting hull)
granted_beyond policy F granted G reach hull grants encloses ranges all =
    granted_but policy F granted G (Meeting reach) (Meeting hull) grants (stays_beyond policy F G granted reach grants.gets hull encloses) ranges all

pub granted_barred : (policy : Policy) (F : FileState) (granted : Pending) (G : FileState) (reach : Reach) → Grants policy F granted G → granted.mode ≡ Write
    → ((wait : Pending) → Reaches reach wait → Reaches (reach_of granted) wait) → All HasRange F.waits
    → AreBlockedBut policy F (Meeting reach) → AreBlockedBut policy G (Of granted.owner (reach_of granted))
granted_barred policy F granted G reach grants write covers ranges all =
    granted_but policy F granted G (Meeting reach) (Of granted.owner (reach_of granted)) grants
    (stays_barred policy F G granted reach grants.gets write (range_of grants.before grants.after (subst (λ (ws : List Pending). All HasRange ws) grants.is_next.place ranges)) covers)
    ranges all
  where
    range_of : (before behind : List Pending) → All HasRange (before ++ granted ∷ behind) → IsByteRange granted.span
    range_of [] behind all = All-head HasRange granted behind all
    range_of (first ∷ before) behind all = range_of before behind (All-tail HasRange first (before ++ granted ∷ behind) all)

-- who stays blocked where no wait leaves
abbrev Remains : Policy → FileState → FileState → Freed → Type 0
Remains policy F G freed = (earlier : List Pending) (wait : Pending) → IsWaitBlocked policy F earlier wait → ¬ IsAmong freed wait → IsWaitBlocked policy G earlier wait

remain : (policy : Policy) (F G : FileState) (freed : Freed) → Remains policy F G freed → (earlier waits : List Pending) → AllBlocked policy F earlier waits
    → AllBlockedBut policy G freed earlier waits
remain policy F G freed remains earlier [] all = tt
remain policy F G freed remains earlier (wait ∷ waits) all =
    (λ away. remains earlier wait all.0 away, remain policy F G freed remains (earlier ++ wait ∷ []) waits all.1)

pub changed_but : (policy : Policy) (F G : FileState) (freed : Freed) → Remains policy F G freed → G.waits ≡ F.waits → IsSettled policy F
    → AreBlockedBut policy G freed
changed_but policy F G freed remains same settled =
    subst (λ (ws : List Pending). AllBlockedBut policy G freed [] ws) (sym same) (remain policy F G freed remains [] F.waits settled)

-- a set frees what it meets at most
pub set_frees_there : (policy : Policy) (F : FileState) (owner : ℕ) (span : Span) (mode : Option Mode)
    → SetFrees policy F owner span mode (Meeting (record { family = Bytes; span = span }))
set_frees_there policy F owner span mode = λ G sets same settled.
    changed_but policy F G (Meeting (record { family = Bytes; span = span })) (λ earlier wait blocked away. blocked_away F G owner span mode policy Bytes sets earlier earlier wait away (λ any. any) blocked) same settled

-- where it takes nothing, under the held policy nobody, and else waits of its owner there
pub set_frees_nobody : (F : FileState) (owner : ℕ) (span : Span) (mode : Option Mode) → TakesNothing F owner span mode → SetFrees Held F owner span mode Nobody
set_frees_nobody F owner span mode keeps = λ G sets same settled.
    changed_but Held F G Nobody (λ earlier wait blocked away. held_kept F G owner span mode sets keeps wait.family wait blocked) same settled

kept_but_own : (F G : FileState) (owner : ℕ) (span : Span) (mode : Option Mode) → SetsBytes F owner span mode G → TakesNothing F owner span mode
    → Remains Queue F G (Of owner (record { family = Bytes; span = span }))
kept_but_own F G owner span mode sets keeps earlier wait (inl held) others = inl (held_kept F G owner span mode sets keeps wait.family wait held)
kept_but_own F G owner span mode sets keeps earlier wait (inr queued) others = elim (reaches_or_not (record { family = Bytes; span = span }) wait) [
  | inr away ↦ blocked_away F G owner span mode Queue Bytes sets earlier earlier wait away (λ any. any) (inr queued)
  | inl reaches ↦ elim (cases_eq wait.owner owner) [
    | inl same ↦ absurd (others (same, reaches))
    | inr differs ↦ inr (queued.0, λ has. queued.1 (has_of_others F G owner span mode sets wait.family wait differs has))
  ]
]

pub set_frees_own : (F : FileState) (owner : ℕ) (span : Span) (mode : Option Mode) → TakesNothing F owner span mode
    → SetFrees Queue F owner span mode (Of owner (record { family = Bytes; span = span }))
set_frees_own F owner span mode keeps = λ G sets same settled.
    changed_but Queue F G (Of owner (record { family = Bytes; span = span })) (λ earlier wait blocked away. kept_but_own F G owner span mode sets keeps earlier wait blocked away) same settled

-- a change of no lock frees nobody
pub same_frees_nobody : (policy : Policy) (F G : FileState) → SameLocks F G → G.waits ≡ F.waits → IsSettled policy F → AreBlockedBut policy G Nobody
same_frees_nobody policy F G same waits settled =
    subst (λ (H : FileState). AreBlockedBut policy H Nobody) (sym (file_from_same F G (record { locks = same; waits = waits })))
    (settled_but policy F Nobody [] F.waits settled)

-- what blocks nobody is nothing
keeps_none : (held : Option Mode) → Keeps held None → held ≡ None
keeps_none None keeps = refl
keeps_none (Some Read) keeps = absurd (keeps Write tt)
keeps_none (Some Write) keeps = absurd (keeps Write tt)

pub unlock_frees_nobody : (policy : Policy) (F : FileState) (owner : ℕ) (span : Span) → TakesNothing F owner span None → SetFrees policy F owner span None Nobody
unlock_frees_nobody policy F owner span keeps = λ G sets waits settled.
    same_frees_nobody policy F G (record { bytes = λ other byte. sets.bytes other byte ∙ at other byte (owner == other && is_covered span byte) refl; flocks = sets.flocks }) waits settled
  where
    at : (other byte : ℕ) (b : Bool) → (owner == other && is_covered span byte) ≡ b → (if b then None else F.bytes other byte) ≡ F.bytes other byte
    at other byte true here = let h = hit owner span other byte here in
        sym (ap (λ (n : ℕ). F.bytes n byte) (sym h.is) ∙ keeps_none (F.bytes owner byte) (keeps byte h.covered))
    at other byte false away = refl

-- the locks stay where a wait leaves
same_still : (policy : Policy) (F G : FileState) → SameLocks F G → (earlier later : List Pending) (wait : Pending)
    → (Any (λ v. PendingsConflict v wait) earlier → Any (λ v. PendingsConflict v wait) later)
    → IsWaitBlocked policy F earlier wait → IsWaitBlocked policy G later wait
same_still policy F G same earlier later wait behind blocked =
    subst (λ (H : FileState). IsWaitBlocked policy H later wait)
    (sym (file_from_same (record { bytes = F.bytes; flocks = F.flocks; waits = G.waits }) G (record { locks = record { bytes = same.bytes; flocks = same.flocks }; waits = refl })))
    (at policy blocked)
  where
    at : (policy : Policy) → IsWaitBlocked policy F earlier wait → IsWaitBlocked policy (record { bytes = F.bytes; flocks = F.flocks; waits = G.waits }) later wait
    at Held held = held
    at Queue (inl held) = inl held
    at Queue (inr queued) = inr (behind queued.0, λ has. queued.1 (has_same wait.family has))
      where
        has_same : (of : Family) → HasIn of (record { bytes = F.bytes; flocks = F.flocks; waits = G.waits }) wait → HasIn of F wait
        has_same Bytes has = has
        has_same Whole has = has

-- under the held policy a wait that leaves frees nobody, and under the queue policy those that it meets
module _ (policy : Policy) (F G : FileState) (before : List Pending) (left : Pending) (behind : List Pending) (leaves : Leaves F before left behind G) where
  leaving_frees : (freed : Freed) → Stays policy F G left Nobody freed (λ wait. Unit {0}) → IsSettled policy F → AreBlockedBut policy G freed
  leaving_frees freed stays settled =
      subst (λ (ws : List Pending). AllBlockedBut policy G freed [] ws) (sym leaves.waits)
      (stay_without policy F G left Nobody freed (λ wait. Unit {0}) stays [] before behind (λ i wait within. tt)
      (subst (λ (ws : List Pending). AllBlockedBut policy F Nobody [] ws) leaves.place (settled_but policy F Nobody [] F.waits settled)))

  beyond_left : Stays policy F G left Nobody (Meeting (reach_of left)) (λ wait. Unit {0})
  beyond_left earlier later wait any_range follows blocked away =
      same_still policy F G leaves.locks earlier later wait
      (λ any. elim (follows wait any) [ inl there ↦ there | inr conflict ↦ absurd (away (conflict_reaches left wait conflict)) ]) (blocked (λ none. none))

pub leaving_frees_there : (policy : Policy) (left : Pending) → LeavingFrees policy left (Meeting (reach_of left))
leaving_frees_there policy left = λ F G before behind leaves settled.
    leaving_frees policy F G before left behind leaves (Meeting (reach_of left)) (beyond_left policy F G before left behind leaves) settled

held_anyhow : (F G : FileState) → SameLocks F G → (earlier later : List Pending) (wait : Pending) → IsWaitBlocked Held F earlier wait → IsWaitBlocked Held G later wait
held_anyhow F G same earlier later wait held = same_still Held F G same earlier earlier wait (λ any. any) held

pub leaving_frees_nobody : (left : Pending) → LeavingFrees Held left Nobody
leaving_frees_nobody left = λ F G before behind leaves settled.
    leaving_frees Held F G before left behind leaves Nobody
    (λ earlier later wait any_range follows blocked away. held_anyhow F G leaves.locks earlier later wait (blocked away)) settled

-- a release of locks that lie within a range is an unlock of that range
pub release_frees_there : (policy : Policy) (F : FileState) (owner : ℕ) (span : Span) → ((byte : ℕ) → ¬ Covers span byte → F.bytes owner byte ≡ None)
    → Frees policy F (ClearsBytes F owner) (Meeting (record { family = Bytes; span = span }))
release_frees_there policy F owner span within = λ G clears same settled.
    set_frees_there policy F owner span None G (record { bytes = λ other byte. clears.bytes other byte ∙ at other byte; flocks = clears.flocks }) same settled
  where
    beyond : (byte : ℕ) (b : Bool) → is_covered span byte ≡ b → None ≡ (if b then None else F.bytes owner byte)
    beyond byte true there = refl
    beyond byte false away = sym (within byte (λ covered. (let is : is_covered span byte ≡ true = covered_is span byte covered in let no : true ≡ false = sym is ∙ away in cc)))

    each : (other byte : ℕ) (b : Bool) → (owner == other) ≡ b → (if b then None else F.bytes other byte) ≡ (if b && is_covered span byte then None else F.bytes other byte)
    each other byte true same = subst (λ (n : ℕ). None ≡ (if is_covered span byte then None else F.bytes n byte)) (eqb-true owner other same) (beyond byte (is_covered span byte) refl)
    each other byte false differs = refl

    at : (other byte : ℕ) → (if owner == other then None else F.bytes other byte) ≡ (if owner == other && is_covered span byte then None else F.bytes other byte)
    at other byte = each other byte (owner == other) refl

pub release_frees_nobody : (policy : Policy) (F : FileState) (owner : ℕ) → ((byte : ℕ) → F.bytes owner byte ≡ None) → Frees policy F (ClearsBytes F owner) Nobody
release_frees_nobody policy F owner none = λ G clears waits settled.
    same_frees_nobody policy F G (record { bytes = λ other byte. clears.bytes other byte ∙ at other byte (owner == other) refl; flocks = clears.flocks }) waits settled
  where
    at : (other byte : ℕ) (b : Bool) → (owner == other) ≡ b → (if b then None else F.bytes other byte) ≡ F.bytes other byte
    at other byte true same = sym (subst (λ (n : ℕ). F.bytes n byte ≡ None) (eqb-true owner other same) (none byte))
    at other byte false differs = refl

-- a release of a flock lock frees waits for one
pub flock_frees_there : (policy : Policy) (F : FileState) (owner : ℕ) (span : Span) → Frees policy F (SetsFlock F owner None) (Meeting (record { family = Whole; span = span }))
flock_frees_there policy F owner span = λ G sets same settled.
    changed_but policy F G (Meeting (record { family = Whole; span = span })) (λ earlier wait blocked away. blocked_away F G owner span None policy Whole sets earlier earlier wait away (λ any. any) blocked) same settled

pub flock_frees_nobody : (policy : Policy) (F : FileState) (owner : ℕ) → F.flocks owner ≡ None → Frees policy F (SetsFlock F owner None) Nobody
flock_frees_nobody policy F owner none = λ G sets waits settled.
    same_frees_nobody policy F G (record { bytes = sets.bytes; flocks = λ other. sets.flocks other ∙ at other (owner == other) refl }) waits settled
  where
    at : (other : ℕ) (b : Bool) → (owner == other) ≡ b → (if b then None else F.flocks other) ≡ F.flocks other
    at other true same = sym (subst (λ (n : ℕ). F.flocks n ≡ None) (eqb-true owner other same) none)
    at other false differs = refl

-- a wait that isn't among those that may be freed is blocked
pub blocked_unless_freed : (policy : Policy) (F : FileState) (freed : Freed) (i : ℕ) (wait : Pending) → AreBlockedBut policy F freed → slice_get F.waits i ≡ Some wait
    → ¬ IsAmong freed wait → IsWaitBlocked policy F (take i F.waits) wait
blocked_unless_freed policy F freed i wait others is away = blocked_at policy F freed [] F.waits i wait others is away

-- what a set leaves in the way
pub takes_nothing_by_write : (F : FileState) (owner : ℕ) (span : Span) (mode : Option Mode) → mode ≡ Some Write → TakesNothing F owner span mode
takes_nothing_by_write F owner span mode is =
    subst (λ (m : Option Mode). TakesNothing F owner span m) (sym is) (λ byte covered wanted conflicts. write_conflicts Write wanted refl)

keeps_read : (held : Option Mode) → ¬ HeldConflicts held Read → Keeps held (Some Read)
keeps_read None free = λ wanted conflicts. absurd conflicts
keeps_read (Some Read) free = λ wanted conflicts. conflicts
keeps_read (Some Write) free = absurd (free tt)

pub takes_nothing_by_read : (F : FileState) (owner : ℕ) (span : Span) (mode : Option Mode) → mode ≡ Some Read
    → ((byte : ℕ) → Covers span byte → ¬ HeldConflicts (F.bytes owner byte) Read) → TakesNothing F owner span mode
takes_nothing_by_read F owner span mode is free =
    subst (λ (m : Option Mode). TakesNothing F owner span m) (sym is) (λ byte covered. keeps_read (F.bytes owner byte) (free byte covered))

keeps_nothing : (held : Option Mode) → ¬ HeldConflicts held Write → Keeps held None
keeps_nothing None free = λ wanted conflicts. conflicts
keeps_nothing (Some Read) free = absurd (free tt)
keeps_nothing (Some Write) free = absurd (free tt)

pub takes_nothing_by_unlock : (F : FileState) (owner : ℕ) (span : Span) (mode : Option Mode) → mode ≡ None
    → ((byte : ℕ) → Covers span byte → ¬ HeldConflicts (F.bytes owner byte) Write) → TakesNothing F owner span mode
takes_nothing_by_unlock F owner span mode is free =
    subst (λ (m : Option Mode). TakesNothing F owner span m) (sym is) (λ byte covered. keeps_nothing (F.bytes owner byte) (free byte covered))

-- a grant under a write lock on all of the place, any other grant, and whatever it may free
pub barred_behind : (lock reach : Reach) (granted : Pending) → lock ≡ reach_of granted → granted.mode ≡ Write
    → ((wait : Pending) → Reaches reach wait → Reaches lock wait) → FreesBehind (Meeting reach) granted (Of granted.owner lock)
barred_behind lock reach granted is write covers = λ policy F G ranges grants others.
    subst (λ (l : Reach). AreBlockedBut policy G (Of granted.owner l)) (sym is)
    (granted_barred policy F granted G reach grants write (subst (λ (l : Reach). ((wait : Pending) → Reaches reach wait → Reaches l wait)) is covers) ranges others)

pub beyond_behind : (lock reach hull : Reach) (granted : Pending) → lock ≡ reach_of granted
    → ((wait : Pending) → (Reaches reach wait ⊎ Reaches lock wait) → Reaches hull wait) → FreesBehind (Meeting reach) granted (Meeting hull)
beyond_behind lock reach hull granted is encloses = λ policy F G ranges grants others.
    granted_beyond policy F granted G reach hull grants
    (subst (λ (l : Reach). ((wait : Pending) → (Reaches reach wait ⊎ Reaches l wait) → Reaches hull wait)) is encloses) ranges others

pub any_behind : (freed : Freed) (granted : Pending) → FreesBehind freed granted Anybody
any_behind freed granted = λ policy F G ranges grants others. any_but policy G [] G.waits

pub own_behind : {owner : ℕ} (freed : Freed) (reach : Reach) (granted : Pending) (after : Freed) → freed ≡ Of owner reach → FreesBehind (Meeting reach) granted after
    → FreesBehind freed granted after
own_behind {owner} freed reach granted after is frees = subst (λ (f : Freed). FreesBehind f granted after) (sym is)
    (λ policy F G ranges grants others. frees policy F G ranges grants (but_more policy F (Of owner reach) (Meeting reach) (λ wait among. among.1) [] F.waits others))

pub meeting_behind : (freed : Freed) (reach : Reach) (granted : Pending) (after : Freed) → freed ≡ Meeting reach → FreesBehind (Meeting reach) granted after
    → FreesBehind freed granted after
meeting_behind freed reach granted after is frees = subst (λ (f : Freed). FreesBehind f granted after) (sym is) frees
