-- Waits that are known to be blocked on all files but some, and what a change of the list or of the locks leaves of that: for
-- `Waits::forget_changes`, `Waits::is_blocked_among`, `Waits::join` and others.
use Rattle.wait_core.proofs.Common.{ℕ, ◌≡◌, ◌≢◌, ◌<◌, ◌≤◌, ◌∙◌, ◌⊎◌, inl, inr, sym, ap, subst, refl, arith, Bool, true, false, not, zero, suc, Some, List, [], ◌∷◌, ◌++◌, All, Any, length, get_or, take, append_assoc, common_steps, ◌==◌, ◌||◌, IsTrue, IsFalse, AllPairs, filter, cases_Bool, cases_eq, nat_tests, All-nil, All-cons, All-head, All-tail, All-push, All-weaker, Span, Owner, Process, ProcessBlocks, Bytes, Policy, Held, Queue, Wait, Waits, Locks, AllBlocked, IsBlocked, WaitsConflict, IsTraditional, WaitsFor, has_file, IsBlockedWait, IsOn, AllBlockedElsewhere, IsWellFormed, waits_of, AreTold}
use Rattle.std.proofs.Common.{append-nil}
use Rattle.std.proofs.lemmas.Option.{same_Some}
use Rattle.std.proofs.lemmas.List.Elements.{filter-append}
use Rattle.range_core.specs.Ranges.{IsByteRange}
use Rattle.wait_core.specs.declared.Family.{Family}
use Rattle.wait_core.specs.declared.Family.TheVariants.{Whole}
use Rattle.wait_core.specs.declared.files.FileSet.{FileSet}
use Rattle.wait_core.specs.Blocking.{IsBlockedIn}
use Rattle.wait_core.specs.Settled.{AllBlockedWhere, AgreeElsewhere, AgreeOff}
use Rattle.wait_core.specs.WellFormed.{can_own}
use Rattle.wait_core.specs.WaitsView.{wait_of, IsTold}
use Rattle.wait_core.proofs.AnyLemmas.{Any-filter, Any-here, Any-there, Any-weaker}
use Rattle.wait_core.proofs.PairLemmas.{blocked_wait, one_wait}

-- the two have the same locks on the file
pub record SameOn (file : ℕ) (old new : Locks) : Type 0 where
  pub bytes : (owner : Owner) (byte : ℕ) → new.bytes file owner byte ≡ old.bytes file owner byte
  pub flocks : (description : ℕ) → new.flocks file description ≡ old.flocks file description

blocked_in_same : (family : Family) (old new : Locks) (wait : Wait) → SameOn wait.file old new → IsBlockedIn family old wait → IsBlockedIn family new wait
blocked_in_same family old new wait h h2 = grind (arith, common_steps)

-- a wait is blocked still by locks that are the same on its file
blocked_same : (policy : Policy) (old new : Locks) (earlier : List Wait) (wait : Wait) → SameOn wait.file old new → IsBlocked policy old earlier wait
    → IsBlocked policy new earlier wait
blocked_same policy old new earlier wait h h2 = grind (arith, common_steps, blocked_in_same)

-- more files, and locks that are the same on all others
pub elsewhere_after : (files more : FileSet) (policy : Policy) (old new : Locks)
    → ((f : ℕ) → IsFalse (has_file more f) → IsFalse (has_file files f) × SameOn f old new)
    → (earlier waits : List Wait) → AllBlockedElsewhere files policy old earlier waits → AllBlockedElsewhere more policy new earlier waits
elsewhere_after files more policy old new others earlier [] all = tt
elsewhere_after files more policy old new others earlier (wait ∷ waits) all = (
  λ elsewhere. (let other = others wait.file elsewhere in blocked_same policy old new earlier wait other.1 (all.0 other.0)),
  elsewhere_after files more policy old new others (earlier ++ wait ∷ []) waits all.1,
)

-- where some bytes of one file changed, a wait that isn't on these is blocked by the same locks
blocked_in_off : (family : Family) (old new : Locks) (file : ℕ) (span : Span) (wait : Wait) → AgreeOff file span old new → IsByteRange wait.span
    → ¬ IsOn file span wait → IsBlockedIn family old wait → IsBlockedIn family new wait
blocked_in_off family old new file span wait agree range off blocked = grind (arith, common_steps, cases_eq, blocked_in_same)

-- so it stays blocked
blocked_off : (policy : Policy) (old new : Locks) (file : ℕ) (span : Span) (earlier : List Wait) (wait : Wait) → AgreeOff file span old new
    → IsByteRange wait.span → ¬ IsOn file span wait → IsBlocked policy old earlier wait → IsBlocked policy new earlier wait
blocked_off policy old new file span earlier wait agree range off blocked = grind (arith, common_steps, blocked_in_off)

-- where no wait is on these bytes, each stays blocked
pub elsewhere_off : (files : FileSet) (policy : Policy) (old new : Locks) (file processes : ℕ) (span : Span) → AgreeOff file span old new
    → (earlier waits : List Wait) → All (IsWellFormed processes) waits → ¬ Any (IsOn file span) waits
    → AllBlockedElsewhere files policy old earlier waits → AllBlockedElsewhere files policy new earlier waits
elsewhere_off files policy old new file processes span agree earlier [] well_formed none all = tt
elsewhere_off files policy old new file processes span agree earlier (wait ∷ waits) well_formed none all = (
  λ elsewhere. blocked_off policy old new file span earlier wait agree (All-head (IsWellFormed processes) wait waits well_formed).range
      (λ on. none (Any-here (IsOn file span) wait waits on)) (all.0 elsewhere),
  elsewhere_off files policy old new file processes span agree (earlier ++ wait ∷ []) waits (All-tail (IsWellFormed processes) wait waits well_formed)
      (λ any. none (Any-there (IsOn file span) wait waits any)) all.1,
)

-- what is in neither of two
neither : (a b : Bool) → IsFalse (a || b) → (a ≡ false) × (b ≡ false)
neither true b is = absurd (let e : true ≡ false = is in cc)
neither false b is = (refl, is)

-- one file more
pub elsewhere_touched : (files more : FileSet) (policy : Policy) (old new : Locks) (file : ℕ) → ((f : ℕ) → has_file more f ≡ (f == file || has_file files f))
    → AgreeElsewhere file old new → (waits : List Wait) → AllBlockedElsewhere files policy old [] waits → AllBlockedElsewhere more policy new [] waits
elsewhere_touched files more policy old new file is agree waits all = grind (arith, common_steps, elsewhere_after, neither, nat_tests)

-- one file more, and the same locks
pub elsewhere_more : (files more : FileSet) (policy : Policy) (locks : Locks) (file : ℕ) → ((f : ℕ) → has_file more f ≡ (f == file || has_file files f))
    → (waits : List Wait) → AllBlockedElsewhere files policy locks [] waits → AllBlockedElsewhere more policy locks [] waits
elsewhere_more files more policy locks file is waits all =
    elsewhere_touched files more policy locks locks file is
    (record { bytes = λ other owner byte differs. refl; flocks = λ other description differs. refl }) waits all

-- a wait more, on one of the files or blocked
pub elsewhere_joined : (files : FileSet) (policy : Policy) (locks : Locks) (earlier waits : List Wait) (wait : Wait)
    → (IsFalse (has_file files wait.file) → IsBlocked policy locks (earlier ++ waits) wait)
    → AllBlockedElsewhere files policy locks earlier waits → AllBlockedElsewhere files policy locks earlier (waits ++ wait ∷ [])
elsewhere_joined files policy locks earlier [] wait blocked all =
    (λ elsewhere. subst (λ (es : List Wait). IsBlocked policy locks es wait) (append-nil earlier) (blocked elsewhere), tt)
elsewhere_joined files policy locks earlier (v ∷ waits) wait blocked all = (
  all.0,
  elsewhere_joined files policy locks (earlier ++ v ∷ []) waits wait
      (λ elsewhere. subst (λ (es : List Wait). IsBlocked policy locks es wait) (sym (append_assoc earlier (v ∷ []) waits)) (blocked elsewhere)) all.1,
)

-- the file that was added is among the files
pub among_more : (files more : FileSet) (file : ℕ) → ((f : ℕ) → has_file more f ≡ (f == file || has_file files f)) → IsTrue (has_file more file)
among_more files more file is = grind (arith, common_steps, nat_tests)

module _ (files : FileSet) (p : ℕ) where
  -- the wait, if it is of the process, is on one of the files
  abbrev pub MayLeave : Wait → Type 0
  MayLeave wait = wait.p ≡ p → IsTrue (has_file files wait.file)

  -- of the earlier waits those that conflict with one on another file stay
  conflict_stays : (v wait : Wait) → IsFalse (has_file files wait.file) → WaitsConflict v wait × MayLeave v → not (v.p == p) ≡ true
  conflict_stays v wait elsewhere (conflict, leaves) = elim (cases_eq v.p p) [
    | inl same ↦ absurd (let e : true ≡ false = sym (leaves same) ∙ ap (has_file files) conflict.file ∙ elsewhere in cc)
    | inr other ↦ grind (arith, nat_tests)
  ]

  blocked_left : (policy : Policy) (locks : Locks) (earlier : List Wait) (wait : Wait) → All MayLeave earlier → IsFalse (has_file files wait.file)
      → IsBlocked policy locks earlier wait → IsBlocked policy locks (filter (λ w. not (w.p == p)) earlier) wait
  blocked_left Held locks earlier wait leave elsewhere blocked = blocked
  blocked_left Queue locks earlier wait leave elsewhere (inl by_lock) = inl by_lock
  blocked_left Queue locks earlier wait leave elsewhere (inr (k, v, within, is, conflict)) =
      let both : Any (λ u. WaitsConflict u wait × MayLeave u) earlier = (k, v, within, is, (conflict, subst MayLeave is (leave k v within))) in
      inr (Any-weaker (λ u. WaitsConflict u wait × MayLeave u) (λ u. WaitsConflict u wait) (λ u h. h.0) (filter (λ w. not (w.p == p)) earlier)
      (Any-filter (λ u. WaitsConflict u wait × MayLeave u) (λ w. not (w.p == p)) (λ u h. conflict_stays u wait elsewhere h) earlier both))

  -- the waits of a process left, which were on these files
  pub elsewhere_left : (policy : Policy) (locks : Locks) (earlier waits : List Wait) → All MayLeave earlier → All MayLeave waits
      → AllBlockedElsewhere files policy locks earlier waits
      → AllBlockedElsewhere files policy locks (filter (λ w. not (w.p == p)) earlier) (filter (λ w. not (w.p == p)) waits)
  elsewhere_left policy locks earlier [] before leave all = tt
  elsewhere_left policy locks earlier (wait ∷ waits) before leave all =
      let stay : Wait → Bool = λ w. not (w.p == p) in
      let rest = elsewhere_left policy locks (earlier ++ wait ∷ []) waits (All-push MayLeave earlier wait before (All-head MayLeave wait waits leave))
      (All-tail MayLeave wait waits leave) all.1 in
      elim (cases_Bool (not (wait.p == p))) [
        | inl kept ↦
            let one : filter stay (wait ∷ []) ≡ wait ∷ [] = rw kept refl in
            let more : filter stay (earlier ++ wait ∷ []) ≡ filter stay earlier ++ wait ∷ [] =
            filter-append stay earlier (wait ∷ []) ∙ ap (λ (l : List Wait). filter stay earlier ++ l) one in
            let whole : filter stay (wait ∷ waits) ≡ wait ∷ filter stay waits = rw kept refl in
            subst (AllBlockedElsewhere files policy locks (filter stay earlier)) (sym whole) (
              λ elsewhere. blocked_left policy locks earlier wait before elsewhere (all.0 elsewhere),
              subst (λ (l : List Wait). AllBlockedElsewhere files policy locks l (filter stay waits)) more rest,
            )
        | inr gone ↦
            let none : filter stay (wait ∷ []) ≡ [] = rw gone refl in
            let same : filter stay (earlier ++ wait ∷ []) ≡ filter stay earlier =
            filter-append stay earlier (wait ∷ []) ∙ ap (λ (l : List Wait). filter stay earlier ++ l) none ∙ append-nil (filter stay earlier) in
            let whole : filter stay (wait ∷ waits) ≡ filter stay waits = rw gone refl in
            subst (AllBlockedElsewhere files policy locks (filter stay earlier)) (sym whole)
            (subst (λ (l : List Wait). AllBlockedElsewhere files policy locks l (filter stay waits)) same rest)
      ]

-- the waits of a process are on the file of the one that is found, of which there is one at most
pub file_of_found : (waits : List Wait) (p : ℕ) (wait : Wait) → AllPairs (λ v w. v.p ≢ w.p) waits → wait_of waits p ≡ Some wait
    → All (λ v. v.p ≡ p → v.file ≡ wait.file) waits
file_of_found [] p wait apart found = All-nil (λ v. v.p ≡ p → v.file ≡ wait.file)
file_of_found (v ∷ waits) p wait apart found = elim (cases_eq v.p p) [
  | inl same ↦
      let here : (v.p == p) ≡ true = grind (arith, nat_tests) in
      let is : v ≡ wait = (let some : Some v ≡ Some wait = rw here at found in same_Some v wait some) in
      All-cons (λ u. u.p ≡ p → u.file ≡ wait.file) v waits (λ of_p. ap (λ (w : Wait). w.file) is)
      (λ k d within of_p. absurd (apart 0 (suc k) d (omega arith) (omega (arith, within)) (same ∙ sym of_p)))
  | inr other ↦
      let passed : (v.p == p) ≡ false = grind (arith, nat_tests) in
      All-cons (λ u. u.p ≡ p → u.file ≡ wait.file) v waits (λ of_p. absurd (other of_p))
      (file_of_found waits p wait (λ i j d before within. apart (suc i) (suc j) d (omega (arith, before)) (omega (arith, within))) (rw passed at found))
]

-- where a process has a wait on one of the files, those that leave are on these
pub one_leaves : (files : FileSet) (waits : List Wait) (p : ℕ) (wait : Wait) → AllPairs (λ v w. v.p ≢ w.p) waits → wait_of waits p ≡ Some wait
    → IsTrue (has_file files wait.file) → All (MayLeave files p) waits
one_leaves files waits p wait apart found among = grind (arith, common_steps, All-weaker, file_of_found)

-- on no file: each wait is blocked
pub elsewhere_all : (files : FileSet) (policy : Policy) (locks : Locks) (earlier waits : List Wait) → AllBlocked policy locks earlier waits
    → AllBlockedElsewhere files policy locks earlier waits
elsewhere_all files policy locks earlier [] all = tt
elsewhere_all files policy locks earlier (wait ∷ waits) all = (λ elsewhere. all.0, elsewhere_all files policy locks (earlier ++ wait ∷ []) waits all.1)

pub all_where : (Holds : Wait → Type 0) (policy : Policy) (locks : Locks) → ((wait : Wait) → Holds wait) → (earlier waits : List Wait)
    → AllBlockedWhere Holds policy locks earlier waits → AllBlocked policy locks earlier waits
all_where Holds policy locks each earlier [] all = tt
all_where Holds policy locks each earlier (wait ∷ waits) all = (all.0 (each wait), all_where Holds policy locks each (earlier ++ wait ∷ []) waits all.1)

-- the wait at a place, if this holds of it
pub blocked_at : (Holds : Wait → Type 0) (policy : Policy) (locks : Locks) (earlier waits : List Wait) (i : ℕ) (wait : Wait) → i < length waits
    → get_or waits i wait ≡ wait
    → Holds wait → AllBlockedWhere Holds policy locks earlier waits → IsBlocked policy locks (earlier ++ take i waits) wait
blocked_at Holds policy locks earlier [] i wait within is holds all = absurd (omega (arith, within))
blocked_at Holds policy locks earlier (v ∷ waits) zero wait within is holds all =
    let here : v ≡ wait = is in
    subst (λ (es : List Wait). IsBlocked policy locks es wait) (sym (append-nil earlier))
    (subst (λ (w : Wait). IsBlocked policy locks earlier w) here (all.0 (subst Holds (sym here) holds)))
blocked_at Holds policy locks earlier (v ∷ waits) (suc i) wait within is holds all =
    subst (λ (es : List Wait). IsBlocked policy locks es wait) (append_assoc earlier (v ∷ []) (take i waits))
    (blocked_at Holds policy locks (earlier ++ v ∷ []) waits i wait (omega (arith, within)) is holds all.1)

-- a wait that a process blocks is blocked by a lock
by_process : (family : Family) (locks : Locks) (wait : Wait) (q : ℕ) → IsTrue (can_own family wait.owner) → IsTraditional wait
    → ProcessBlocks (locks.bytes wait.file) q wait.owner wait.span wait.mode
    → IsBlockedIn family locks wait
by_process Bytes locks wait q owner traditional blocks = record { byte = blocks.byte; covered = blocks.covered; other = Process q; blocks = blocks.blocks }
by_process Whole locks wait q owner traditional blocks = absurd (let no : false ≡ true = ap (can_own Whole) (sym traditional) ∙ owner in cc)

-- a wait is blocked by a lock where its process is told to wait for one
pub told_blocked : (waits : Waits) (locks : Locks) (processes k : ℕ) (wait : Wait) → processes ≤ 64 → All (IsWellFormed processes) (waits_of waits)
    → AllPairs (λ v w. v.p ≢ w.p) (waits_of waits)
    → AreTold waits locks → k < length (waits_of waits) → get_or (waits_of waits) k wait ≡ wait → IsTold waits wait.p → IsBlockedIn wait.family locks wait
told_blocked waits locks processes k wait few each apart told within is (j, j_few, has) =
    let known : IsWellFormed processes wait = subst (IsWellFormed processes) is (each k wait within) in
    let for : WaitsFor Held locks (waits_of waits) wait.p (suc j) =
    (told.pairs wait.p (suc j) (omega (arith, few, known.process)) (omega arith) (omega (arith, j_few))).0 has in
    let (at, v, inside, v_is, holds) = blocked_wait locks (waits_of waits) wait.p (suc j) for in
    let same : v ≡ wait = one_wait (waits_of waits) apart at k v wait inside within v_is is holds.of_p in
    let blocked = subst (λ (w : Wait). IsBlockedWait locks wait.p (suc j) w) same holds in
    by_process wait.family locks wait (suc j) known.owner blocked.traditional blocked.blocked

blocked_by_lock : (policy : Policy) (locks : Locks) (earlier : List Wait) (wait : Wait) → IsBlockedIn wait.family locks wait
    → IsBlocked policy locks earlier wait
blocked_by_lock Held locks earlier wait by_lock = by_lock
blocked_by_lock Queue locks earlier wait by_lock = inl by_lock

-- where each of the waits of which the one holds is one of which the other holds, or is blocked by a lock
pub blocked_more : (One Other : Wait → Type 0) (policy : Policy) (locks : Locks) (earlier waits : List Wait)
    → All (λ wait. One wait → Other wait ⊎ IsBlockedIn wait.family locks wait) waits
    → AllBlockedWhere Other policy locks earlier waits → AllBlockedWhere One policy locks earlier waits
blocked_more One Other policy locks earlier [] each all = tt
blocked_more One Other policy locks earlier (wait ∷ waits) each all =
    let Is : Wait → Type 0 = λ w. One w → Other w ⊎ IsBlockedIn w.family locks w in (
      λ one. elim (All-head Is wait waits each one) [
        | inl other ↦ all.0 other
        | inr by_lock ↦ blocked_by_lock policy locks earlier wait by_lock
      ],
      blocked_more One Other policy locks (earlier ++ wait ∷ []) waits (All-tail Is wait waits each) all.1,
    )

-- the wait of a process left
pub elsewhere_without : (files more : FileSet) (policy : Policy) (locks : Locks) (waits : List Wait) (p : ℕ) (wait : Wait)
    → AllPairs (λ v w. v.p ≢ w.p) waits → wait_of waits p ≡ Some wait → ((f : ℕ) → has_file more f ≡ (f == wait.file || has_file files f))
    → AllBlockedElsewhere files policy locks [] waits → AllBlockedElsewhere more policy locks [] (filter (λ w. not (w.p == p)) waits)
elsewhere_without files more policy locks waits p wait apart found known all =
    elsewhere_left more p policy locks [] waits (All-nil (MayLeave more p)) (one_leaves more waits p wait apart found (among_more files more wait.file known))
    (elsewhere_more files more policy locks wait.file known waits all)
