-- What flock comes to: at once, refused, or later; for `Machine::convert_flock`, `Machine::flock_mode`, `Machine::grant_flock` and
-- `Machine::test_flock`.
use Rattle.lock_manager.proofs.Common.{rules, arith, ℕ, ◌≡◌, refl, sym, ◌∙◌, ap, subst, Bool, true, false, Option, Some, None, List, [], ◌∷◌, ◌++◌, inl, inr, ◌⊎◌, eq-eqb, IsFalse, slice_set, ◌==◌, not, list_any_at, common_steps, slice_get_within, list_any}
use Rattle.lock_manager.proofs.Common.{Mode, flock_mode_in, Description, Look, Whole, Wait, Locks, IsBlockedByLock, IsQueued, wait_of, Machine, Note, Answer, Live, Waiting, State, locks_held, with_flock_mode, with_lock, with_process, wanted_flock, FlockTestComesTo, FlockModeComesTo, without_wait, Settles, granted, Rules, AreApart, SameMachine, Shows, machine_rules, machine_locks, machine_waits}
use Rattle.std.proofs.Common.{IsTrue, ◌↔◌}
use Rattle.std.proofs.lemmas.List.Folds.{find_at}
use Rattle.std.proofs.lemmas.Option.{get_or_from_slice_get}
use Rattle.lock_manager.specs.declared.request.Errno.TheVariants.{EAGAIN}
use Rattle.lock_manager.specs.declared.request.Reply.TheVariants as replies
use Rattle.lock_manager.specs.declared.request.Note.TheVariants.{Waits}
use Rattle.lock_manager.specs.FlockCalls.{ConversionComesTo}
use Rattle.lock_manager.specs.WaitsKept.{is_flock_wait}
use Rattle.lock_manager.proofs.calls.SetLemmas.{at_state, is_blocked, not_blocked}
use Rattle.lock_manager.proofs.kept.GrantLemmas.{without_middle}

-- where a wait in the list passes a test, some wait does
pub found_asks : (test : Wait → Bool) (waits : List Wait) (p : ℕ) (wait : Wait) → wait_of waits p ≡ Some wait → test wait ≡ true → list_any test waits ≡ true
found_asks test waits p wait found passes =
    let at = sym (find_at (λ wait. wait.p == p) waits) ∙ found in
    list_any_at test waits _ wait (slice_get_within waits _ wait at) (ap test (get_or_from_slice_get waits _ wait wait at) ∙ passes)

-- a wait for a flock lock is one for that of its description on its file
pub is_its_own_flock : (wait : Wait) (description : ℕ) → wait.family ≡ Whole → wait.owner ≡ Description description
    → is_flock_wait wait.file description wait ≡ true
is_its_own_flock wait description family owner = grind (arith, common_steps, eq-eqb)

-- a machine that shows the state without the wait and with its flock lock shows what is granted
pub shows_granted_flock : (machine : Machine) (S : State) (before : List Wait) (wait : Wait) (after : List Wait) (description : ℕ)
    → wait.family ≡ Whole → wait.owner ≡ Description description
    → AreApart S.waits → S.waits ≡ before ++ wait ∷ after
    → Shows machine (with_flock_mode (with_process (without_wait S wait.p) wait.p Live) wait.file description (Some wait.mode))
    → Shows machine (granted S before wait after)
shows_granted_flock machine S before wait after description family owner apart place h = grind (arith, common_steps, without_middle)

-- in each state that old shows the test comes to this note, before whatever grants, and new shows the state that it leaves
abbrev pub TestTells : Machine → Machine → Bool → Wait → Note → Type 0
TestTells old new nb wanted note =
    (grants : List Note) (S : State) → Shows old S →
    (T : State) × FlockTestComesTo (machine_rules old) S nb wanted grants (record { told = note ∷ grants; after = T }) × Shows new T

-- what blocks the test
abbrev pub IsTestBlocked : Machine → Bool → Wait → Locks → List Wait → Type 0
IsTestBlocked old nb wanted locks waits = IsBlockedByLock locks wanted ⊎ (IsFalse nb × IsQueued (machine_rules old).policy waits wanted)

-- who may wait is who doesn't ask never to
pub asked : (old : Machine) (nb : Bool) (wanted : Wait)
    → (IsBlockedByLock (machine_locks old) wanted ⊎ (IsTrue (not nb) × IsQueued (machine_rules old).policy (machine_waits old) wanted))
    ↔ IsTestBlocked old nb wanted (machine_locks old) (machine_waits old)
asked old nb wanted = grind (arith, common_steps)

-- nothing blocks it
pub flock_locked : (old new : Machine) (nb : Bool) (look : Look) (wanted : Wait) (note : Note) → wanted ≡ wanted_flock wanted.p wanted.n look wanted.mode
    → note ≡ Answer wanted.p wanted.n replies.Ok → ¬ IsTestBlocked old nb wanted (machine_locks old) (machine_waits old)
    → ((S : State) → Shows old S → Shows new (with_flock_mode S look.file look.desc (Some wanted.mode))) → TestTells old new nb wanted note
flock_locked old new true look wanted note is note_is free stands grants S h = (
  with_lock S wanted,
  inr (λ b. at_state old S (λ locks waits. ¬ IsTestBlocked old true wanted locks waits) h free (inl b), ap (λ k. record { told = k ∷ grants; after = with_lock S wanted }) note_is),
  subst (λ w. Shows new (with_lock S w)) (sym is) (stands S h),
)
flock_locked old new false look wanted note is note_is free stands grants S h =
    let here = at_state old S (λ locks waits. ¬ IsTestBlocked old false wanted locks waits) h free in (
      with_lock S wanted,
      inr (not_blocked (machine_rules old).policy (locks_held S) S.waits wanted (λ b. here (inl b)) (λ q. here (inr (refl, q))), ap (λ k. record { told = k ∷ grants; after = with_lock S wanted }) note_is),
      subst (λ w. Shows new (with_lock S w)) (sym is) (stands S h),
    )

-- a lock blocks it, and it doesn't wait
pub flock_held_off : (old : Machine) (nb : Bool) (wanted : Wait) (note : Note) → nb ≡ true → note ≡ Answer wanted.p wanted.n (replies.Err EAGAIN)
    → IsTestBlocked old nb wanted (machine_locks old) (machine_waits old) → TestTells old old nb wanted note
flock_held_off old nb wanted note h h2 h3 h4 h5 h6 = grind (arith, common_steps, at_state)

-- it waits
pub flock_waiting : (old new : Machine) (nb : Bool) (wanted : Wait) → nb ≡ false
    → IsTestBlocked old nb wanted (machine_locks old) (machine_waits old)
    → ((S : State) → Shows old S → Shows new (with_process (record S { waits = S.waits ++ wanted ∷ [] }) wanted.p Waiting))
    → TestTells old new nb wanted (Waits wanted.p wanted.n)
flock_waiting old new nb wanted h h2 h3 h4 h5 h6 = search (rules, at_state, is_blocked)

-- a place that is kept first changes nothing of that
pub flock_placed : (old middle new : Machine) (nb : Bool) (wanted : Wait) (note : Note) → SameMachine old middle → TestTells middle new nb wanted note
    → TestTells old new nb wanted note
flock_placed old middle new nb wanted note same tests grants S h =
    let tested = tests grants S (same.shows S h) in (
      tested.0,
      subst (λ (rs : Rules). FlockTestComesTo rs S nb wanted grants (record { told = note ∷ grants; after = tested.0 })) same.rules tested.1,
      tested.2,
    )

-- a conversion: what the removal, the settling and the test come to
pub converted : (old removed settled new : Machine) (nb : Bool) (look : Look) (wanted : Wait) (note : Note) (grants told : List Note)
    → machine_rules removed ≡ machine_rules old → machine_rules settled ≡ machine_rules removed
    → ((S : State) → Shows old S → Shows removed (with_flock_mode S look.file look.desc None))
    → ((S : State) → Shows removed S → (T : State) × Settles (machine_rules removed).policy S grants T × Shows settled T)
    → TestTells settled new nb wanted note → told ≡ note ∷ grants
    → (S : State) → Shows old S → (T : State) × ConversionComesTo (machine_rules old) S look nb wanted (record { told = told; after = T }) × Shows new T
converted old removed settled new nb look wanted note grants told first second removes settles tests is S h =
    let given = settles (with_flock_mode S look.file look.desc None) (removes S h) in
    let tested = tests grants given.0 given.2 in (
      tested.0,
      (
        grants,
        given.0,
        subst (λ (rs : Rules). Settles rs.policy (with_flock_mode S look.file look.desc None) grants given.0) first given.1,
        subst (λ t. FlockTestComesTo (machine_rules old) given.0 nb wanted grants (record { told = t; after = tested.0 })) (sym is)
            (subst (λ (rs : Rules). FlockTestComesTo rs given.0 nb wanted grants (record { told = note ∷ grants; after = tested.0 })) (second ∙ first) tested.1),
      ),
      tested.2,
    )

-- the first note of a list is another one
pub first_set : (a b : Note) (grants items : List Note) → items ≡ (a ∷ []) ++ grants → slice_set items 0 b ≡ b ∷ grants
first_set a b grants items is = ap (λ notes. slice_set notes 0 b) is

-- without a lock the request is tested at once
pub flock_tested : (old new : Machine) (nb : Bool) (look : Look) (wanted : Wait) (note : Note) (mode : Option Mode) (told : List Note)
    → mode ≡ (machine_locks old).flocks look.file look.desc → mode ≡ None
    → TestTells old new nb wanted note → told ≡ note ∷ []
    → (S : State) → Shows old S
    → (T : State) × FlockModeComesTo (machine_rules old) S look nb wanted (flock_mode_in S.flock_changes look.file look.desc)
    (record { told = told; after = T }) × Shows new T
flock_tested old new nb look wanted note mode told is none tests told_is S h =
    let tested = tests [] S h in (
      tested.0,
      subst (λ held. FlockModeComesTo (machine_rules old) S look nb wanted held (record { told = told; after = tested.0 }))
          (sym none ∙ is ∙ h.flocks look.file look.desc)
          (subst (λ t. FlockTestComesTo (machine_rules old) S nb wanted [] (record { told = t; after = tested.0 })) (sym told_is) tested.1),
      tested.2,
    )
