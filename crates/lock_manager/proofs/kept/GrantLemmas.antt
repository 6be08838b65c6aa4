-- A wait that is granted leaves the list, and its owner has the lock: for `Machine::grant_bytes` and `Machine::grant_flock`.
use Rattle.lock_manager.proofs.Common.{common_steps, ℕ, suc, ◌≡◌, ◌<◌, ◌≤◌, ◌+◌, refl, sym, ◌∙◌, ap, subst, List, [], ◌∷◌, ◌++◌, length, Some, Bool, true, inl, inr, arith, eq-eqb, slice_get, slice_set, length-append, cases_Bool, ∥∥₁_elim, ∥∥₁_map, eqb_tells, same_Some}
use Rattle.lock_manager.proofs.Common.{Owner, Process, Description, Book, SetsOwnerMode, room_in, Tables, Bytes, Wait, Locks, wait_of, without_wait_of, Machine, Live, without_wait, granted, State, with_byte_mode, with_process, Shows, MayWaitAs, AreOwned, MayLock, AreApart, HaveRoom, is_byte_wait, room_at}
use Rattle.std.proofs.Common.{eqb-true, filter}
use Rattle.std.proofs.Math.Seq.{get_or-append_seam}
use Rattle.lock_manager.proofs.kept.BookLemmas.{slice_get-set, entry_is}
use Rattle.lock_manager.proofs.kept.OwnedLemmas.{stay_open_in_all}
use Rattle.lock_manager.proofs.calls.ProcessCallLemmas.{found_holds, counted_without, found_without, without_absent}
use Rattle.lock_manager.proofs.kept.SafetyLemmas.{same_owner, itself}
use Rattle.lock_manager.proofs.kept.WaitLemmas.{places_at}

-- where the wait of a process passes a test, without it one less does
pub one_fewer : (test : Wait → Bool) (waits : List Wait) (p : ℕ) (wait : Wait) → wait_of waits p ≡ Some wait → test wait ≡ true
    → length (filter test (without_wait_of waits p)) + 1 ≤ length (filter test waits)
one_fewer test [] p wait found passes = absurd (cc)
one_fewer test (first ∷ rest) p wait found passes =
    grind (arith, common_steps, eqb_tells, cases_Bool, same_Some, counted_without test rest p, one_fewer test rest p wait)

-- a wait for a byte lock is one for a lock of its owner on its file
is_its_own : (wait : Wait) → wait.family ≡ Bytes → is_byte_wait wait.file wait.owner wait ≡ true
is_its_own wait family = grind (arith, common_steps, eq-eqb, itself)

-- so there is room for it
pub room_for_grant : (books : List Book) (waits : List Wait) (wait : Wait) (old : Book) → wait_of waits wait.p ≡ Some wait → wait.family ≡ Bytes
    → slice_get books wait.file ≡ Some old → HaveRoom books waits → 1 ≤ room_in old wait.owner
room_for_grant books waits wait old found family was h =
    let fewer = one_fewer (is_byte_wait wait.file wait.owner) waits wait.p wait found (is_its_own wait family) in
    let enough : length (filter (is_byte_wait wait.file wait.owner) waits) ≤ room_in old wait.owner =
    subst (λ e. length (filter (is_byte_wait wait.file wait.owner) waits) ≤ room_at e wait.owner) was (h.rooms wait.file wait.owner) in
    omega (arith, fewer, enough)

-- and for the others after it
pub room_granted : (books : List Book) (waits : List Wait) (wait : Wait) (old new : Book) → wait_of waits wait.p ≡ Some wait → wait.family ≡ Bytes
    → wait.file < length books → slice_get books wait.file ≡ Some old → SetsOwnerMode old new wait.owner wait.span (Some wait.mode)
    → room_in old wait.owner ≤ room_in new wait.owner + 1 → HaveRoom books waits → HaveRoom (slice_set books wait.file new) (without_wait_of waits wait.p)
room_granted books waits wait old new found family within was sets kept h =
    grind (arith, common_steps, slice_get-set, places_at, entry_is, found_without, same_owner, one_fewer, is_its_own, itself, counted_without, eqb-true)

-- the owner of a wait may have the lock
pub may_lock_granted : (tables : Tables) (locks : Locks) (waits : List Wait) (wait : Wait) → AreOwned tables locks waits → wait_of waits wait.p ≡ Some wait
    → MayLock tables wait.file wait.owner
may_lock_granted tables locks waits wait owned found = for_owner wait.owner refl
  where
    for_owner : (owner : Owner) → wait.owner ≡ owner → MayLock tables wait.file owner
    for_owner (Process q) is = tt
    for_owner (Description d) is = λ D stands. ∥∥₁_map owned (λ given.
        let may : MayWaitAs given.0 wait (Description d) =
        subst (MayWaitAs given.0 wait) is (found_holds (λ w. MayWaitAs given.0 w w.owner) waits wait.p wait found given.3) in
        let has = stay_open_in_all tables given.0 D given.1 stands wait.file d wait.p may in
        record { is_open = record { process = wait.p; fd = has.fd; refers = has.refers }; of_file = has.of_file })

-- where it is a process, it is that of the wait
pub owner_granted : (tables : Tables) (locks : Locks) (waits : List Wait) (wait : Wait) → AreOwned tables locks waits → wait_of waits wait.p ≡ Some wait
    → (q : ℕ) → wait.owner ≡ Process q → q ≡ wait.p
owner_granted tables locks waits wait owned found q is = elim (eqb_tells q wait.p) [
  | inl same ↦ same.1
  | inr other ↦ absurd (∥∥₁_elim owned (λ x y. absurd x)
      (λ given. other.1 (subst (MayWaitAs given.0 wait) is (found_holds (λ w. MayWaitAs given.0 w w.owner) waits wait.p wait found given.3))))
]

-- without the wait between these others these are left
pub without_middle : (before : List Wait) (wait : Wait) (after : List Wait) → AreApart (before ++ wait ∷ after)
    → without_wait_of (before ++ wait ∷ after) wait.p ≡ before ++ after
without_middle [] wait after apart =
    grind (arith, common_steps, eqb_tells, without_absent after wait.p (λ k d within e. apart 0 (suc k) d (omega arith) (omega (arith, within)) (sym e)))
without_middle (first ∷ before) wait after apart = elim (eqb_tells first.p wait.p) [
  | inl same ↦ absurd (apart 0 (suc (length before)) wait (omega arith) (omega (arith, length-append before (wait ∷ after)))
      (same.1 ∙ ap (λ (w : Wait). w.p) (sym (get_or-append_seam before wait after wait))))
  | inr other ↦ rw other.0 (ap (λ ws. first ∷ ws) (without_middle before wait after (λ i j d less within. apart (suc i) (suc j) d (omega (arith, less)) (omega (arith, within)))))
]

-- a machine that shows the state without the wait and with its lock shows what is granted
pub shows_granted : (machine : Machine) (S : State) (before : List Wait) (wait : Wait) (after : List Wait) → wait.family ≡ Bytes → AreApart S.waits
    → S.waits ≡ before ++ wait ∷ after
    → Shows machine (with_byte_mode (with_process (without_wait S wait.p) wait.p Live) wait.file wait.owner wait.span (Some wait.mode))
    → Shows machine (granted S before wait after)
shows_granted machine S before wait after family apart place h = grind (arith, common_steps, without_middle)
