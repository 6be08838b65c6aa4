-- What holds of the machine when one more process waits: for `Machine::join`, `Machine::keep_room`, `Machine::pending` and others.
use Rattle.lock_manager.proofs.Common.{common_steps, ℕ, ◌≡◌, ◌≢◌, ◌<◌, ◌≤◌, ◌+◌, refl, sym, ◌∙◌, ap, subst, List, [], ◌∷◌, ◌++◌, length, Some, None, Bool, All, Result, OnOk, OnErr, arith, slice_get, slice_set, if◌then◌else◌, length-append, ∥∥₁_map, cases_Bool, eqb-true, and_parts, eqb_tells, All-head, All-tail}
use Rattle.lock_manager.proofs.Common.{Memory, Owner, Book, room_in, SameBook, Tables, Descriptors, StandFor, Bytes, Wait, Waits, Locks, locks_of, ClosesCycle, IsFreeOfCycles, AreBlockedElsewhere, waits_of, wait_of, AreTold, Machine, ProcState, Live, Waiting, State, state_numbered, with_process, StandsSo, AreOwned, AreWithinFiles, MayWaitAs, AreCompatible, Shows, machine_state, machine_locks, machine_waits, AreKept, AreStanding, AreApart, HaveRoom, is_byte_wait, room_at, StayKnown}
use Rattle.std.proofs.Common.{filter}
use Rattle.std.proofs.lemmas.Bool.{eq-eqb}
use Rattle.std.proofs.lemmas.List.Elements.{All-push, filter-append}
use Rattle.std.proofs.lemmas.List.Folds.{find-append, list_any-append}
use Rattle.std.proofs.lemmas.List.Quantifiers.{all_pairs_push}
use Rattle.std.proofs.lemmas.List.Sums.{length-filter, count_by-le-length}
use Rattle.lock_book.specs.Books.{SameButRoom}
use Rattle.wait_core.specs.Cycles.{IsTraditional}
use Rattle.wait_core.specs.FreeOfCycles.{FreeWhenOneJoins}
use Rattle.lock_manager.specs.DescriptionLocks.{MayWait}
use Rattle.lock_manager.proofs.kept.BookLemmas.{slice_get-set_same, locks_stay}
use Rattle.lock_manager.proofs.kept.SafetyLemmas.{same_owner, itself}
use Rattle.lock_manager.proofs.kept.ProcessLemmas.{waiting_still, stands_set, lived_before}
use Rattle.lock_manager.proofs.kept.WaitLemmas.{waits_of_others, suspended_after, room_with, KeepsLocks, keeps_same}

-- no wait of others is the process'
pub no_wait : (waits : List Wait) (p : ℕ) → All (λ wait. wait.p ≢ p) waits → wait_of waits p ≡ None
no_wait [] p others = refl
no_wait (w ∷ waits) p others =
    let rest = All-tail (λ wait. wait.p ≢ p) w waits others in
    grind (arith, common_steps, eqb_tells, All-head (λ wait. wait.p ≢ p) w waits others, no_wait waits p rest)

-- some of the waits are no more than all
pub some_of : (p : Wait → Bool) (waits : List Wait) → length (filter p waits) ≤ length waits
some_of p waits = omega (arith, length-filter p waits, count_by-le-length p waits)

-- who may wait for the lock may wait as the wait says
waits_as : (tables : Tables) (D : Descriptors) (wait : Wait) (owner : Owner) → StandFor tables D → MayWait tables wait.p wait.file owner
    → MayWaitAs D wait owner
waits_as tables D wait owner stands may = grind (arith, common_steps)

-- one more wait of who may wait
pub owned_joined : (tables : Tables) (locks : Locks) (waits : List Wait) (wait : Wait) → MayWait tables wait.p wait.file wait.owner
    → AreOwned tables locks waits → AreOwned tables locks (waits ++ wait ∷ [])
owned_joined tables locks waits wait may owned =
    ∥∥₁_map owned (λ given. (
      given.0,
      given.1,
      given.2,
      All-push (λ w. MayWaitAs given.0 w w.owner) waits wait given.3 (waits_as tables given.0 wait wait.owner given.1 may),
    ))

-- its process waits from now on, and is awaited in the longer list, as the others are
pub standing_joined : (tables : Tables) (states states' : List ProcState) (waits : List Wait) (wait : Wait) → StandsSo states states' wait.p Waiting
    → state_numbered states wait.p ≡ Live → AreStanding tables states waits → AreStanding tables states' (waits ++ wait ∷ [])
standing_joined tables states states' waits wait set live h =
    grind (arith, common_steps, lived_before, All-push, suspended_after, stands_set, eqb_tells, eq-eqb, waiting_still, and_parts, find-append)

-- one more wait counts where it passes the test
pub counted : (p : Wait → Bool) (waits : List Wait) (wait : Wait) → length (filter p (waits ++ wait ∷ [])) ≡ length (filter p waits) + (if p wait then 1 else 0)
counted p waits wait = grind (arith, common_steps, filter-append, length-append)

-- where there is room for one wait more, it may join
pub room_joined : (books : List Book) (waits : List Wait) (wait : Wait) → wait.family ≡ Bytes
    → length (filter (is_byte_wait wait.file wait.owner) waits) + 1 ≤ room_at (slice_get books wait.file) wait.owner
    → HaveRoom books waits → HaveRoom books (waits ++ wait ∷ [])
room_joined books waits wait family more h = grind (arith, common_steps, counted, and_parts, eqb-true, same_owner, list_any-append)

-- a book in which room was asked for, refused or not, keeps its locks
pub room_taken : (old new : Book) (owner : Owner) (result : Result (Unit {0}) Memory) → OnOk result (SameButRoom old new owner)
    → OnOk result (room_in old owner ≤ room_in new owner)
    → OnErr result (SameBook old new) → KeepsLocks old new
room_taken old new owner result h h2 h3 = grind (arith, common_steps, keeps_same, cases_Bool, same_owner, itself)

-- the room is there then
pub roomy : (before books : List Book) (file : ℕ) (old new : Book) (owner : Owner) (count : ℕ) (result : Result (Unit {0}) Memory)
    → books ≡ slice_set before file new → file < length before → OnOk result (count ≤ room_in new owner)
    → OnOk result (count ≤ room_at (slice_get books file) owner)
roomy before books file old new owner count result h h2 h3 = grind (arith, common_steps, slice_get-set_same)

-- what is kept stays after a change of one book that keeps its locks
pub kept_by_book : (m : Machine) (books : List Book) (file : ℕ) (old new : Book) → books ≡ slice_set m.books.items file new → file < length m.books.items
    → slice_get m.books.items file ≡ Some old → KeepsLocks old new → AreKept m.rules.policy m.tables books m.waits
kept_by_book m books file old new is within was keeps =
    let before = m.books.items in
    let locks : locks_of books ≡ locks_of before = ap (λ bs. locks_of bs) is ∙ locks_stay before file old new within was keeps.bytes keeps.flocks in
    record {
      compatible = subst AreCompatible (sym locks) m.kept.compatible;
      owned = subst (λ ls. AreOwned m.tables ls (waits_of m.waits)) (sym locks) m.kept.owned;
      within = subst AreWithinFiles (sym locks) m.kept.within;
      told = subst (λ ls. ∥ AreTold m.waits ls ∥₁) (sym locks) m.kept.told;
      blocked = subst (λ ls. ∥ AreBlockedElsewhere m.waits ls ∥₁) (sym locks) m.kept.blocked;
      apart = m.kept.apart;
      room = subst (λ bs. HaveRoom bs (waits_of m.waits)) (sym is) (room_with before (waits_of m.waits) file old new within was keeps.rooms keeps.places m.kept.room);
      free_of_cycles = subst (λ ls. IsFreeOfCycles m.rules.policy ls (waits_of m.waits)) (sym locks) m.kept.free_of_cycles;
    }

-- and after a process has begun to wait, whose wait has its room and closes no cycle
pub kept_by_join : FreeWhenOneJoins → (m : Machine) (waits : Waits) (wait : Wait) → MayWait m.tables wait.p wait.file wait.owner
    → state_numbered m.states.items wait.p ≡ Live
    → (IsTraditional wait → ¬ ClosesCycle m.rules.policy (locks_of m.books.items) (waits_of m.waits) wait)
    → HaveRoom m.books.items (waits_of m.waits ++ wait ∷ [])
    → waits_of waits ≡ waits_of m.waits ++ wait ∷ [] → StayKnown m.waits waits (locks_of m.books.items) (locks_of m.books.items)
    → AreKept m.rules.policy m.tables m.books.items waits
kept_by_join joins m waits wait may live free room list known =
    let books = m.books.items in
    let locks = locks_of books in
    record {
      compatible = m.kept.compatible;
      owned = subst (AreOwned m.tables locks) (sym list) (owned_joined m.tables locks (waits_of m.waits) wait may m.kept.owned);
      within = m.kept.within;
      told = ∥∥₁_map m.kept.told known.told;
      blocked = ∥∥₁_map m.kept.blocked known.blocked;
      apart = subst AreApart (sym list)
          (all_pairs_push (λ (v w : Wait). v.p ≢ w.p) (waits_of m.waits) wait m.kept.apart (waits_of_others m.tables m.states.items (waits_of m.waits) wait.p m.standing.suspended live));
      room = subst (HaveRoom books) (sym list) room;
      free_of_cycles = subst (IsFreeOfCycles m.rules.policy locks) (sym list) (joins m.rules.policy locks (waits_of m.waits) wait m.kept.free_of_cycles free);
    }

-- the machine shows the state in which the process waits
pub with_wait : (old new : Machine) (S : State) (wait : Wait) → new.books ≡ old.books → new.tables ≡ old.tables
    → waits_of new.waits ≡ waits_of old.waits ++ wait ∷ []
    → StandsSo old.states.items new.states.items wait.p Waiting → Shows old S
    → Shows new (with_process (record S { waits = S.waits ++ wait ∷ [] }) wait.p Waiting)
unfolding machine_locks machine_state machine_waits
with_wait old new S wait books tables waits states h = grind (arith, common_steps)
