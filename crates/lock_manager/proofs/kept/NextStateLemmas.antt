-- From one machine and a state that it stands for to the next: for `Machine::change`, `Machine::dup`, `Machine::fork` and others.
use Rattle.lock_manager.proofs.Common.{arith, ℕ, ◌≡◌, ◌<◌, refl, sym, ◌∙◌, ap, subst, Option, Some, length, List, [], All, true, slice_get, slice_set, ◌==◌, if◌then◌else◌, common_steps}
use Rattle.lock_manager.proofs.Common.{Mode, Span, Owner, Book, SetsOwnerMode, Descriptors, opening_descriptors, StandFor, ever_alive, Tables, Locks, locks_of, waits_of, Machine, State, with_byte_mode, opening_state, state_numbered, with_process, StandsSo, HoldsNothing, ProcState, Live, Unborn, Waiting, Shows, SameMachine, machine_rules, machine_processes, machine_state, machine_locks, machine_waits}
use Rattle.lock_manager.proofs.kept.BookLemmas.{unlocked_bytes, unlocked_flocks, mode_from-push, set_bytes, set_flocks, locks_stay}
use Rattle.lock_manager.proofs.kept.WaitLemmas.{KeepsLocks}

-- other tables, with all else as it was, stand for the state with other descriptors
pub with_tables : (old new : Machine) (S : State) (E : Descriptors) → new.books ≡ old.books → new.states ≡ old.states → waits_of new.waits ≡ waits_of old.waits
    → Shows old S → StandFor new.tables E → Shows new (record S { descriptors = E })
unfolding machine_locks machine_state machine_waits
with_tables old new S E books states waits h tables = grind (arith, common_steps)

-- other tables and another state of one process, with all else as it was
pub with_tables_and_process : (old new : Machine) (S : State) (E : Descriptors) (p : ℕ) (state : ProcState) → new.books ≡ old.books
    → StandsSo old.states.items new.states.items p state → waits_of new.waits ≡ waits_of old.waits
    → Shows old S → StandFor new.tables E → Shows new (with_process (record S { descriptors = E }) p state)
unfolding machine_locks machine_state machine_waits
with_tables_and_process old new S E p state books states waits h tables = grind (arith, common_steps)

-- after a change of one book the machine stands for the state with that change
pub with_change : (old new : Machine) (S : State) (file : ℕ) (book changed : Book) (owner : Owner) (span : Span) (mode : Option Mode)
    → new.books.items ≡ slice_set old.books.items file changed → new.tables ≡ old.tables → new.states ≡ old.states
    → file < length old.books.items → slice_get old.books.items file ≡ Some book → SetsOwnerMode book changed owner span mode
    → waits_of new.waits ≡ waits_of old.waits
    → Shows old S → Shows new (with_byte_mode S file owner span mode)
unfolding machine_locks machine_state machine_waits
with_change old new S file book changed owner span mode books tables states within was sets waits h =
    grind (arith, common_steps, set_bytes, mode_from-push, set_flocks)

-- after a change of one book that keeps its locks the machine stands for the same states
pub same_by_book : (old new : Machine) (file : ℕ) (book same : Book)
    → new.books.items ≡ slice_set old.books.items file same → new.tables ≡ old.tables → new.states ≡ old.states → new.rules ≡ old.rules
    → new.processes ≡ old.processes
    → waits_of new.waits ≡ waits_of old.waits → file < length old.books.items → slice_get old.books.items file ≡ Some book → KeepsLocks book same
    → SameMachine old new
unfolding machine_locks machine_state machine_waits machine_rules machine_processes
same_by_book old new file book same books tables states rules processes waits within was keeps =
    let locks : locks_of new.books.items ≡ locks_of old.books.items =
    ap (λ bs. locks_of bs) books ∙ locks_stay old.books.items file book same within was keeps.bytes keeps.flocks in
    record {
      bytes = λ f o byte. ap (λ (ls : Locks). ls.bytes f o byte) locks;
      flocks = λ f d. ap (λ (ls : Locks). ls.flocks f d) locks;
      waits = waits;
      shows = λ S h. record {
        bytes = λ f o byte. ap (λ (ls : Locks). ls.bytes f o byte) locks ∙ h.bytes f o byte;
        flocks = λ f d. ap (λ (ls : Locks). ls.flocks f d) locks ∙ h.flocks f d;
        descriptors = subst (λ t. StandFor t S.descriptors) (sym tables) h.descriptors;
        waits = waits ∙ h.waits;
        states = λ p. rw states (h.states p);
      };
      states = λ p. rw states refl;
      rules = rules;
      processes = processes;
    }

-- a machine without locks, in which process 1 alone lives, stands for the opening state
pub at_opening : (m : Machine) → All HoldsNothing m.books.items → StandFor m.tables opening_descriptors
    → ((p : ℕ) → state_numbered m.states.items p ≡ (if p == 1 then Live else Unborn)) → waits_of m.waits ≡ [] → Shows m opening_state
unfolding machine_locks machine_state machine_waits opening_state
at_opening m empty tables states none = grind (arith, common_steps, unlocked_bytes, unlocked_flocks)

-- at the opening whoever lives was ever alive: process 1
pub first_lives : (tables : Tables) (states : List ProcState) → StandFor tables opening_descriptors
    → ((p : ℕ) → state_numbered states p ≡ (if p == 1 then Live else Unborn))
    → (p : ℕ) → state_numbered states p ≡ Live → ever_alive tables p ≡ true
unfolding opening_descriptors
first_lives tables states opening are p live = grind (arith, common_steps)

-- at the opening no process waits
pub none_waits : (states : List ProcState) → ((p : ℕ) → state_numbered states p ≡ (if p == 1 then Live else Unborn))
    → (p : ℕ) → ¬ (state_numbered states p ≡ Waiting)
none_waits states are p waiting = grind (arith, common_steps)
