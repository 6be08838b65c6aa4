-- What an unlock leaves where the owner had no lock (`unlock`, the clause ok).
use Rattle.lock_manager.proofs.Common.{arith, ℕ, ◌≡◌, List, Some, None, Option, slice_get, common_steps, Mode, Write, Span, Covers, HeldConflicts, Owner, Book, byte_modes_of, locks_of, Machine, State, with_byte_mode, Shows, machine_locks}
use Rattle.lock_manager.proofs.kept.BookLemmas.{mode_from-push}
use Rattle.lock_manager.proofs.kept.SafetyLemmas.{hit}

-- a mode that is in nobody's way is none
none_of_mode : (mode : Option Mode) → ¬ HeldConflicts mode Write → mode ≡ None
none_of_mode mode free = grind (arith, common_steps)

-- an owner whose modes are in nobody's way on the range has no lock there, on the file of this book
pub none_held_at : (books : List Book) (file : ℕ) (book : Book) (owner : Owner) (span : Span) → slice_get books file ≡ Some book
    → ((byte : ℕ) → Covers span byte → ¬ HeldConflicts (byte_modes_of book owner byte) Write)
    → (byte : ℕ) → Covers span byte → (locks_of books).bytes file owner byte ≡ None
none_held_at books file book owner span was free byte covers = rw was (none_of_mode (byte_modes_of book owner byte) (free byte covers))

-- a machine in which the owner has no lock on the range shows the state in which it was removed
pub with_no_change : (machine : Machine) (S : State) (file : ℕ) (owner : Owner) (span : Span)
    → ((byte : ℕ) → Covers span byte → (machine_locks machine).bytes file owner byte ≡ None) → Shows machine S
    → Shows machine (with_byte_mode S file owner span None)
with_no_change machine S file owner span none h = grind (arith, common_steps, hit, mode_from-push)
