-- Any manager stands for some state, so no clause that speaks of those is empty: for `managers_stand_for_some`.
use Rattle.lock_manager.proofs.Common.{common_steps, arith, ◌≡◌, ◌≢◌, ℕ, zero, suc, ◌+◌, ◌<◌, refl, Option, None, List, [], ◌∷◌, ◌++◌, All, slice_get, nat_tests, All-head, All-tail, Mode, Owner, Book, Change, FlockChange, mode_from, flock_mode_from, byte_modes_at, flock_modes_at, machine_state, machine_locks, machine_waits, state_at}
use Rattle.lock_book.specs.SomeChanges.{BooksStandForSome}
use Rattle.fd_table.specs.TablesView.{TablesStandForSome}
use Rattle.lock_manager.specs.ManagerView.{locks_in_books, waits_of, visit_at, refused_at}
use Rattle.lock_manager.specs.SomeState.{ManagersStandForSome}
use Rattle.lock_manager.proofs.kept.BookLemmas.{mode_from-append, flock_mode_from-append}

-- changes of one file leave the locks of each other one
other_file : (before : Option Mode) (changes : List Change) (file other : ℕ) (owner : Owner) (byte : ℕ) → All (λ change. change.file ≡ file) changes
    → file ≢ other → mode_from before changes other owner byte ≡ before
other_file before [] file other owner byte of_file differs = refl
other_file before (change ∷ changes) file other owner byte of_file differs =
    grind (arith, common_steps, All-head (λ (c : Change). c.file ≡ file) change changes of_file, other_file before changes file other owner byte (All-tail (λ (c : Change). c.file ≡ file) change changes of_file) differs, nat_tests)

flock_other_file : (before : Option Mode) (changes : List FlockChange) (file other description : ℕ) → All (λ change. change.file ≡ file) changes
    → file ≢ other → flock_mode_from before changes other description ≡ before
flock_other_file before [] file other description of_file differs = refl
flock_other_file before (change ∷ changes) file other description of_file differs =
    grind (arith, common_steps, All-head (λ (c : FlockChange). c.file ≡ file) change changes of_file, flock_other_file before changes file other description (All-tail (λ (c : FlockChange). c.file ≡ file) change changes of_file) differs, nat_tests)

-- changes that leave the locks of these books, of which the first is that of this file
byte_changes : BooksStandForSome → ℕ → List Book → List Change
byte_changes law file [] = []
byte_changes law file (book ∷ books) = (law book file).0 ++ byte_changes law (suc file) books

flock_changes : BooksStandForSome → ℕ → List Book → List FlockChange
flock_changes law file [] = []
flock_changes law file (book ∷ books) = (law book file).1 ++ flock_changes law (suc file) books

-- they are of no file before it
earlier_file : (law : BooksStandForSome) (before : Option Mode) (file : ℕ) (books : List Book) (other : ℕ) (owner : Owner) (byte : ℕ) → other < file
    → mode_from before (byte_changes law file books) other owner byte ≡ before
unfolding byte_changes
earlier_file law before file [] other owner byte less = refl
earlier_file law before file (book ∷ books) other owner byte less =
    grind (arith, common_steps, mode_from-append before (law book file).0 (byte_changes law (suc file) books) other owner byte, other_file before (law book file).0 file other owner byte (law book file).2.of_file (λ same. omega arith), earlier_file law before (suc file) books other owner byte (omega arith))

earlier_flock_file : (law : BooksStandForSome) (before : Option Mode) (file : ℕ) (books : List Book) (other description : ℕ) → other < file
    → flock_mode_from before (flock_changes law file books) other description ≡ before
unfolding flock_changes
earlier_flock_file law before file [] other description less = refl
earlier_flock_file law before file (book ∷ books) other description less =
    grind (arith, common_steps, flock_mode_from-append before (law book file).1 (flock_changes law (suc file) books) other description, flock_other_file before (law book file).1 file other description (law book file).2.flocks_of_file (λ same. omega arith), earlier_flock_file law before (suc file) books other description (omega arith))

-- the book at each place has the locks that they leave
left_at : (law : BooksStandForSome) (file : ℕ) (books : List Book) (place at : ℕ) (owner : Owner) (byte : ℕ) → file + place ≡ at
    → byte_modes_at (slice_get books place) owner byte ≡ mode_from None (byte_changes law file books) at owner byte
unfolding byte_changes
left_at law file [] place at owner byte is = refl
left_at law file (book ∷ books) zero at owner byte is =
    let same : at ≡ file = omega arith in
    rw same (grind (arith, common_steps, mode_from-append None (law book file).0 (byte_changes law (suc file) books) file owner byte, earlier_file law (mode_from None (law book file).0 file owner byte) (suc file) books file owner byte (omega arith), (law book file).2.bytes owner byte))
left_at law file (book ∷ books) (suc place) at owner byte is =
    grind (arith, common_steps, mode_from-append None (law book file).0 (byte_changes law (suc file) books) at owner byte, other_file None (law book file).0 file at owner byte (law book file).2.of_file (λ same. omega arith), left_at law (suc file) books place at owner byte (omega arith))

flocks_left_at : (law : BooksStandForSome) (file : ℕ) (books : List Book) (place at description : ℕ) → file + place ≡ at
    → flock_modes_at (slice_get books place) description ≡ flock_mode_from None (flock_changes law file books) at description
unfolding flock_changes
flocks_left_at law file [] place at description is = refl
flocks_left_at law file (book ∷ books) zero at description is =
    let same : at ≡ file = omega arith in
    rw same (grind (arith, common_steps, flock_mode_from-append None (law book file).1 (flock_changes law (suc file) books) file description, earlier_flock_file law (flock_mode_from None (law book file).1 file description) (suc file) books file description (omega arith), (law book file).2.flocks description))
flocks_left_at law file (book ∷ books) (suc place) at description is =
    grind (arith, common_steps, flock_mode_from-append None (law book file).1 (flock_changes law (suc file) books) at description, flock_other_file None (law book file).1 file at description (law book file).2.flocks_of_file (λ same. omega arith), flocks_left_at law (suc file) books place at description (omega arith))

-- any manager stands for some state
pub stand_for_some : TablesStandForSome → BooksStandForSome → ManagersStandForSome
unfolding state_at locks_in_books waits_of visit_at refused_at machine_state machine_locks machine_waits
stand_for_some tables law manager =
    let books = manager.machine.books.items in (
      record {
        changes = byte_changes law 0 books;
        flock_changes = flock_changes law 0 books;
        descriptors = (tables manager.machine.tables).0;
        waits = waits_of manager;
        states = state_at manager;
        visits = visit_at manager;
        refused = refused_at manager;
      },
      record {
        bytes = λ file owner byte. left_at law 0 books file file owner byte (omega arith);
        flocks = λ file description. flocks_left_at law 0 books file file description (omega arith);
        descriptors = (tables manager.machine.tables).1;
        waits = refl;
        states = λ p. refl;
        visits = λ p section. refl;
        refused = λ p. refl;
      },
    )
