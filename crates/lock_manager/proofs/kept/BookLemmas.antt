-- What one book's change does to the locks of all files: for `Machine::change`, `Machine::change_flock`, `Machine::close_fd` and others.
use Rattle.lock_manager.proofs.Common.{arith, ℕ, ◌≡◌, ◌≢◌, ◌<◌, refl, sym, ◌∙◌, ap, List, [], ◌∷◌, ◌++◌, length, Some, None, Option, true, get_or, Result, Ok, Err, OnOk, OnErr, All, slice_get, slice_set, ◌==◌, ◌&&◌, if◌then◌else◌, common_steps, eqb_tells, eqb-true, slice_get_cases}
use Rattle.lock_manager.proofs.Common.{Change, FlockChange, mode_from, flock_mode_from, HoldsNothing, Memory, Mode, Span, is_covered, Owner, Book, is_same_owner, byte_modes_of, flock_modes_of, SetsOwnerMode, SameBook, Locks, locks_of}
use Rattle.std.proofs.Common.{get_or-set_same, get_or-set_other, length-set}
use Rattle.lock_book.specs.Changes.{sets_byte}
use Rattle.std.proofs.lemmas.Option.{slice_get-get_or, slice_get_read}

-- the item that was replaced
pub slice_get-set_same : {X : Type 0} (xs : List X) (i : ℕ) (x : X) → i < length xs → slice_get (slice_set xs i x) i ≡ Some x
slice_get-set_same xs i x within =
    slice_get_read (slice_set xs i x) (length xs) i x (sym (length-set xs i x)) within (sym (get_or-set_same xs i x x within))

-- every other item
pub slice_get-set_other : {X : Type 0} (xs : List X) (i j : ℕ) (x : X) → j ≢ i → slice_get (slice_set xs i x) j ≡ slice_get xs j
slice_get-set_other xs i j x other = grind (arith, common_steps, slice_get_cases, length-set, get_or-set_other)

-- changes made one list after the other
pub mode_from-append : (before : Option Mode) (xs ys : List Change) (f : ℕ) (o : Owner) (byte : ℕ)
    → mode_from before (xs ++ ys) f o byte ≡ mode_from (mode_from before xs f o byte) ys f o byte
mode_from-append before [] ys f o byte = refl
mode_from-append before (x ∷ xs) ys f o byte = mode_from-append (if sets_byte x f o byte then x.mode else before) xs ys f o byte

pub flock_mode_from-append : (before : Option Mode) (xs ys : List FlockChange) (f d : ℕ)
    → flock_mode_from before (xs ++ ys) f d ≡ flock_mode_from (flock_mode_from before xs f d) ys f d
flock_mode_from-append before [] ys f d = refl
flock_mode_from-append before (x ∷ xs) ys f d =
    flock_mode_from-append (if (x.file == f) && (x.description == d) then x.mode else before) xs ys f d

-- one more change counts where it is of this owner on this byte
pub mode_from-push : (before : Option Mode) (changes : List Change) (change : Change) (file : ℕ) (owner : Owner) (byte : ℕ)
    → mode_from before (changes ++ change ∷ []) file owner byte
    ≡ (if sets_byte change file owner byte then change.mode else mode_from before changes file owner byte)
mode_from-push before changes change file owner byte = mode_from-append before changes (change ∷ []) file owner byte

-- an item of a list in which one was replaced
pub slice_get-set : {X : Type 0} (xs : List X) (i j : ℕ) (x : X) → i < length xs → slice_get (slice_set xs i x) j ≡ (if i == j then Some x else slice_get xs j)
slice_get-set xs i j x within = grind (arith, common_steps, eqb_tells, slice_get-set_same, slice_get-set_other)

-- the entry of the file that is changed
pub entry_is : (books : List Book) (file f : ℕ) (old : Book) → slice_get books file ≡ Some old → (file == f) ≡ true → slice_get books f ≡ Some old
entry_is books file f old was same = grind (arith, common_steps, eqb-true)

-- the modes of the file whose book was changed, and of all others
pub set_bytes : (books : List Book) (file : ℕ) (old new : Book) (owner : Owner) (span : Span) (mode : Option Mode)
    → file < length books → slice_get books file ≡ Some old → SetsOwnerMode old new owner span mode
    → (f : ℕ) (o : Owner) (byte : ℕ) → (locks_of (slice_set books file new)).bytes f o byte
    ≡ (if (file == f) && is_same_owner owner o && is_covered span byte then mode else (locks_of books).bytes f o byte)
set_bytes books file old new owner span mode within was sets f o byte = grind (arith, common_steps, slice_get-set, entry_is)

-- the flock modes stay
pub set_flocks : (books : List Book) (file : ℕ) (old new : Book)
    → file < length books → slice_get books file ≡ Some old → ((d : ℕ) → flock_modes_of new d ≡ flock_modes_of old d)
    → (f d : ℕ) → (locks_of (slice_set books file new)).flocks f d ≡ (locks_of books).flocks f d
set_flocks books file old new within was same f d = grind (arith, common_steps, slice_get-set, entry_is)

-- so do the byte modes, where the owners have the same in the two books
pub same_bytes : (books : List Book) (file : ℕ) (old new : Book)
    → file < length books → slice_get books file ≡ Some old → ((o : Owner) (byte : ℕ) → byte_modes_of new o byte ≡ byte_modes_of old o byte)
    → (f : ℕ) (o : Owner) (byte : ℕ) → (locks_of (slice_set books file new)).bytes f o byte ≡ (locks_of books).bytes f o byte
same_bytes books file old new within was same f o byte = grind (arith, common_steps, slice_get-set, entry_is)

-- where a book is replaced by one with the same locks, all locks stay
pub locks_stay : (books : List Book) (file : ℕ) (old new : Book) → file < length books → slice_get books file ≡ Some old
    → ((o : Owner) (byte : ℕ) → byte_modes_of new o byte ≡ byte_modes_of old o byte) → ((d : ℕ) → flock_modes_of new d ≡ flock_modes_of old d)
    → locks_of (slice_set books file new) ≡ locks_of books
locks_stay books file old new within was bytes flocks i = record {
  bytes = λ f o byte. same_bytes books file old new within was bytes f o byte i;
  flocks = λ f d. set_flocks books file old new within was flocks f d i;
}

-- one owner's mode of a change, or what stood there
abbrev pub changed : Locks → ℕ → Owner → Span → Option Mode → ℕ → Owner → ℕ → Option Mode
changed locks file owner span mode f o byte =
    if (file == f) && is_same_owner owner o && is_covered span byte then mode else locks.bytes f o byte

-- what holds of the locks after the change, and where they stay, holds after one book's set, refused or not
pub after_set : (P : Locks
    → Type 0) (books : List Book) (file : ℕ) (old new : Book) (owner : Owner) (span : Span) (mode : Option Mode) (result : Result (Unit {0}) Memory)
    → file < length books → slice_get books file ≡ Some old
    → OnOk result (SetsOwnerMode old new owner span mode) → OnErr result (SameBook old new)
    → (((f : ℕ) (o : Owner) (byte : ℕ) → (locks_of (slice_set books file new)).bytes f o byte ≡ changed (locks_of books) file owner span mode f o byte)
    → ((f d : ℕ) → (locks_of (slice_set books file new)).flocks f d ≡ (locks_of books).flocks f d) → P (locks_of (slice_set books file new)))
    → (((f : ℕ) (o : Owner) (byte : ℕ) → (locks_of (slice_set books file new)).bytes f o byte ≡ (locks_of books).bytes f o byte)
    → ((f d : ℕ) → (locks_of (slice_set books file new)).flocks f d ≡ (locks_of books).flocks f d) → P (locks_of (slice_set books file new)))
    → P (locks_of (slice_set books file new))
after_set P books file old new owner span mode (Ok done) within was sets same then_changed then_same =
    then_changed (set_bytes books file old new owner span mode within was sets) (set_flocks books file old new within was sets.flocks)
after_set P books file old new owner span mode (Err memory) within was sets same then_changed then_same =
    then_same (same_bytes books file old new within was same.bytes) (set_flocks books file old new within was same.flocks)

-- the book that a mutable loan of an element of the list reads
pub book_at : (books : List Book) (i file : ℕ) (book : Book) → i ≡ file → file < length books → book ≡ get_or books i book → slice_get books file ≡ Some book
book_at books i file book same within is =
    slice_get-get_or books file book within ∙ ap Some (sym (is ∙ ap (λ k. get_or books k book) same))

-- books that hold nothing show no byte locks
pub unlocked_bytes : (books : List Book) → All HoldsNothing books → (file : ℕ) (owner : Owner) (byte : ℕ) → (locks_of books).bytes file owner byte ≡ None
unlocked_bytes books empty file owner byte = grind (arith, common_steps, slice_get_cases)

-- and no flock locks
pub unlocked_flocks : (books : List Book) → All HoldsNothing books → (file description : ℕ) → (locks_of books).flocks file description ≡ None
unlocked_flocks books empty file description = grind (arith, common_steps, slice_get_cases)
