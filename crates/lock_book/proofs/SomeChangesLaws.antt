-- The locks of a book are those that some changes leave, so no clause that speaks of those is empty: for `books_stand_for_some`.
use Rattle.lock_book.proofs.Common.{common_steps, arith, ◌≡◌, ℕ, ◌==◌, ◌&&◌, Bool, true, false, refl, Option, Some, None, List, [], ◌∷◌, ◌++◌, not, All, if◌then◌else◌, lookup, nat_tests, All-nil, All-cons, All-append, Mode, Span, OwnerRuns, OwnersStandForRuns, Owner, is_same_owner, modes_in_list, byte_modes_of, flock_modes_of, list_of, place_of}
use Rattle.std.proofs.Common.{filter}
use Rattle.std.proofs.lemmas.List.Elements.{All-filter}
use Rattle.range_core.specs.Changes.{mode_in as mode_in_runs}
use Rattle.lock_book.specs.Holders.{Places, flock_modes_among}
use Rattle.lock_book.specs.Changes.{Change, FlockChange, sets_byte, mode_from, mode_in, flock_mode_from, flock_mode_in}
use Rattle.lock_book.specs.SomeChanges.{BooksStandForSome}
use Rattle.lock_book.proofs.OwnerLemmas.{same_owner, is_same_owner-self}

same_owner-symmetric : (one other : Owner) → is_same_owner one other ≡ is_same_owner other one
same_owner-symmetric one other = grind (arith, common_steps, nat_tests)

-- changes made one list after the other
mode_from-append : (before : Option Mode) (xs ys : List Change) (file : ℕ) (owner : Owner) (byte : ℕ)
    → mode_from before (xs ++ ys) file owner byte ≡ mode_from (mode_from before xs file owner byte) ys file owner byte
mode_from-append before [] ys file owner byte = refl
mode_from-append before (x ∷ xs) ys file owner byte = mode_from-append (if sets_byte x file owner byte then x.mode else before) xs ys file owner byte

flock_mode_from-append : (before : Option Mode) (xs ys : List FlockChange) (file description : ℕ)
    → flock_mode_from before (xs ++ ys) file description ≡ flock_mode_from (flock_mode_from before xs file description) ys file description
flock_mode_from-append before [] ys file description = refl
flock_mode_from-append before (x ∷ xs) ys file description =
    flock_mode_from-append (if (x.file == file) && (x.description == description) then x.mode else before) xs ys file description

-- the set of a run
set_of : ℕ → Owner → Mode × Span → Change
set_of file owner run = record { file = file; owner = owner; span = run.1; mode = Some run.0 }

-- the sets of an owner's runs, the first run last, since it is the first that gives a byte its mode
sets_of : ℕ → Owner → List (Mode × Span) → List Change
sets_of file owner [] = []
sets_of file owner (run ∷ runs) = sets_of file owner runs ++ set_of file owner run ∷ []

sets_of-file : (file : ℕ) (owner : Owner) (runs : List (Mode × Span)) → All (λ change. change.file ≡ file) (sets_of file owner runs)
unfolding sets_of set_of
sets_of-file file owner [] = All-nil (λ (change : Change). change.file ≡ file)
sets_of-file file owner (run ∷ runs) = grind (arith, common_steps, All-append, All-cons, All-nil, sets_of-file file owner runs)

-- they set the owner's modes, and nothing of another owner
own_sets : (before : Option Mode) (file : ℕ) (owner : Owner) (runs : List (Mode × Span)) (byte : ℕ) → before ≡ None
    → mode_from before (sets_of file owner runs) file owner byte ≡ mode_in_runs runs byte
unfolding sets_of set_of
own_sets before file owner [] byte is = is
own_sets before file owner (run ∷ runs) byte is =
    grind (arith, common_steps, mode_from-append before (sets_of file owner runs) (set_of file owner run ∷ []) file owner byte, own_sets before file owner runs byte is, is_same_owner-self, nat_tests)

other_sets : (before : Option Mode) (file : ℕ) (owner other : Owner) (runs : List (Mode × Span)) (byte : ℕ) → is_same_owner owner other ≡ false
    → mode_from before (sets_of file owner runs) file other byte ≡ before
unfolding sets_of set_of
other_sets before file owner other [] byte differs = refl
other_sets before file owner other (run ∷ runs) byte differs =
    grind (arith, common_steps, mode_from-append before (sets_of file owner runs) (set_of file owner run ∷ []) file other byte, other_sets before file owner other runs byte differs)

-- without its changes an owner has what it had, and each other one has what it has
abbrev without : Owner → List Change → List Change
without owner changes = filter (λ change. not (is_same_owner change.owner owner)) changes

own_without : (before : Option Mode) (owner : Owner) (changes : List Change) (file byte : ℕ)
    → mode_from before (without owner changes) file owner byte ≡ before
own_without before owner [] file byte = refl
own_without before owner (change ∷ changes) file byte =
    by_owner (is_same_owner change.owner owner) refl (λ mode. own_without mode owner changes file byte)
  where
    by_owner : (same : Bool) → is_same_owner change.owner owner ≡ same → ((mode : Option Mode) → mode_from mode (without owner changes) file owner byte ≡ mode)
        → mode_from before (without owner (change ∷ changes)) file owner byte ≡ before
    by_owner true is rest = rw is (rest before)
    by_owner false is rest = grind (arith, common_steps)

other_without : (before : Option Mode) (owner other : Owner) (changes : List Change) (file byte : ℕ) → is_same_owner owner other ≡ false
    → mode_from before (without owner changes) file other byte ≡ mode_from before changes file other byte
other_without before owner other [] file byte differs = refl
other_without before owner other (change ∷ changes) file byte differs =
    by_owner (is_same_owner change.owner owner) refl (λ mode. other_without mode owner other changes file byte differs)
  where
    by_owner : (same : Bool) → is_same_owner change.owner owner ≡ same
        → ((mode : Option Mode) → mode_from mode (without owner changes) file other byte ≡ mode_from mode changes file other byte)
        → mode_from before (without owner (change ∷ changes)) file other byte ≡ mode_from before (change ∷ changes) file other byte
    by_owner true is rest = grind (arith, common_steps, same_owner change.owner owner is)
    by_owner false is rest = rw is (rest (if sets_byte change file other byte then change.mode else before))

-- the sets of all owners: an owner's own are those of its first list, which is the one that is found
all_sets : OwnersStandForRuns → ℕ → List (Owner × OwnerRuns) → List Change
all_sets law file [] = []
all_sets law file (entry ∷ entries) = without entry.0 (all_sets law file entries) ++ sets_of file entry.0 (law entry.1).0

all_sets-file : (law : OwnersStandForRuns) (file : ℕ) (entries : List (Owner × OwnerRuns)) → All (λ change. change.file ≡ file) (all_sets law file entries)
unfolding all_sets
all_sets-file law file [] = All-nil (λ (change : Change). change.file ≡ file)
all_sets-file law file (entry ∷ entries) =
    let Here : Change → Type 0 = λ change. change.file ≡ file in
    All-append Here (without entry.0 (all_sets law file entries)) (sets_of file entry.0 (law entry.1).0)
    (All-filter (λ change. not (is_same_owner change.owner entry.0)) Here (all_sets law file entries) (all_sets-file law file entries))
    (sets_of-file file entry.0 (law entry.1).0)

all_sets-modes : (law : OwnersStandForRuns) (file : ℕ) (entries : List (Owner × OwnerRuns)) (owner : Owner) (byte : ℕ)
    → modes_in_list (lookup (is_same_owner owner) entries) byte ≡ mode_in (all_sets law file entries) file owner byte
unfolding all_sets
all_sets-modes law file [] owner byte = refl
all_sets-modes law file (entry ∷ entries) owner byte = by_owner (is_same_owner owner entry.0) refl (all_sets-modes law file entries owner byte)
  where
    split : mode_in (all_sets law file (entry ∷ entries)) file owner byte
        ≡ mode_from (mode_in (without entry.0 (all_sets law file entries)) file owner byte) (sets_of file entry.0 (law entry.1).0) file owner byte
    split = mode_from-append None (without entry.0 (all_sets law file entries)) (sets_of file entry.0 (law entry.1).0) file owner byte

    by_owner : (same : Bool) → is_same_owner owner entry.0 ≡ same
        → modes_in_list (lookup (is_same_owner owner) entries) byte ≡ mode_in (all_sets law file entries) file owner byte
        → modes_in_list (lookup (is_same_owner owner) (entry ∷ entries)) byte ≡ mode_in (all_sets law file (entry ∷ entries)) file owner byte
    by_owner true is rest = grind (arith, common_steps, split, same_owner owner entry.0 is, own_without, own_sets, (law entry.1).1 byte)
    by_owner false is rest = grind (arith, common_steps, split, same_owner-symmetric owner entry.0, other_without, other_sets)

-- the changes that set the flock locks in these places
flock_sets : ℕ → Places → List FlockChange
flock_sets file [] = []
flock_sets file (place ∷ places) = flock_sets file places ++ record { file = file; description = place.0; mode = place.1 } ∷ []

flock_sets-file : (file : ℕ) (places : Places) → All (λ change. change.file ≡ file) (flock_sets file places)
unfolding flock_sets
flock_sets-file file [] = All-nil (λ (change : FlockChange). change.file ≡ file)
flock_sets-file file (place ∷ places) = grind (arith, common_steps, All-append, All-cons, All-nil, flock_sets-file file places)

flock_sets-modes : (file : ℕ) (places : Places) (description : ℕ)
    → flock_modes_among places description ≡ flock_mode_in (flock_sets file places) file description
unfolding flock_sets
flock_sets-modes file [] description = refl
flock_sets-modes file (place ∷ places) description =
    grind (arith, common_steps, flock_mode_from-append None (flock_sets file places) (record { file = file; description = place.0; mode = place.1 } ∷ []) file description, flock_sets-modes file places description, nat_tests)

-- any book stands for the locks that some changes leave
pub stand_for_some : OwnersStandForRuns → BooksStandForSome
unfolding byte_modes_of flock_modes_of list_of place_of
stand_for_some law book file =
    let lists = book.owners in
    let places = book.flocks.places.entries in (
      all_sets law file lists,
      flock_sets file places,
      record {
        of_file = all_sets-file law file lists;
        flocks_of_file = flock_sets-file file places;
        bytes = all_sets-modes law file lists;
        flocks = flock_sets-modes file places;
      },
    )
