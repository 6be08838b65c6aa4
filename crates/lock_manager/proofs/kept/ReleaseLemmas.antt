-- What the loops that release locks have done so far: for `release`.
use Rattle.lock_manager.proofs.Common.{arith, ℕ, ◌≡◌, ◌+◌, ◌<◌, sym, ◌∙◌, ap, List, length, take, get_or, Some, ◌==◌, ◌||◌, slice_get, slice_set, common_steps, Book, locks_of, is_one_of, ReleasesInBook, ReleasesLocks, ReleasesRoom}
use Rattle.std.proofs.lemmas.List.Folds.{list_any_more}
use Rattle.lock_manager.proofs.kept.BookLemmas.{slice_get-set, entry_is}

-- one more number
one_more : (numbers : List ℕ) (i d number : ℕ) → i < length numbers
    → is_one_of (take (i + 1) numbers) number ≡ (is_one_of (take i numbers) number || (get_or numbers i d == number))
one_more numbers i d number within = list_any_more (λ other. other == number) numbers i d within

-- the files so far and one more
files_more : (files : List ℕ) (i d file f : ℕ) → i < length files → get_or files i d ≡ file
    → (is_one_of (take i files) f || (file == f)) ≡ is_one_of (take (i + 1) files) f
files_more files i d file f inside is = ap (λ n. is_one_of (take i files) f || (n == f)) (sym is) ∙ sym (one_more files i d f inside)

-- one more file
pub released_file : (old books : List Book) (book new : Book) (p : ℕ) (files descriptions : List ℕ) (i d file : ℕ) → i < length files → get_or files i d ≡ file
    → file < length books → slice_get books file ≡ Some book
    → ReleasesLocks (locks_of old) (locks_of books) p (take i files) descriptions → ReleasesInBook book new p descriptions
    → ReleasesLocks (locks_of old) (locks_of (slice_set books file new)) p (take (i + 1) files) descriptions
released_file old books book new p files descriptions i d file inside is within was before releases =
    grind (arith, common_steps, slice_get-set, entry_is, files_more)

-- and its room
pub released_room : (old books : List Book) (book new : Book) (p : ℕ) (files descriptions : List ℕ) (i d file : ℕ) → i < length files → get_or files i d ≡ file
    → file < length books → slice_get books file ≡ Some book
    → ReleasesRoom old books p (take i files) descriptions → ReleasesInBook book new p descriptions
    → ReleasesRoom old (slice_set books file new) p (take (i + 1) files) descriptions
released_room old books book new p files descriptions i d file inside is within was before releases =
    grind (arith, common_steps, slice_get-set, entry_is, files_more)
