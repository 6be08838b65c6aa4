-- The flock modes of a book, read off a loop over its places: for the report (`held`).
use Rattle.lock_book.proofs.Common.{rules, ℕ, ◌≡◌, ◌<◌, ◌==◌, ◌∙◌, sym, ap, subst, Option, Some, None, List, All, map, Bor, Yields, nat_cmp, BTreeMap, get, TakesFirst, deref_pair, eqb-true, Mode, Book, place_of, flock_modes_of, mode_in_place, All-weaker}
use Rattle.std.specs.BTreeMap.{IsOrdered}
use Rattle.lock_book.proofs.BookLemmas.{place_of-get, flock_modes_of-place}
use Rattle.lock_book.proofs.LoopLemmas.{next_in_loop, earlier_in_loop, found_in_loop}
use Rattle.lock_book.proofs.OwnerLemmas.{less_from_nat}

-- a place of a map of flock locks, as a loop over it gives it
abbrev pub Place : Type 0
Place = Bor ℕ × Bor (Option Mode)

-- the next place of a loop has its description's flock mode
pub flock_mode_in_loop : (book : Book) (places : BTreeMap ℕ (Option Mode)) (items : List Place) (s t u : List (ℕ
    × Option Mode)) (r : Option Place) (x : Place) → places ≡ book.flocks.places → s ≡ places.entries → Yields (TakesFirst deref_pair) s items t
    → r ≡ Some x → TakesFirst deref_pair t r u → All (λ e. get nat_cmp places e.0 ≡ Some e.1) places.entries → flock_modes_of book x.0.now ≡ x.1.now
flock_mode_in_loop book places items s t u r x same start yields is step all =
    flock_modes_of-place book x.0.now x.1.now
    (place_of-get book x.0.now ∙ ap (λ (m : BTreeMap ℕ (Option Mode)). get nat_cmp m x.0.now) (sym same)
    ∙ next_in_loop (λ e. get nat_cmp places e.0 ≡ Some e.1) places.entries items s t u r x start yields is step all)

-- and a greater number than the places so far
pub earlier_flocks : (places : BTreeMap ℕ (Option Mode)) (items : List Place) (s t u : List (ℕ × Option Mode)) (r : Option Place) (x : Place)
    → s ≡ places.entries → Yields (TakesFirst deref_pair) s items t → r ≡ Some x → TakesFirst deref_pair t r u → IsOrdered nat_cmp places
    → All (λ y. y.0.now < x.0.now) items
earlier_flocks places items s t u r x start yields is step ordered = search (rules, All-weaker, less_from_nat, earlier_in_loop)

-- a flock mode stands in a place
place_in : (place : Option (Option Mode)) (mode : Mode) → mode_in_place place ≡ Some mode → place ≡ Some (Some mode)
place_in None mode held = absurd (let h : None ≡ Some mode = held in cc)
place_in (Some held) mode is = ap (λ m. Some m) is

-- what holds of each place holds of each description with a flock mode
pub flock_in : (book : Book) (items : List Place) (P : ℕ → Option Mode → Type 0) → map deref_pair items ≡ book.flocks.places.entries
    → All (λ x. P x.0.now x.1.now) items → (description : ℕ) (mode : Mode) → flock_modes_of book description ≡ Some mode → P description (Some mode)
unfolding place_of flock_modes_of
flock_in book items P whole all description mode held =
    let entry = found_in_loop (λ e. P e.0 e.1) book.flocks.places.entries items whole all (λ other. description == other) (Some mode)
    (place_in (place_of book description) mode held) in
    subst (λ (d : ℕ). P d (Some mode)) (sym (eqb-true description entry.0 entry.1)) entry.2
