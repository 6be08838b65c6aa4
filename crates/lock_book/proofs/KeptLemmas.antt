-- What keeps each owner's list in use, and its runs indexed: for `Book::set`, `Book::clear_owner`, `Book::reserve` and others.
use Rattle.lock_book.proofs.Common.{Bool, ℕ, ◌⊎◌, inl, inr, ◌≡◌, ◌≢◌, ◌∙◌, sym, ap, subst, cond, true, false, Option, Some, None, List, Result, Ok, Err, arith, cases_Bool, cond-false, nat_tests, All-weaker, Mode, Span, OwnerRuns, Covers, is_covered, modes_of, Run, Owner, Book, is_same_owner, list_of, modes_in_list, IsIdle, PutsFor, ByteModes, AreRunsWhere, as_holder, holder_modes, is_outside, modes_among}
use Rattle.std.specs.Prelude.{OnOk, OnErr}
use Rattle.std.proofs.lemmas.Bool.{false_from_ne_true, not_from_false}
use Rattle.range_core.specs.Changes.{SetsMode}
use Rattle.range_core.specs.Ranges.{Modes}
use Rattle.lock_book.specs.declared.book.index.OwnersIndex.{OwnersIndex}
use Rattle.lock_book.specs.OwnerLists.{AreInUse}
use Rattle.lock_book.specs.Indexing.{AreIndexed, HasJust, HasNoneOf, IsRunOf, is_others, IsKeptAs, IsKeptOutside, IsKeptWithout, without_left}
use Rattle.lock_book.proofs.OwnerLemmas.{is_same_owner-self, same_owner}
use Rattle.lock_book.proofs.BookLemmas.{PutsAt, PutsAt-adds, different_owner, EachList-list, EachList-removed, EachList-left, EachList-insert}
use Rattle.lock_book.proofs.IndexedLemmas.{AreRunsWhere-cleared, AreRunsWhere-outside, AreRunsWhere-same, AreRunsWhere-set, run_of_none}

-- a byte outside a range isn't tested to lie in it
not_covered : (span : Span) (byte : ℕ) → ¬ Covers span byte → is_covered span byte ≡ false
not_covered span byte free = false_from_ne_true _ (λ test. free (grind (arith, nat_tests), grind (arith, nat_tests)))

-- a set of the mode that each byte of the range has already changes nothing
pub already_set : (modes : Modes) (span : Span) (mode : Option Mode) → ((byte : ℕ) → Covers span byte → modes byte ≡ mode) → SetsMode modes modes span mode
already_set modes span mode has byte = elim (cases_Bool (is_covered span byte)) [
  | inl there ↦ has byte (grind (arith, nat_tests, there), grind (arith, nat_tests, there)) ∙ sym (ap (λ b. cond b mode (modes byte)) there)
  | inr apart ↦ sym (ap (λ b. cond b mode (modes byte)) apart)
]

cases_owner : (owner other : Owner) → (owner ≡ other) ⊎ (other ≢ owner)
cases_owner owner other = elim (cases_Bool (is_same_owner owner other)) [
  | inl same ↦ inl (same_owner owner other same)
  | inr apart ↦ inr (λ same. let e : true ≡ false = sym (is_same_owner-self owner) ∙ ap (is_same_owner owner) (sym same) ∙ apart in cc)
]

-- the modes of an owner in a book are those of its list
pub modes_was : (old : Book) (owner : Owner) (before : Option OwnerRuns) → list_of old owner ≡ before → (byte : ℕ)
    → modes_among old.owners owner byte ≡ modes_in_list before byte
unfolding list_of
modes_was old owner before was byte = ap (λ (l : Option OwnerRuns). modes_in_list l byte) was

module _ (old : Book) (owners : List (Owner × OwnerRuns)) (owner : Owner) (after : Option OwnerRuns) (puts : PutsAt old owners owner after) where
  -- where a list was put for the owner, the others' modes stay
  pub modes_apart : (other : Owner) → other ≢ owner → (byte : ℕ) → modes_among owners other byte ≡ modes_among old.owners other byte
  unfolding list_of
  modes_apart other apart byte =
      ap (λ (l : Option OwnerRuns). modes_in_list l byte) (puts other ∙ ap (λ b. cond b after (list_of old other)) (different_owner owner other apart))

  -- and its own are the list's
  pub modes_now : (byte : ℕ) → modes_among owners owner byte ≡ modes_in_list after byte
  modes_now byte =
      ap (λ (l : Option OwnerRuns). modes_in_list l byte) (puts owner ∙ ap (λ b. cond b after (list_of old owner)) (is_same_owner-self owner))

  -- what is kept outside a range that was set is so still
  pub outside_set : (index : OwnersIndex) (left : Option ℕ) (before : Option OwnerRuns) (span : Span) (mode : Option Mode) → list_of old owner ≡ before
      → SetsMode (modes_in_list before) (modes_in_list after) span mode
      → IsKeptOutside index (modes_among old.owners) owner span left → IsKeptOutside index (modes_among owners) owner span left
  outside_set index left before span mode was sets kept block is =
      AreRunsWhere-set (modes_among old.owners) (modes_among owners) owner span (without_left (as_holder owner) left block.value.runs) modes_apart
      (λ byte free. modes_now byte ∙ sets byte ∙ cond-false (is_covered span byte) mode (modes_in_list before byte) (not_covered span byte free)
      ∙ sym (modes_was old owner before was byte)) (kept block is)

  -- what is kept of the others is all where the owner has no mode any more
  pub kept_without : (index : OwnersIndex) → ((byte : ℕ) → modes_in_list after byte ≡ None) → IsKeptWithout index (modes_among old.owners) owner
      → AreIndexed index owners
  kept_without index free kept block is =
      AreRunsWhere-cleared (modes_among old.owners) (modes_among owners) owner block.value.runs modes_apart
      (λ byte. modes_now byte ∙ free byte) (kept block is)

  module _ (index : OwnersIndex) (before : Option OwnerRuns) (was : list_of old owner ≡ before)
      (same : (byte : ℕ) → modes_in_list after byte ≡ modes_in_list before byte) where
    -- with the same modes nothing changes
    where_same : (passes : Run → Bool) (runs : List Run) → AreRunsWhere (holder_modes (modes_among old.owners)) passes runs → AreRunsWhere (holder_modes (modes_among owners)) passes runs
    where_same passes runs are =
        AreRunsWhere-same (modes_among old.owners) (modes_among owners) passes runs
        (λ other byte. elim (cases_owner owner other) [
          | inl own ↦ subst (λ (o : Owner). modes_among owners o byte ≡ modes_among old.owners o byte) own
              (modes_now byte ∙ same byte ∙ sym (modes_was old owner before was byte))
          | inr apart ↦ modes_apart other apart byte
        ]) are

    pub kept_same : AreIndexed index old.owners → AreIndexed index owners
    kept_same kept block is = where_same (λ run. true) block.value.runs (kept block is)

    pub outside_same : (span : Span) (left : Option ℕ) → IsKeptOutside index (modes_among old.owners) owner span left → IsKeptOutside index (modes_among owners) owner span left
    outside_same span left kept block is = where_same (is_outside (as_holder owner) span) (without_left (as_holder owner) left block.value.runs) (kept block is)

-- of an owner without a list all is kept outside its range
pub outside_new : (old : Book) (owner : Owner) (index : OwnersIndex) (span : Span) → list_of old owner ≡ None → AreIndexed index old.owners
    → IsKeptOutside index (modes_among old.owners) owner span None
outside_new old owner index span none kept block is =
    AreRunsWhere-outside (modes_among old.owners) owner span block.value.runs (modes_was old owner None none) (kept block is)

-- what the calls of an index promise
abbrev pub TakesOut : OwnersIndex → OwnersIndex → Owner → OwnerRuns → Span → Option ℕ → Type 0
TakesOut old new owner list span left =
    (modes : ByteModes) → ((byte : ℕ) → modes owner byte ≡ modes_of list byte) → IsKeptAs old modes → IsKeptOutside new modes owner span left

abbrev pub TakesAll : OwnersIndex → OwnersIndex → Owner → OwnerRuns → Type 0
TakesAll old new owner list =
    (modes : ByteModes) → ((byte : ℕ) → modes owner byte ≡ modes_of list byte) → IsKeptAs old modes → IsKeptWithout new modes owner

abbrev pub PutsIn : OwnersIndex → OwnersIndex → Owner → OwnerRuns → Span → Option ℕ → Type 0
PutsIn old new owner list span left =
    (modes : ByteModes) → ((byte : ℕ) → modes owner byte ≡ modes_of list byte) → IsKeptOutside old modes owner span left → IsKeptAs new modes

abbrev pub PutsOnly : OwnersIndex → OwnersIndex → Owner → Mode → Span → Type 0
PutsOnly old new owner mode span =
    (modes : ByteModes) → HasJust (modes owner) mode span → IsKeptOutside old modes owner span None → IsKeptAs new modes

module _ (old : Book) (owners : List (Owner × OwnerRuns)) (owner : Owner) (after : Option OwnerRuns) (puts : PutsAt old owners owner after)
    (prepared taken : OwnersIndex) (kept : AreIndexed prepared old.owners) where
  -- an owner's list was set: its runs that touch the range go out and come in again
  pub indexed_set : (left : Option ℕ) (before list : OwnerRuns) (put : OwnersIndex) (span : Span) (mode : Option Mode) → list_of old owner ≡ Some before
      → ((byte : ℕ) → modes_in_list after byte ≡ modes_of list byte) → SetsMode (modes_of before) (modes_of list) span mode
      → TakesOut prepared taken owner before span left → PutsIn taken put owner list span left → AreIndexed put owners
  indexed_set left before list put span mode was same sets takes puts_in =
      puts_in (modes_among owners) (λ byte. modes_now old owners owner after puts byte ∙ same byte)
      (outside_set old owners owner after puts taken left (Some before) span mode was (λ byte. same byte ∙ sets byte)
      (takes (modes_among old.owners) (modes_was old owner (Some before) was) kept))

  -- or it was refused, and has its modes still: they come in again
  pub indexed_again : (left : Option ℕ) (before list : OwnerRuns) (put : OwnersIndex) (span : Span) → list_of old owner ≡ Some before
      → ((byte : ℕ) → modes_in_list after byte ≡ modes_of list byte) → ((byte : ℕ) → modes_of list byte ≡ modes_of before byte)
      → TakesOut prepared taken owner before span left → PutsIn taken put owner list span left → AreIndexed put owners
  indexed_again left before list put span was its same takes puts_in =
      puts_in (modes_among owners) (λ byte. modes_now old owners owner after puts byte ∙ its byte)
      (outside_same old owners owner after puts taken (Some before) was (λ byte. its byte ∙ same byte) span left
      (takes (modes_among old.owners) (modes_was old owner (Some before) was) kept))

  -- it was cleared, or is gone: all its runs go out
  pub indexed_cleared : (before : OwnerRuns) → list_of old owner ≡ Some before → ((byte : ℕ) → modes_in_list after byte ≡ None)
      → TakesAll prepared taken owner before → AreIndexed taken owners
  indexed_cleared before was free takes =
      kept_without old owners owner after puts taken free (takes (modes_among old.owners) (modes_was old owner (Some before) was) kept)

-- a list was added: its only run comes in
pub indexed_added : (old : Book) (owners : List (Owner × OwnerRuns)) (owner : Owner) (list : OwnerRuns) (prepared put : OwnersIndex) (span : Span)
    (mode : Mode) → PutsAt old owners owner (Some list) → AreIndexed prepared old.owners → list_of old owner ≡ None → SetsMode (λ byte. None) (modes_of list) span (Some mode)
    → PutsOnly prepared put owner mode span → AreIndexed put owners
indexed_added old owners owner list prepared put span mode puts kept none sets puts_only =
    puts_only (modes_among owners) (λ byte. modes_now old owners owner (Some list) puts byte ∙ sets byte)
    (outside_set old owners owner (Some list) puts prepared None None span (Some mode) none sets (outside_new old owner prepared span none kept))

-- of an owner without a list no run is kept
pub none_kept : (old : Book) (owner : Owner) (index : OwnersIndex) → list_of old owner ≡ None → AreIndexed index old.owners → HasNoneOf index owner
none_kept old owner index none kept block is =
    All-weaker (λ run. IsRunOf (holder_modes (modes_among old.owners)) run × (true ≡ true)) (λ run. is_others (as_holder owner) run ≡ true)
    (λ run has. not_from_false _ (run_of_none (modes_among old.owners) owner (modes_was old owner None none) run has.0)) block.value.runs (kept block is).each

-- what a book knows of its lists, under an index: each is in use, and their runs are indexed
pub record AreKept (index : OwnersIndex) (lists : List (Owner × OwnerRuns)) : Type 0 where
  pub in_use : AreInUse lists
  pub indexed : AreIndexed index lists

-- it still does where an owner's list is another one that is in use
pub AreKept-list : (index : OwnersIndex) (old : Book) (owners : List (Owner × OwnerRuns)) (owner : Owner) (list : OwnerRuns)
    → PutsAt old owners owner (Some list) → ¬ IsIdle list → AreIndexed index owners → AreKept index owners
AreKept-list index old owners owner list puts used indexed = record {
  in_use = EachList-list (λ other. ¬ IsIdle other) old owners owner list old.in_use puts used;
  indexed = indexed;
}

-- or where it is gone
pub AreKept-removed : (index : OwnersIndex) (old : Book) (owners : List (Owner × OwnerRuns)) (owner : Owner)
    → PutsAt old owners owner None → AreIndexed index owners → AreKept index owners
AreKept-removed index old owners owner puts indexed = record {
  in_use = EachList-removed (λ other. ¬ IsIdle other) old owners owner old.in_use puts;
  indexed = indexed;
}

-- or where nothing was lent
pub AreKept-left : (index : OwnersIndex) (old : Book) (was : List (Owner × OwnerRuns)) → AreIndexed index old.owners → was ≡ old.owners
    → AreKept index was
AreKept-left index old was indexed same = record {
  in_use = EachList-left (λ other. ¬ IsIdle other) was old.owners same old.in_use;
  indexed = subst (λ (lists : List (Owner × OwnerRuns)). AreIndexed index lists) (sym same) indexed;
}

-- or where a list was added, unless that was refused
pub AreKept-insert : {T E : Type 0} (index : OwnersIndex) (old : Book) (was owners : List (Owner × OwnerRuns)) (owner : Owner) (list : OwnerRuns)
    (r : Result T E) → was ≡ old.owners → OnOk r (PutsFor was owners owner (Some list))
    → OnErr r (owners ≡ was) → ¬ IsIdle list → AreIndexed index old.owners
    → (PutsAt old owners owner (Some list) → AreIndexed index owners) → AreKept index owners
AreKept-insert {T} {E} index old was owners owner list (Ok x) same adds kept used indexed added = record {
  in_use = EachList-insert {T = T} {E = E} (λ other. ¬ IsIdle other) old was owners owner list (Ok x) old.in_use same adds kept used;
  indexed = added (PutsAt-adds old was owners owner (Some list) same adds);
}
AreKept-insert {T} {E} index old was owners owner list (Err e) same adds kept used indexed added = record {
  in_use = EachList-insert {T = T} {E = E} (λ other. ¬ IsIdle other) old was owners owner list (Err e) old.in_use same adds kept used;
  indexed = subst (λ (es : List (Owner × OwnerRuns)). AreIndexed index es) (sym (kept ∙ same)) indexed;
}
