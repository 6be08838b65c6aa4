-- From what a call leaves to what the definition says of it: for `Tables::close_fd`, `Tables::dup`, `Tables::dup2` and others.
use Rattle.fd_table.proofs.Common.{common_steps, ◌≡◌, ℕ, pos, ◌<◌, true, cond, eqb, List, length, get_or, set, Some, None, IsSome, refl, ap, ◌∙◌, arith, option_map, cases_eq, eq-eqb, ne_eqb, lt-ltb, get_or-set_same, get_or-set_other, Slab, get, Opened, Limits, Keys, row_at, has_row, key_at, AreRows, AreEntries, Descriptors, SameDescriptors, View, Numbered, numbered, ViewStandsFor, seen_in}
use Rattle.std.proofs.Common.{ℤ, Ok}
use Rattle.fd_table.specs.Rows.{IsLowestClosed, AreAllOpen}
use Rattle.fd_table.specs.Descriptors.{IsFull, IsLowestFree, with_offset, with_size}
use Rattle.fd_table.specs.Calls.{Refers, SeekGives, ResizeGives}
use Rattle.fd_table.proofs.ViewLemmas.{SameRest, seen_some, seen_none, moved, moved_offset, resized}
use Rattle.fd_table.proofs.EntryLemmas.{some_is, value_of_some, seen_by}

-- descriptors agree with themselves
pub same : (D : Descriptors) → SameDescriptors D D
same D = record { description_of = λ p fd. refl; descriptions = refl; sizes = λ file. refl; ever_alive = λ p. refl }

-- what is seen of a descriptor is the entry of its key
pub seen_at_key : (rows : List Keys) (opened : Slab Opened) (p fd key : ℕ) (entry : Opened) → key_at rows p fd ≡ Some key
    → get opened key ≡ Some entry → seen_in rows opened p fd ≡ Some (numbered entry)
seen_at_key rows opened p fd key entry is was = ap (seen_by opened) is ∙ ap (option_map numbered) was

-- a key of a descriptor has an entry, which is what is seen
pub key_seen : (rows : List Keys) (opened : Slab Opened) (made p fd key : ℕ) → AreEntries rows opened made → key_at rows p fd ≡ Some key
    → (entry : Opened) × (get opened key ≡ Some entry) × (seen_in rows opened p fd ≡ Some (numbered entry))
key_seen rows opened made p fd key h is =
    let there = value_of_some (get opened key) (h.occupied p fd key is) in
    (there.0, there.1, seen_at_key rows opened p fd key there.0 is there.1)

-- a descriptor that is seen is open
pub is_open : (v : View) (D : Descriptors) (p fd : ℕ) (s : Numbered) → ViewStandsFor v D → v.seen p fd ≡ Some s → IsSome (D.description_of p fd)
is_open v D p fd s h is = some_is (D.description_of p fd) s.number (seen_some v D p fd s h is).0

-- a descriptor that is seen refers to what is seen
pub refers_to : (v : View) (D : Descriptors) (p fd : ℕ) (s : Numbered) → ViewStandsFor v D → v.seen p fd ≡ Some s → Refers D p fd s.description
refers_to v D p fd s h is = let at = seen_some v D p fd s h is in record { number = s.number; is = at.0; numbered = at.1 }

-- a seek that is done
pub seek_done : (v w : View) (D : Descriptors) (p fd n : ℕ) (offset : ℤ) (s : Numbered) → ViewStandsFor v D → v.seen p fd ≡ Some s → offset ≡ pos n
    → ((q k : ℕ) → w.seen q k ≡ option_map (moved s.number n) (v.seen q k)) → SameRest v w
    → (E : Descriptors) × SeekGives D p fd offset (Ok tt) E × ViewStandsFor w E
unfolding refers_to
seek_done v w D p fd n offset s h is whole seen rest = (
  with_offset D s.number s.description n,
  (s.description, refers_to v D p fd s h is, n, whole, same (with_offset D s.number s.description n)),
  moved_offset v w D s.number n s.description seen rest (seen_some v D p fd s h is).1 h,
)

-- a resize that is done
pub resize_done : (v w : View) (D : Descriptors) (p fd n : ℕ) (size : ℤ) (s : Numbered) → ViewStandsFor v D → v.seen p fd ≡ Some s → size ≡ pos n
    → ((q k : ℕ) → w.seen q k ≡ v.seen q k) → w.made ≡ v.made → ((x : ℕ) → w.sizes x ≡ cond (eqb x s.description.file) n (v.sizes x))
    → ((q : ℕ) → w.born q ≡ v.born q)
    → (E : Descriptors) × ResizeGives D p fd size (Ok tt) E × ViewStandsFor w E
resize_done v w D p fd n size s h is whole seen made sizes born = (
  with_size D s.description.file n,
  (s.description, refers_to v D p fd s h is, n, whole, same (with_size D s.description.file n)),
  resized v w D s.description.file n seen made sizes born h,
)

-- the sizes after one was written
pub size-set : (sizes : List ℕ) (file place n : ℕ) → place ≡ file → place < length sizes → (x : ℕ)
    → get_or (set sizes place n) x 0 ≡ cond (eqb x file) n (get_or sizes x 0)
size-set sizes file place n is within x = grind (arith, common_steps, cases_eq, get_or-set_same, eq-eqb, get_or-set_other, ne_eqb)

-- a descriptor with a key is open
pub open_at_key : (rows : List Keys) (opened : Slab Opened) (made p fd : ℕ) (v : View) (D : Descriptors) → AreEntries rows opened made
    → ((q k : ℕ) → v.seen q k ≡ seen_in rows opened q k)
    → ViewStandsFor v D → IsSome (key_at rows p fd) → IsSome (D.description_of p fd)
open_at_key rows opened made p fd v D entered shown h there = grind (arith, common_steps, value_of_some, key_seen, is_open)

-- a descriptor that is open has a key
pub key_of_open : (rows : List Keys) (opened : Slab Opened) (p fd : ℕ) (v : View) (D : Descriptors)
    → ((q k : ℕ) → v.seen q k ≡ seen_in rows opened q k) → ViewStandsFor v D → key_at rows p fd ≡ None → D.description_of p fd ≡ None
key_of_open rows opened p fd v D shown h closed = seen_none v D p fd h (shown p fd ∙ ap (seen_by opened) closed)

-- a lowest closed descriptor is the lowest free one
pub lowest_free : (processes : ℕ) (limits : Limits) (rows : List Keys) (opened : Slab Opened) (made p fd : ℕ) (v : View) (D : Descriptors)
    → AreRows processes limits rows → AreEntries rows opened made → ((q k : ℕ) → v.seen q k ≡ seen_in rows opened q k)
    → ViewStandsFor v D → IsLowestClosed (row_at rows p) fd → IsLowestFree limits D p fd
lowest_free processes limits rows opened made p fd v D rowed entered shown h least =
    record {
      within = omega (arith, least.within, rowed.each p (lt-ltb 0 (length (row_at rows p)) (omega (arith, least.within))));
      free = seen_none v D p fd h (shown p fd ∙ ap (seen_by opened) least.closed);
      lowest = λ below under. open_at_key rows opened made p below v D entered shown h (least.lowest below under);
    }

-- a row in which each descriptor is open is full
pub row_full : (processes : ℕ) (limits : Limits) (rows : List Keys) (opened : Slab Opened) (made p : ℕ) (v : View) (D : Descriptors)
    → AreRows processes limits rows → AreEntries rows opened made → ((q k : ℕ) → v.seen q k ≡ seen_in rows opened q k)
    → ViewStandsFor v D → has_row rows p ≡ true → AreAllOpen (row_at rows p) → IsFull limits D p
row_full processes limits rows opened made p v D rowed entered shown h alive full fd within =
    open_at_key rows opened made p fd v D entered shown h (full fd (omega (arith, within, rowed.each p alive)))
