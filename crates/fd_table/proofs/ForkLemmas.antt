-- The rows and the entries after a fork: for `add_users` and `Tables::fork`.
use Rattle.fd_table.proofs.Common.{rules, ◌≡◌, ℕ, ◌+◌, ◌<◌, true, false, cond, eqb, List, [], length, get_or, set, Option, Some, None, refl, sym, ap, ◌∙◌, arith, common_steps, option_map, cases_eq, eq-eqb, ne_eqb, same_Some, none-some, get_or-set_same, get_or-set_other, length-set, Slab, get, Updates, Limits, Opened, Keys, row_at, has_row, key_at, users_in, users_of, AreRows, AreEntries, numbered, seen_in}
use Rattle.std.proofs.Common.{◌^◌, ◌||◌, take}
use Rattle.std.proofs.lemmas.Bool.{ltb-true, ltb-false}
use Rattle.std.proofs.lemmas.List.{nil_from_length, get_or_read, length-take-le}
use Rattle.std.proofs.lemmas.List.Sums.{sum_by-set, sum_by_more, count_by-le-length}
use Rattle.fd_table.specs.Rows.{is_key}
use Rattle.fd_table.specs.Soundness.{with_users}
use Rattle.fd_table.proofs.RowsLemmas.{one_for, row_inside}
use Rattle.fd_table.proofs.EntryLemmas.{some_is, value_of_some, seen_by, seen_by_same, at_cond}
use Rattle.fd_table.proofs.ChangeLemmas.{one_more, one_for-same, one_for-other}

-- what was mapped to some value
pub mapped_from : {X Y : Type 0} (f : X → Y) (o : Option X) (y : Y) → option_map f o ≡ Some y → (x : X) × (o ≡ Some x) × (f x ≡ y)
mapped_from f None y is = absurd (none-some y is)
mapped_from f (Some x) y is = (x, refl, same_Some (f x) y is)

-- what was mapped to nothing
pub mapped_none : {X Y : Type 0} (f : X → Y) (o : Option X) → option_map f o ≡ None → o ≡ None
mapped_none f None is = refl
mapped_none f (Some x) is = absurd (none-some (f x) (sym is))

-- each entry has so many users more as the row has places for its key
abbrev pub AreCounted : Slab Opened → Slab Opened → Keys → Type 0
AreCounted old new row = (key : ℕ) → get new key ≡ option_map (with_users (users_in row key)) (get old key)

users_more : (row : Keys) (fd x : ℕ) (held : Option ℕ) → fd < length row → get_or row fd None ≡ held
    → users_in (take (fd + 1) row) x ≡ users_in (take fd row) x + one_for x held
users_more row fd x held within is =
    sum_by_more (λ place. cond (is_key x place) 1 0) row fd None within ∙ ap (λ o. users_in (take fd row) x + one_for x o) is

same_count : (old now : Slab Opened) (row : Keys) (fd x : ℕ) (held : Option ℕ) → fd < length row → get_or row fd None ≡ held → one_for x held ≡ 0
    → AreCounted old now (take fd row) → get now x ≡ option_map (with_users (users_in (take (fd + 1) row) x)) (get old x)
same_count old now row fd x held within is none counted =
    counted x ∙ ap (λ n. option_map (with_users n) (get old x)) (sym (omega (arith, users_more row fd x held within is, none)))

-- a place with no key counts for nothing
pub counted_closed : (old now : Slab Opened) (row : Keys) (fd : ℕ) → fd < length row → get_or row fd None ≡ None → AreCounted old now (take fd row)
    → AreCounted old now (take (fd + 1) row)
counted_closed old now row fd within is counted x = same_count old now row fd x None within is refl counted

-- a place whose key has no entry changes none
pub counted_vacant : (old now : Slab Opened) (row : Keys) (fd key : ℕ) → fd < length row → get_or row fd None ≡ Some key → get now key ≡ None
    → AreCounted old now (take fd row) → AreCounted old now (take (fd + 1) row)
counted_vacant old now row fd key within is vacant counted x = grind (arith, common_steps, cases_eq, mapped_none, same_count, one_for-other)

-- a place with the key of an entry counts for it
pub counted_more : (old now new : Slab Opened) (row : Keys) (fd key : ℕ) (entry : Opened) → fd < length row → get_or row fd None ≡ Some key
    → get now key ≡ Some entry → Updates now new key (Some (one_more entry)) → AreCounted old now (take fd row) → AreCounted old new (take (fd + 1) row)
counted_more old now new row fd key entry within is was updates counted x =
    grind (arith, common_steps, cases_eq, mapped_from, one_more, users_more, one_for-same, same_count, one_for-other)

-- the child has the row of its parent
pub key_at-forked : (rows : List Keys) (p child : ℕ) → child < length rows → (q k : ℕ)
    → key_at (set rows child (row_at rows p)) q k ≡ cond (eqb q child) (key_at rows p k) (key_at rows q k)
key_at-forked rows p child inside q k = grind (arith, common_steps, cases_eq, get_or-set_same, eq-eqb, get_or-set_other, ne_eqb)

length-forked : (rows : List Keys) (p child : ℕ) → child < length rows → (q : ℕ)
    → length (row_at (set rows child (row_at rows p)) q) ≡ cond (eqb q child) (length (row_at rows p)) (length (row_at rows q))
length-forked rows p child inside q = grind (arith, common_steps, cases_eq, get_or-set_same, eq-eqb, get_or-set_other, ne_eqb)

-- the child has a row, where its parent has one
pub has_row-forked : (rows : List Keys) (p child : ℕ) → child < length rows → has_row rows p ≡ true → (q : ℕ)
    → has_row (set rows child (row_at rows p)) q ≡ (eqb q child || has_row rows q)
has_row-forked rows p child inside alive q = grind (arith, common_steps, length-forked, cases_eq, eq-eqb, ne_eqb)

-- the rows stay rows
pub AreRows-forked : (processes : ℕ) (limits : Limits) (rows : List Keys) (p child : ℕ) → child < length rows → 0 < child → has_row rows p ≡ true
    → AreRows processes limits rows → AreRows processes limits (set rows child (row_at rows p))
AreRows-forked processes limits rows p child inside positive alive h =
    grind (arith, common_steps, length-set, get_or-set_other, cases_eq, length-forked, eq-eqb, ne_eqb, has_row-forked)

users_of-forked : (rows : List Keys) (p child key : ℕ) → child < length rows → row_at rows child ≡ []
    → users_of (set rows child (row_at rows p)) key ≡ users_of rows key + users_in (row_at rows p) key
users_of-forked rows p child key inside unborn = grind (arith, common_steps, sum_by-set)

-- the entries after a fork
pub entries_forked : (rows : List Keys) (old new : Slab Opened) (made p child : ℕ) → child < length rows → row_at rows child ≡ []
    → AreCounted old new (row_at rows p) → AreEntries rows old made → AreEntries (set rows child (row_at rows p)) new made
entries_forked rows old new made p child inside unborn counted h =
    search (rules, value_of_some, some_is, mapped_from, users_of-forked, cases_eq, eq-eqb, key_at-forked, ne_eqb)

counted_shows : (old new : Slab Opened) (row : Keys) → AreCounted old new row → (key : ℕ)
    → option_map numbered (get new key) ≡ option_map numbered (get old key)
counted_shows old new row counted key = grind (arith, common_steps)

-- what is seen after a fork
pub seen_forked : (rows : List Keys) (old new : Slab Opened) (p child : ℕ) → child < length rows → AreCounted old new (row_at rows p)
    → (q k : ℕ) → seen_in (set rows child (row_at rows p)) new q k ≡ cond (eqb q child) (seen_in rows old p k) (seen_in rows old q k)
seen_forked rows old new p child inside counted q k = grind (arith, common_steps, seen_by_same, counted_shows, seen_by, key_at-forked, at_cond)

-- a process that was ever alive has a place among the rows
pub row_of_alive : (rows : List Keys) (p : ℕ) → has_row rows p ≡ true → p < length rows
row_of_alive rows p alive = row_inside rows p 0 (ltb-true 0 (length (row_at rows p)) alive)

-- a process that was never alive has no row
pub row_of_unborn : (rows : List Keys) (p : ℕ) → has_row rows p ≡ false → row_at rows p ≡ []
row_of_unborn rows p unborn = nil_from_length (row_at rows p) (omega (arith, ltb-false 0 (length (row_at rows p)) unborn))

-- what is read of a row among the rows
pub row_read : (rows : List Keys) (place p : ℕ) (row read : Keys) → place ≡ p → p < length rows → read ≡ get_or rows place read → row ≡ read
    → row ≡ row_at rows p
row_read rows place p row read is inside at same = same ∙ get_or_read rows place read (omega (arith, is, inside)) at [] ∙ ap (row_at rows) is

-- the users that a place of the row adds fit
pub users_fit : (old now : Slab Opened) (row : Keys) (fd key : ℕ) (entry : Opened) → fd < length row
    → ((key : ℕ) (entry : Opened) → get old key ≡ Some entry → entry.users + length row < 2 ^ 64)
    → AreCounted old now (take fd row) → get now key ≡ Some entry → entry.users + 1 < 2 ^ 64
users_fit old now row fd key entry within fit counted is =
    let before = mapped_from (with_users (users_in (take fd row) key)) (get old key) entry (sym (counted key) ∙ is) in
    omega (arith, fit key before.0 before.1, ap (λ (e : Opened). e.users) before.2, count_by-le-length (is_key key) (take fd row), length-take-le fd row (omega arith))
