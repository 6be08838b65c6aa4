-- Rows of keys: what a change leaves at each place, and how it changes the counts of users; for `Tables::close_one`, `Tables::dup`,
-- `Tables::end_process` and others.
use Rattle.fd_table.proofs.Common.{common_steps, ◌≡◌, ◌⊎◌, ℕ, zero, suc, ◌+◌, ◌<◌, ◌≤◌, true, false, cond, List, [], ◌∷◌, length, get_or, set, Option, Some, None, ap, inl, inr, arith, cases_eq, cases_lt, eq-eqb, ne_eqb, lt-ltb, get_or-set_same, get_or-set_other, get_or_past, length-set, Limits, descriptor_limit, AreRows, Keys, row_at, has_row, key_at, with_key, is_place, users_in, users_of}
use Rattle.std.proofs.Common.{◌*◌, ltb}
use Rattle.std.specs.List.{sum_by}
use Rattle.std.proofs.lemmas.Bool.{and_left, and_right, and_from}
use Rattle.std.proofs.lemmas.List.{get_or_default, set_past, nil_from_length}
use Rattle.std.proofs.lemmas.List.Sums.{sum_by-set, sum_by-cons, get_or-le-sum_by, sum_by-le, count_by-le-length}
use Rattle.fd_table.proofs.LimitsLemmas.{descriptor_limit-le}
use Rattle.fd_table.specs.Rows.{is_key, WithKey}

-- a place is that of the descriptor or another
pub place_cases : (p fd q k : ℕ) → ((q ≡ p) × (k ≡ fd) × (is_place p fd q k ≡ true)) ⊎ (((q ≡ p) → (k ≡ fd) → ⊥) × (is_place p fd q k ≡ false))
place_cases p fd q k = grind (arith, common_steps, cases_eq, and_from, eq-eqb, and_right, ne_eqb, and_left)

-- the descriptor whose key was written has that key
pub key_at-with_key_same : (rows : List Keys) (p fd : ℕ) (key : Option ℕ) → fd < length (row_at rows p) → key_at (with_key rows p fd key) p fd ≡ key
key_at-with_key_same rows p fd key within = grind (arith, common_steps, cases_lt, get_or-set_same, get_or_past)

-- every other descriptor keeps its key
pub key_at-with_key_other : (rows : List Keys) (p fd : ℕ) (key : Option ℕ) (q k : ℕ) → ((q ≡ p) → (k ≡ fd) → ⊥)
    → key_at (with_key rows p fd key) q k ≡ key_at rows q k
key_at-with_key_other rows p fd key q k apart = grind (arith, common_steps, cases_eq, cases_lt, get_or-set_same, get_or-set_other, get_or_past, length-set)

-- a write of one key, place by place
pub key_at-with_key : (rows : List Keys) (p fd : ℕ) (key : Option ℕ) → fd < length (row_at rows p) → (q k : ℕ)
    → key_at (with_key rows p fd key) q k ≡ cond (is_place p fd q k) key (key_at rows q k)
key_at-with_key rows p fd key within q k = grind (arith, common_steps, place_cases, key_at-with_key_same, key_at-with_key_other)

-- a descriptor with a key lies in the row of its process, and that among the rows
pub key_within : (rows : List Keys) (p fd key : ℕ) → key_at rows p fd ≡ Some key → (p < length rows) × (fd < length (row_at rows p))
key_within rows p fd key is = grind (arith, common_steps, cases_lt, get_or_past)

-- one where the place holds the key, and else nothing
abbrev pub one_for : ℕ → Option ℕ → ℕ
one_for key held = cond (is_key key held) 1 0

-- a write of one key takes one user from the old key and gives one to the new
pub users_of-with_key : (rows : List Keys) (p fd : ℕ) (held : Option ℕ) (key : ℕ) → p < length rows → fd < length (row_at rows p)
    → users_of (with_key rows p fd held) key + one_for key (key_at rows p fd) ≡ users_of rows key + one_for key held
users_of-with_key rows p fd held key inside within = grind (arith, common_steps, sum_by-set)

-- a key that a descriptor refers to has a user
pub key_is_used : (rows : List Keys) (p fd key : ℕ) → key_at rows p fd ≡ Some key → 0 < users_of rows key
key_is_used rows p fd key is = grind (arith, common_steps, key_within, get_or-le-sum_by, eq-eqb)

-- where a sum is positive, so is a term
positive_term : {X : Type 0} (f : X → ℕ) (xs : List X) (d : X) → 0 < sum_by f xs → (i : ℕ) × (i < length xs) × (0 < f (get_or xs i d))
positive_term f [] d h = absurd (omega arith)
positive_term f (x ∷ xs) d h =
    elim (cases_lt 0 (f x)) [
      | inl here ↦ (zero, omega arith, here)
      | inr none ↦
          let later = positive_term f xs d (omega (arith, sum_by-cons f x xs)) in
          (suc later.0, omega (arith, later.1), later.2)
    ]

-- a place that counts for a key holds it
key_from_one : (key : ℕ) (held : Option ℕ) → 0 < one_for key held → held ≡ Some key
key_from_one key held h = grind (arith, common_steps, cases_eq, ne_eqb)

-- some descriptor refers to a key that has a user
pub used_by : (rows : List Keys) (key : ℕ) → 0 < users_of rows key → (p : ℕ) × (fd : ℕ) × (key_at rows p fd ≡ Some key)
used_by rows key used =
    let row = positive_term (λ keys. users_in keys key) rows [] used in
    let place = positive_term (λ held. cond (is_key key held) 1 0) (row_at rows row.0) None row.2 in
    (row.0, place.0, key_from_one key (key_at rows row.0 place.0) place.2)

-- a key has no more users than there are places
pub users_of-le : (rows : List Keys) (key most : ℕ) → ((p : ℕ) → p < length rows → length (row_at rows p) ≤ most) → users_of rows key ≤ length rows * most
users_of-le rows key most short =
    sum_by-le (λ keys. users_in keys key) most rows
    (λ k d inside.
    let counted = count_by-le-length (is_key key) (get_or rows k d) in
    let short_row = short k inside in
    let same = ap length (get_or_default rows k d [] inside) in
    omega (arith, counted, short_row, same))

-- a process with descriptors has a row
pub row_from_key : (rows : List Keys) (p fd key : ℕ) → key_at rows p fd ≡ Some key → has_row rows p ≡ true
row_from_key rows p fd key is = lt-ltb 0 (length (row_at rows p)) (omega (arith, (key_within rows p fd key is).1))

-- a write of one key keeps the length of each row
pub length-with_key : (rows : List Keys) (p fd : ℕ) (key : Option ℕ) (q : ℕ) → length (row_at (with_key rows p fd key) q) ≡ length (row_at rows q)
length-with_key rows p fd key q = grind (arith, common_steps, cases_eq, cases_lt, get_or-set_same, length-set, set_past, get_or-set_other)

-- a write of one key, as a whole
pub WithKey-with_key : (rows : List Keys) (p fd : ℕ) (key : Option ℕ) → fd < length (row_at rows p) → WithKey rows (with_key rows p fd key) p fd key
WithKey-with_key rows p fd key within =
    record { keys = key_at-with_key rows p fd key within; lengths = length-with_key rows p fd key }

-- rows stay rows where their lengths stay
pub AreRows-kept : (processes : ℕ) (limits : Limits) (old new : List Keys) → length new ≡ length old
    → ((q : ℕ) → length (row_at new q) ≡ length (row_at old q)) → AreRows processes limits old → AreRows processes limits new
AreRows-kept processes limits old new count lengths h = grind (arith, common_steps, nil_from_length)

-- rows stay rows where a key is written
pub AreRows-with_key : (processes : ℕ) (limits : Limits) (rows : List Keys) (p fd : ℕ) (key : Option ℕ) → AreRows processes limits rows
    → AreRows processes limits (with_key rows p fd key)
AreRows-with_key processes limits rows p fd key h =
    AreRows-kept processes limits rows (with_key rows p fd key) (length-set rows p (set (row_at rows p) fd key)) (length-with_key rows p fd key) h

-- no row is longer than 256
pub row-short : (processes : ℕ) (limits : Limits) (rows : List Keys) → AreRows processes limits rows → (p : ℕ) → length (row_at rows p) ≤ 256
row-short processes limits rows h p = grind (arith, common_steps, cases_lt, lt-ltb, descriptor_limit-le)

-- a write of one key gives no process a row
pub has_row-with_key : (rows : List Keys) (p fd : ℕ) (key : Option ℕ) (q : ℕ) → has_row (with_key rows p fd key) q ≡ has_row rows q
has_row-with_key rows p fd key q = ap (λ n. ltb 0 n) (length-with_key rows p fd key q)

-- a row with a place for a descriptor is among the rows
pub row_inside : (rows : List Keys) (p fd : ℕ) → fd < length (row_at rows p) → p < length rows
row_inside rows p fd within = grind (arith, common_steps, cases_lt, get_or_past)

-- no descriptor past the limit has a key
pub key_past : (processes : ℕ) (limits : Limits) (rows : List Keys) → AreRows processes limits rows → (p k : ℕ) → descriptor_limit limits ≤ k
    → key_at rows p k ≡ None
key_past processes limits rows h p k past = grind (arith, common_steps, get_or_past, cases_lt, lt-ltb)
