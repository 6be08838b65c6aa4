-- The fields of new tables, and the descriptors that they stand for: for `Tables::new`.
use Rattle.fd_table.proofs.Common.{common_steps, ◌≡◌, ℕ, ◌+◌, ◌<◌, ◌≤◌, cond, eqb, List, [], length, get_or, Option, None, ap, ◌∙◌, inl, inr, arith, cases_eq, cases_lt, eq-eqb, ne_eqb, lt-ltb, get_or_past, none-some, Slab, get, FILES, Limits, Opened, descriptor_limit, Keys, row_at, has_row, key_at, AreRows, AreEntries, View, ViewStandsFor, seen_in}
use Rattle.std.proofs.Common.{replicate}
use Rattle.std.proofs.lemmas.List.{get_or-replicate, length-replicate}
use Rattle.fd_table.proofs.LimitsLemmas.{descriptor_limit-positive}
use Rattle.fd_table.specs.Descriptors.{opening_descriptors}
use Rattle.fd_table.specs.Rows.{opening_row}

-- the rows are those of the opening
pub record AreOpeningRows (rows : List Keys) (processes len : ℕ) : Type 0 where
  pub count : length rows ≡ processes + 1
  pub each : (p : ℕ) → p < processes + 1 → row_at rows p ≡ opening_row len p

opening_row_at : (rows : List Keys) (processes len : ℕ) → 1 ≤ processes → AreOpeningRows rows processes len → (p : ℕ) → row_at rows p ≡ opening_row len p
opening_row_at rows processes len some h p = grind (arith, common_steps, cases_lt, get_or_past, ne_eqb)

abbrev no_key : Option ℕ
no_key = None

closed_place : (len fd : ℕ) → get_or (replicate len None) fd None ≡ no_key
closed_place len fd = grind (arith, common_steps, cases_lt, get_or-replicate, get_or_past, length-replicate)

closed_row : (len p fd : ℕ) → get_or (opening_row len p) fd None ≡ None
closed_row len p fd = grind (arith, common_steps, cases_eq, eq-eqb, closed_place, ne_eqb)

-- at the opening no descriptor has a key
pub opening_keys : (rows : List Keys) (processes len : ℕ) → 1 ≤ processes → AreOpeningRows rows processes len → (p fd : ℕ) → key_at rows p fd ≡ None
opening_keys rows processes len some h p fd = ap (λ row. get_or row fd None) (opening_row_at rows processes len some h p) ∙ closed_row len p fd

opening_length : (limits : Limits) (p : ℕ) → length (opening_row (descriptor_limit limits) p) ≡ cond (eqb p 1) (descriptor_limit limits) 0
opening_length limits p = grind (arith, common_steps, cases_eq, eq-eqb, length-replicate, ne_eqb)

-- at the opening process 1 alone has a row
pub opening_born : (rows : List Keys) (processes : ℕ) (limits : Limits) → 1 ≤ processes → AreOpeningRows rows processes (descriptor_limit limits)
    → (p : ℕ) → has_row rows p ≡ eqb p 1
opening_born rows processes limits some h p =
    grind (arith, common_steps, opening_row_at, opening_length, cases_eq, eq-eqb, lt-ltb, descriptor_limit-positive, ne_eqb)

-- the rows of the opening are rows
pub opening_are_rows : (rows : List Keys) (processes : ℕ) (limits : Limits) → processes < 256 → 1 ≤ processes
    → AreOpeningRows rows processes (descriptor_limit limits) → AreRows processes limits rows
opening_are_rows rows processes limits few some h = grind (arith, common_steps, cases_eq, opening_row_at, opening_length, eq-eqb, opening_born, ne_eqb)

empty_slab : (opened : Slab Opened) (key : ℕ) → opened.slots ≡ [] → get opened key ≡ None
empty_slab opened key empty = ap (λ slots. get_or slots key None) empty

-- an empty slab has the entries of closed rows
pub opening_are_entries : (rows : List Keys) (opened : Slab Opened) → ((p fd : ℕ) → key_at rows p fd ≡ None) → opened.slots ≡ [] → AreEntries rows opened 0
opening_are_entries rows opened closed empty = grind (arith, common_steps, none-some, empty_slab)

-- the size of an empty file
pub opening_size : (sizes : List ℕ) (file : ℕ) → sizes ≡ replicate FILES 0 → get_or sizes file 0 ≡ 0
opening_size sizes file is =
    ap (λ xs. get_or xs file 0) is
    ∙ elim (cases_lt file FILES) [
      | inl inside ↦ get_or-replicate FILES file 0 0 inside
      | inr past ↦ get_or_past (replicate FILES 0) file 0 (omega (arith, length-replicate {A = ℕ} FILES 0))
    ]

-- the view of new tables stands for the descriptors at the opening
pub opening_stands : (rows : List Keys) (opened : Slab Opened) (sizes : List ℕ) (view : View)
    → view ≡ record { seen = seen_in rows opened; made = 0; sizes = λ file. get_or sizes file 0; born = has_row rows }
    → ((p fd : ℕ) → key_at rows p fd ≡ None) → ((p : ℕ) → has_row rows p ≡ eqb p 1) → ((file : ℕ) → get_or sizes file 0 ≡ 0)
    → ViewStandsFor view opening_descriptors
unfolding opening_descriptors
opening_stands rows opened sizes view is closed born empty = grind (arith, common_steps)
