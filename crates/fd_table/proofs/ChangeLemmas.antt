-- The entries, and what is seen of them, where a descriptor gets a key or is closed: for `add_users`, `Tables::close_one`, `Tables::fork` and others.
use Rattle.fd_table.proofs.Common.{rules, ◌≡◌, ◌≢◌, ℕ, ◌+◌, ◌<◌, ◌≤◌, cond, List, length, Option, Some, None, refl, sym, ap, ◌∙◌, inl, inr, arith, common_steps, option_map, cases_lt, eq-eqb, ne_eqb, same_Some, none-some, Slab, get, Updates, Limits, FILES, Opened, Descriptors, without_one, ClosesOne, Keys, row_at, key_at, with_key, is_place, users_of, AreRows, AreEntries, View, Numbered, numbered, ViewStandsFor, seen_in}
use Rattle.std.proofs.Common.{◌-◌}
use Rattle.fd_table.specs.declared.Access.{Access}
use Rattle.fd_table.proofs.RowsLemmas.{key_within, users_of-with_key, users_of-le, one_for, key_is_used, used_by, row-short}
use Rattle.fd_table.proofs.ViewLemmas.{seen_some, seen_none}
use Rattle.fd_table.proofs.EntryLemmas.{some_is, value_of_some, entries_rewritten, entries_removed, entries_added, seen_by, seen_by_same, rewritten_shows, seen-with_key, key_at_written}
use Rattle.fd_table.proofs.CallLemmas.{seen_at_key}

-- a key counts for itself, and for no other
pub one_for-same : (key : ℕ) → one_for key (Some key) ≡ 1
one_for-same key = ap {B = ℕ} (λ b. cond b 1 0) (eq-eqb key key refl)

pub one_for-other : (x key : ℕ) → x ≢ key → one_for x (Some key) ≡ 0
one_for-other x key differs = ap {B = ℕ} (λ b. cond b 1 0) (ne_eqb key x (λ same. differs (sym same)))

-- a closed descriptor that gets a key is one user more of this key alone
pub users_of-opened : (rows : List Keys) (p fd key : ℕ) → p < length rows → fd < length (row_at rows p) → key_at rows p fd ≡ None
    → (users_of (with_key rows p fd (Some key)) key ≡ users_of rows key + 1) × ((x : ℕ) → x ≢ key
    → users_of (with_key rows p fd (Some key)) x ≡ users_of rows x)
users_of-opened rows p fd key inside within closed = grind (arith, common_steps, users_of-with_key, one_for, one_for-same, one_for-other)

-- a descriptor that is closed is one user less of its key alone
pub users_of-closed : (rows : List Keys) (p fd key : ℕ) → key_at rows p fd ≡ Some key
    → (users_of (with_key rows p fd None) key + 1 ≡ users_of rows key) × ((x : ℕ) → x ≢ key → users_of (with_key rows p fd None) x ≡ users_of rows x)
users_of-closed rows p fd key is = grind (arith, common_steps, key_within, users_of-with_key, one_for, one_for-same, one_for-other)

-- no entry has more users than there are descriptors
pub few_users : (processes : ℕ) (limits : Limits) (rows : List Keys) (opened : Slab Opened) (made key : ℕ) (entry : Opened)
    → AreRows processes limits rows → AreEntries rows opened made → get opened key ≡ Some entry → entry.users ≤ 65536
few_users processes limits rows opened made key entry rowed entered is =
    let most = users_of-le rows key 256 (λ p inside. row-short processes limits rows rowed p) in
    omega (arith, most, entered.counted key entry is, rowed.count, rowed.few)

-- the entry with one user more
abbrev pub one_more : Opened → Opened
one_more entry = record entry { users = entry.users + 1 }

-- the entry with one user less
abbrev pub one_less : Opened → Opened
one_less entry = record entry { users = entry.users - 1 }

-- the entries where a closed descriptor gets a key
pub entries_shared : (rows : List Keys) (old new : Slab Opened) (made p fd key : ℕ) (entry : Opened) → AreEntries rows old made → p < length rows
    → fd < length (row_at rows p) → key_at rows p fd ≡ None
    → get old key ≡ Some entry → Updates old new key (Some (one_more entry)) → AreEntries (with_key rows p fd (Some key)) new made
entries_shared rows old new made p fd key entry h inside within closed was updates =
    search (rules, users_of-opened, entries_rewritten, key_at_written, some_is, same_Some)

-- what is seen where a closed descriptor gets a key
pub seen_shared : (rows : List Keys) (old new : Slab Opened) (p fd from key : ℕ) (entry : Opened) → fd < length (row_at rows p) → key_at rows p from ≡ Some key
    → get old key ≡ Some entry → Updates old new key (Some (one_more entry)) → (q k : ℕ)
    → seen_in (with_key rows p fd (Some key)) new q k ≡ cond (is_place p fd q k) (seen_in rows old p from) (seen_in rows old q k)
seen_shared rows old new p fd from key entry within is was updates q k = search (rules, seen_by_same, rewritten_shows, seen-with_key, seen_by)

-- the entries where a descriptor is closed, and others use its description
pub entries_unshared : (rows : List Keys) (old new : Slab Opened) (made p fd key : ℕ) (entry : Opened) → AreEntries rows old made → key_at rows p fd ≡ Some key
    → get old key ≡ Some entry → entry.users ≢ 1 → Updates old new key (Some (one_less entry)) → AreEntries (with_key rows p fd None) new made
entries_unshared rows old new made p fd key entry h is was more updates =
    search (rules, users_of-closed, key_within, entries_rewritten, key_at_written, none-some)

-- what is seen where a descriptor is closed, and others use its description
pub seen_unshared : (rows : List Keys) (old new : Slab Opened) (p fd key : ℕ) (entry : Opened) → key_at rows p fd ≡ Some key
    → get old key ≡ Some entry → Updates old new key (Some (one_less entry)) → (q k : ℕ)
    → seen_in (with_key rows p fd None) new q k ≡ cond (is_place p fd q k) None (seen_in rows old q k)
seen_unshared rows old new p fd key entry is was updates q k = search (rules, seen_by_same, rewritten_shows, seen-with_key, key_within)

-- no other descriptor has the key of an entry with one user
unused_after : (rows : List Keys) (opened : Slab Opened) (made p fd key : ℕ) (entry : Opened) → AreEntries rows opened made
    → key_at rows p fd ≡ Some key → get opened key ≡ Some entry → entry.users ≡ 1
    → (q k x : ℕ) → key_at (with_key rows p fd None) q k ≡ Some x → x ≢ key
unused_after rows opened made p fd key entry h is was one q k x held same =
    let used = key_is_used (with_key rows p fd None) q k key (held ∙ ap Some same) in
    omega (arith, used, (users_of-closed rows p fd key is).0, h.counted key entry was)

-- the entries where the last descriptor of a description is closed
pub entries_dropped : (rows : List Keys) (old new : Slab Opened) (made p fd key : ℕ) (entry : Opened) → AreEntries rows old made → key_at rows p fd ≡ Some key
    → get old key ≡ Some entry → entry.users ≡ 1 → Updates old new key None → AreEntries (with_key rows p fd None) new made
entries_dropped rows old new made p fd key entry h is was one updates =
    entries_removed rows (with_key rows p fd None) old new made key h updates (users_of-closed rows p fd key is).1
    (λ q k x held. (
      unused_after rows old made p fd key entry h is was one q k x held,
      elim (key_at_written rows p fd None (key_within rows p fd key is).1 q k x held) [
        | inl same ↦ absurd (none-some x same)
        | inr there ↦ h.occupied q k x there.1
      ],
    ))

seen_by_kept : (old new : Slab Opened) (key : ℕ) (slot : Option Opened) (held : Option ℕ) → Updates old new key slot
    → ((x : ℕ) → held ≡ Some x → x ≢ key) → seen_by new held ≡ seen_by old held
seen_by_kept old new key slot None updates apart = refl
seen_by_kept old new key slot (Some x) updates apart = ap (option_map numbered) (updates.others x (apart x refl))

-- what is seen where the last descriptor of a description is closed
pub seen_dropped : (rows : List Keys) (old new : Slab Opened) (made p fd key : ℕ) (entry : Opened) → AreEntries rows old made → key_at rows p fd ≡ Some key
    → get old key ≡ Some entry → entry.users ≡ 1 → Updates old new key None → (q k : ℕ)
    → seen_in (with_key rows p fd None) new q k ≡ cond (is_place p fd q k) None (seen_in rows old q k)
seen_dropped rows old new made p fd key entry h is was one updates q k = search (rules, seen_by_kept, unused_after, seen-with_key, key_within)

-- an entry behind what is seen
pub entry_seen : (opened : Slab Opened) (held : Option ℕ) (s : Numbered) → seen_by opened held ≡ Some s
    → (x : ℕ) × (entry : Opened) × (held ≡ Some x) × (get opened x ≡ Some entry) × (numbered entry ≡ s)
entry_seen opened held s h = search (rules, none-some, same_Some)

-- what an open descriptor of the definition is seen as
pub seen_from : (v : View) (D : Descriptors) (p fd number : ℕ) → ViewStandsFor v D → D.description_of p fd ≡ Some number
    → (s : Numbered) × (v.seen p fd ≡ Some s) × (s.number ≡ number)
seen_from v D p fd number h is = through (v.seen p fd) refl
  where
    through : (o : Option Numbered) → v.seen p fd ≡ o → (s : Numbered) × (v.seen p fd ≡ Some s) × (s.number ≡ number)
    through None at = absurd (none-some number (sym (seen_none v D p fd h at) ∙ is))
    through (Some s) at = (s, at, same_Some s.number number (sym (seen_some v D p fd s h at).0 ∙ is))

-- a closing that was the last of its description
pub closes_last : (rows : List Keys) (old new : Slab Opened) (made p fd key : ℕ) (entry : Opened) (v w : View) (D : Descriptors)
    → ((q k : ℕ) → v.seen q k ≡ seen_in rows old q k) → ((q k : ℕ) → w.seen q k ≡ seen_in (with_key rows p fd None) new q k)
    → AreEntries rows old made → key_at rows p fd ≡ Some key → get old key ≡ Some entry → entry.users ≡ 1 → Updates old new key None
    → ViewStandsFor v D → ViewStandsFor w (without_one D p fd) → ClosesOne D p fd (record { file = entry.file; last = Some entry.number })
closes_last rows old new made p fd key entry v w D shown left h is was one updates stands after =
    let at = seen_some v D p fd (numbered entry) stands (shown p fd ∙ seen_at_key rows old p fd key entry is was) in
    record {
      description = entry.number;
      refers = at.0;
      of_file = ap (option_map (λ o. o.file)) at.1;
      last = (
        refl,
        λ still.
            let seen = seen_from w (without_one D p fd) still.process still.fd entry.number after still.refers in
            let there = entry_seen new (key_at (with_key rows p fd None) still.process still.fd) seen.0 (sym (left still.process still.fd) ∙ seen.1) in
            let apart = unused_after rows old made p fd key entry h is was one still.process still.fd there.0 there.2 in
            apart (h.distinct there.0 key there.1 entry (sym (updates.others there.0 apart) ∙ there.3) was (ap (λ s. s.number) there.4 ∙ seen.2)),
      );
    }

-- a closing that left other users of its description
pub closes_shared : (rows : List Keys) (old new : Slab Opened) (made p fd key : ℕ) (entry : Opened) (v w : View) (D : Descriptors)
    → ((q k : ℕ) → v.seen q k ≡ seen_in rows old q k) → ((q k : ℕ) → w.seen q k ≡ seen_in (with_key rows p fd None) new q k)
    → AreEntries rows old made → key_at rows p fd ≡ Some key → get old key ≡ Some entry → entry.users ≢ 1 → Updates old new key (Some (one_less entry))
    → ViewStandsFor v D → ViewStandsFor w (without_one D p fd) → ClosesOne D p fd (record { file = entry.file; last = None })
closes_shared rows old new made p fd key entry v w D shown left h is was more updates stands after =
    let at = seen_some v D p fd (numbered entry) stands (shown p fd ∙ seen_at_key rows old p fd key entry is was) in
    let users = (users_of-closed rows p fd key is).0 in
    let user = used_by (with_key rows p fd None) key (omega (arith, users, h.counted key entry was, (h.each key entry was).used)) in
    record {
      description = entry.number;
      refers = at.0;
      of_file = ap (option_map (λ o. o.file)) at.1;
      last = record {
        process = user.0;
        fd = user.1;
        refers = (seen_some w (without_one D p fd) user.0 user.1 (numbered (one_less entry)) after (left user.0 user.1 ∙ seen_at_key (with_key rows p fd None) new user.0 user.1 key (one_less entry) user.2 updates.changed)).0;
      };
    }

-- the entry of a file that was just opened
abbrev pub new_entry : ℕ → ℕ → Access → Opened
new_entry number file access = record { number = number; file = file; access = access; offset = 0; users = 1 }

-- the entries where a closed descriptor gets a new description
pub entries_opened : (rows : List Keys) (old new : Slab Opened) (made p fd key file : ℕ) (access : Access) → AreEntries rows old made
    → p < length rows → fd < length (row_at rows p) → key_at rows p fd ≡ None
    → file < FILES → get old key ≡ None → Updates old new key (Some (new_entry (made + 1) file access))
    → AreEntries (with_key rows p fd (Some key)) new (made + 1)
entries_opened rows old new made p fd key file access h inside within closed small vacant updates =
    let users = users_of-opened rows p fd key inside within closed in
    let unused : users_of rows key ≡ 0 =
    elim (cases_lt 0 (users_of rows key)) [
      | inl used ↦
          let user = used_by rows key used in
          let there = value_of_some (get old key) (h.occupied user.0 user.1 key user.2) in
          absurd (none-some there.0 (sym vacant ∙ there.1))
      | inr none ↦ omega arith
    ] in
    entries_added rows (with_key rows p fd (Some key)) old new made key (new_entry (made + 1) file access) h vacant updates refl
    (record { positive = omega arith; given_out = omega arith; file = small; offset = omega arith; used = omega arith })
    (omega (arith, users.0, unused)) users.1
    (λ q k x is.
    elim (key_at_written rows p fd (Some key) within q k x is) [
      | inl same ↦ inl (sym (same_Some key x same))
      | inr there ↦ inr (h.occupied q k x there.1)
    ])

-- what is seen where a closed descriptor gets a new description
pub seen_opened : (rows : List Keys) (old new : Slab Opened) (made p fd key : ℕ) (entry : Opened) → AreEntries rows old made → fd < length (row_at rows p)
    → get old key ≡ None → Updates old new key (Some entry) → (q k : ℕ)
    → seen_in (with_key rows p fd (Some key)) new q k ≡ cond (is_place p fd q k) (Some (numbered entry)) (seen_in rows old q k)
seen_opened rows old new made p fd key entry h within vacant updates q k =
    seen-with_key rows new p fd (Some key) within q k
    ∙ ap (λ o. cond (is_place p fd q k) (option_map numbered o) (seen_in rows new q k)) updates.changed
    ∙ ap (cond (is_place p fd q k) (Some (numbered entry))) (seen_by_kept old new key (Some entry) (key_at rows q k) updates apart)
  where
    apart : (x : ℕ) → key_at rows q k ≡ Some x → x ≢ key
    apart x held same =
        let there = value_of_some (get old x) (h.occupied q k x held) in
        none-some there.0 (sym vacant ∙ ap (get old) (sym same) ∙ there.1)
