-- The entries of the slab, and what is seen of them, after each change: for `add_users`, `Tables::close_fd`, `Tables::close_one` and others.
use Rattle.fd_table.proofs.Common.{rules, ◌≡◌, ◌≢◌, ◌⊎◌, ℕ, ◌+◌, ◌<◌, ◌≤◌, Bool, true, false, cond, List, length, Option, Some, None, IsSome, refl, sym, ap, ◌∙◌, arith, common_steps, get_or-set_other, option_map, cases_eq, eq-eqb, ne_eqb, same_Some, none-some, Slab, get, Updates, Opened, Keys, row_at, key_at, with_key, is_place, users_of, AreEntries, Numbered, numbered, seen_in}
use Rattle.std.proofs.Common.{is_some}
use Rattle.std.specs.Option.{option_and_then}
use Rattle.range_core.specs.declared.TheConstants.{OFFMAX}
use Rattle.slab.specs.Slab.{with_value}
use Rattle.fd_table.specs.Soundness.{IsEntry}
use Rattle.fd_table.proofs.RowsLemmas.{place_cases, key_at-with_key, key_at-with_key_same, key_at-with_key_other}
use Rattle.fd_table.proofs.ViewLemmas.{moved}

-- a value that is there is some value
pub some_is : {X : Type 0} (o : Option X) (x : X) → o ≡ Some x → IsSome o
some_is o x is = ap is_some is

-- what some value is
pub value_of_some : {X : Type 0} (o : Option X) → IsSome o → (x : X) × (o ≡ Some x)
value_of_some None h = absurd (cc)
value_of_some (Some x) h = (x, refl)

-- an entry after a change was there before, or is the one that was written
pub updated_cases : (old new : Slab Opened) (key : ℕ) (slot : Option Opened) → Updates old new key slot → (x : ℕ) (entry : Opened) → get new x ≡ Some entry
    → ((x ≡ key) × (slot ≡ Some entry)) ⊎ ((x ≢ key) × (get old x ≡ Some entry))
updated_cases old new key slot updates x entry is = grind (arith, common_steps, cases_eq)

-- an entry that was written and then removed
pub removed_after_write : (old new : Slab Opened) (key : ℕ) (written : Opened) → Updates (with_value old key written) new key None → Updates old new key None
removed_after_write old new key written removed =
    record { changed = removed.changed; others = λ x apart. removed.others x apart ∙ get_or-set_other old.slots key x (Some written) None apart }

-- a key that was occupied stays so, where a value is written
pub stays_occupied : (old new : Slab Opened) (key : ℕ) (written : Opened) → Updates old new key (Some written) → (x : ℕ) → IsSome (get old x)
    → IsSome (get new x)
stays_occupied old new key written updates x was = grind (arith, common_steps, cases_eq, some_is)

-- an entry is written again with the same number, where the rows may change too
pub entries_rewritten : (rows after : List Keys) (old new : Slab Opened) (made key : ℕ) (entry written : Opened) → AreEntries rows old made
    → get old key ≡ Some entry
    → Updates old new key (Some written) → written.number ≡ entry.number → IsEntry made written → written.users ≡ users_of after key
    → ((x : ℕ) → x ≢ key → users_of after x ≡ users_of rows x) → ((p fd x : ℕ) → key_at after p fd ≡ Some x → IsSome (get old x)) → AreEntries after new made
entries_rewritten rows after old new made key entry written h was updates number is_entry counted others occupied =
    search (rules, stays_occupied, updated_cases, same_Some)

-- an entry that nobody uses any more is removed
pub entries_removed : (rows after : List Keys) (old new : Slab Opened) (made key : ℕ) → AreEntries rows old made → Updates old new key None
    → ((x : ℕ) → x ≢ key → users_of after x ≡ users_of rows x) → ((p fd x : ℕ) → key_at after p fd ≡ Some x → (x ≢ key) × IsSome (get old x))
    → AreEntries after new made
entries_removed rows after old new made key h updates others occupied = search (rules, updated_cases, none-some)

-- an entry with the next number is added at a vacant key
pub entries_added : (rows after : List Keys) (old new : Slab Opened) (made key : ℕ) (added : Opened) → AreEntries rows old made → get old key ≡ None
    → Updates old new key (Some added) → added.number ≡ made + 1 → IsEntry (made + 1) added → added.users ≡ users_of after key
    → ((x : ℕ) → x ≢ key → users_of after x ≡ users_of rows x) → ((p fd x : ℕ) → key_at after p fd ≡ Some x → (x ≡ key) ⊎ IsSome (get old x))
    → AreEntries after new (made + 1)
entries_added rows after old new made key added h vacant updates number is_entry counted others occupied =
    search (rules, some_is, stays_occupied, updated_cases, same_Some)

-- what a key shows
abbrev pub seen_by : Slab Opened → Option ℕ → Option Numbered
seen_by opened key = option_map numbered (option_and_then (get opened) key)

-- slabs whose entries show the same show the same by each key
pub seen_by_same : (old new : Slab Opened) → ((x : ℕ) → option_map numbered (get new x) ≡ option_map numbered (get old x)) → (key : Option ℕ)
    → seen_by new key ≡ seen_by old key
seen_by_same old new same None = refl
seen_by_same old new same (Some x) = same x

-- an entry that is written again with what it showed shows the same
pub rewritten_shows : (old new : Slab Opened) (key : ℕ) (entry written : Opened) → get old key ≡ Some entry → Updates old new key (Some written)
    → numbered written ≡ numbered entry
    → (x : ℕ) → option_map numbered (get new x) ≡ option_map numbered (get old x)
rewritten_shows old new key entry written was updates same x = search (rules, cases_eq)

-- a function of a choice is the choice of its values
pub at_cond : {X Y : Type 0} (f : X → Y) (b : Bool) (x y : X) → f (cond b x y) ≡ cond b (f x) (f y)
at_cond f true x y = refl
at_cond f false x y = refl

-- what is seen after one key was written
pub seen-with_key : (rows : List Keys) (opened : Slab Opened) (p fd : ℕ) (key : Option ℕ) → fd < length (row_at rows p) → (q k : ℕ)
    → seen_in (with_key rows p fd key) opened q k ≡ cond (is_place p fd q k) (seen_by opened key) (seen_in rows opened q k)
seen-with_key rows opened p fd key within q k =
    ap (seen_by opened) (key_at-with_key rows p fd key within q k) ∙ at_cond (seen_by opened) (is_place p fd q k) key (key_at rows q k)

-- the key that is written is occupied where the others are
pub key_at_written : (rows : List Keys) (p fd : ℕ) (key : Option ℕ) → fd < length (row_at rows p) → (q k x : ℕ) → key_at (with_key rows p fd key) q k ≡ Some x
    → (key ≡ Some x) ⊎ ((((q ≡ p) → (k ≡ fd) → ⊥)) × (key_at rows q k ≡ Some x))
key_at_written rows p fd key within q k x is = grind (arith, common_steps, place_cases, key_at-with_key_same, key_at-with_key_other)

-- an entry gets another offset: its rows stay
pub entries_moved : (rows : List Keys) (old new : Slab Opened) (made key offset : ℕ) (entry : Opened) → AreEntries rows old made
    → get old key ≡ Some entry → offset ≤ OFFMAX
    → Updates old new key (Some (record entry { offset = offset })) → AreEntries rows new made
entries_moved rows old new made key offset entry h was small updates = search (rules, entries_rewritten)

-- an entry shows what it showed, but for the offset of this number
moved_entry : (number offset : ℕ) (entry : Opened) → entry.number ≡ number → numbered (record entry { offset = offset }) ≡ moved number offset (numbered entry)
moved_entry number offset entry is = sym (ap (λ b. cond b (numbered (record entry { offset = offset })) (numbered entry)) (eq-eqb entry.number number is))

unmoved_entry : (number offset : ℕ) (entry : Opened) → entry.number ≢ number → numbered entry ≡ moved number offset (numbered entry)
unmoved_entry number offset entry differs = sym (ap (λ b. cond b (numbered (record entry { offset = offset })) (numbered entry)) (ne_eqb entry.number number differs))

moved_slot : (number offset : ℕ) (o : Option Opened) → ((e : Opened) → o ≡ Some e → e.number ≢ number)
    → option_map numbered o ≡ option_map (moved number offset) (option_map numbered o)
moved_slot number offset None differs = refl
moved_slot number offset (Some e) differs = ap Some (unmoved_entry number offset e (differs e refl))

-- each key shows what it showed, but for the offset of this number
pub moved_shows : (rows : List Keys) (old new : Slab Opened) (made key offset : ℕ) (entry : Opened) → AreEntries rows old made → get old key ≡ Some entry
    → Updates old new key (Some (record entry { offset = offset })) → (held : Option ℕ)
    → seen_by new held ≡ option_map (moved entry.number offset) (seen_by old held)
moved_shows rows old new made key offset entry h h2 h3 held = search (rules, cases_eq, moved_entry, moved, moved_slot)
