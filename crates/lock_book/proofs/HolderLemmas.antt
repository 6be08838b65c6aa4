-- What the counts of locks by mode say of the places that they count: for `FlockHolders::blocked`, `FlockHolders::blocked_by_others`,
-- `FlockHolders::is_empty` and others.
use Rattle.lock_book.proofs.Common.{common_steps, ℕ, ◌≡◌, ◌≢◌, ◌+◌, ◌<◌, ◌≤◌, ◌∙◌, sym, ap, refl, subst, arith, true, false, Option, Some, None, [], ◌∷◌, All, Any, length, inl, inr, AllByRecursion, IsStrictlySortedBy, keys_of, lookup, BTreeMap, get, is_at, option_map, nat_cmp, Less, cases_Bool, cases_lt, eqb-true, eq-eqb, All-nil, All-cons, All-head, All-tail, Mode, Read, Write, HeldConflicts, Description, mode_in_place}
use Rattle.std.proofs.Common.{◌^◌, ◌↔◌}
use Rattle.std.specs.Prelude.{◌⊎◌, unwrap_or}
use Rattle.std.specs.Map.{values_of, remove_entry}
use Rattle.std.specs.BTreeMap.{UpdatesBy, WritesThrough, insert_entry}
use Rattle.std.specs.Option.{IsSome}
use Rattle.std.specs.Ordering.{is_eq}
use Rattle.std.specs.Cmp.{nat_cmp_total, eq_by_cmp_equiv}
use Rattle.std.proofs.lemmas.Bool.{ne_eqb}
use Rattle.std.proofs.lemmas.List.Sums.{sum_by-cons, sum_by-le}
use Rattle.std.proofs.lemmas.Option.{slice_get-get_or}
use Rattle.std.proofs.lemmas.Map.{lookup-remove_entry}
use Rattle.std.proofs.lemmas.Map.Entries.{length-values_of, lookup_from_place, sum_by-insert_entry, sum_by-remove_entry, sum_by-set_value}
use Rattle.std.proofs.lemmas.Map.Keys.{IsDistinct-from_sorted, sorted_head, sorted_tail}
use Rattle.range_core.specs.Ranges.{Conflict}
use Rattle.lock_book.specs.Conflicts.{FlockConflict}
use Rattle.lock_book.specs.Holders.{Places, place_among, flock_modes_among, locks_in, locks_among, conflicting, PutsAmong}
use Rattle.lock_book.specs.declared.book.holders.FlockLock.{FlockLock}
use Rattle.lock_book.specs.declared.book.holders.LockCount.{LockCount}
use Rattle.lock_book.proofs.ListLemmas.{Any-append_right, All-at_Any}
use Rattle.lock_book.proofs.OwnerLemmas.{is_eq-nat_cmp, less_from_nat, lookup-nat_cmp}

-- one lock at most stands in a place
locks_in-le : (mode : Mode) (lock : Option Mode) → locks_in mode lock ≤ 1
locks_in-le mode lock = grind (arith, common_steps)

-- so there are no more locks of a mode than places
pub locks_among-le : (mode : Mode) (places : Places) → locks_among mode places ≤ length places
locks_among-le mode places =
    let most = sum_by-le (locks_in mode) 1 (values_of places) (λ k d within. locks_in-le mode _) in
    let same = length-values_of places in
    omega arith

-- the places of the other descriptions
abbrev pub others : ℕ → Places → Places
others description places = remove_entry (is_at (nat_cmp description)) places

-- how many locks of a mode stand in a place that may be there
locks_in_place : (mode : Mode) (place : Option (Option Mode)) → unwrap_or (option_map (locks_in mode) place) 0 ≡ locks_in mode (mode_in_place place)
locks_in_place mode None = refl
locks_in_place mode (Some lock) = refl

own_locks : (mode : Mode) (description : ℕ) (places : Places)
    → unwrap_or (option_map (locks_in mode) (lookup (is_at (nat_cmp description)) places)) 0 ≡ locks_in mode (flock_modes_among places description)
own_locks mode description places = grind (arith, common_steps, lookup-nat_cmp, locks_in_place)

-- the locks are a description's own and the others
pub count_apart : (mode : Mode) (description : ℕ) (places : Places)
    → locks_among mode (others description places) + locks_in mode (flock_modes_among places description) ≡ locks_among mode places
count_apart mode description places = grind (arith, common_steps, own_locks, sum_by-remove_entry)

-- with what is put into its place in the place of what stood there
pub count_put : (mode : Mode) (description : ℕ) (lock : Option Mode) (places : Places) → IsStrictlySortedBy nat_cmp (keys_of places)
    → locks_among mode (insert_entry nat_cmp places description lock) + locks_in mode (flock_modes_among places description)
    ≡ locks_among mode places + locks_in mode lock
count_put mode description lock places sorted = grind (arith, common_steps, own_locks, sum_by-insert_entry)

-- of a count of all that may take off what stands there
pub own_counted : (mode : Mode) (description : ℕ) (own : Option Mode) (places : Places) (all : ℕ) → own ≡ flock_modes_among places description
    → all ≡ locks_among mode places → locks_in mode own ≤ all
own_counted mode description own places all is counted = grind (arith, common_steps, count_apart)

-- what is left is the count of the others
pub counted_others : (mode : Mode) (description : ℕ) (own : Option Mode) (places : Places) (all rest : ℕ)
    → own ≡ flock_modes_among places description → all ≡ locks_among mode places → rest + locks_in mode own ≡ all
    → rest ≡ locks_among mode (others description places)
counted_others mode description own places all rest is counted left = grind (arith, common_steps, count_apart)

-- with what is put into its place it is the count of the new places
pub counted_put : (mode : Mode) (description : ℕ) (before lock : Option Mode) (old new : Places) (all rest : ℕ)
    → IsStrictlySortedBy nat_cmp (keys_of old) → new ≡ insert_entry nat_cmp old description lock → before ≡ flock_modes_among old description
    → all ≡ locks_among mode old → rest + locks_in mode before ≡ all → rest + locks_in mode lock ≡ locks_among mode new
counted_put mode description before lock old new all rest sorted put is counted left =
    let sum = count_put mode description lock old sorted in
    let own : locks_in mode before ≡ locks_in mode (flock_modes_among old description) = ap (locks_in mode) is in
    rw put (omega (arith, sum, own, counted, left))

-- and so it is with a lock written over one
pub counted_written : (mode : Mode) (description : ℕ) (before lock : Option Mode) (old new : BTreeMap ℕ (Option Mode)) (all rest : ℕ)
    → Some before ≡ get nat_cmp old description → WritesThrough nat_cmp (nat_cmp description) old lock new
    → all ≡ locks_among mode old.entries → rest + locks_in mode before ≡ all → rest + locks_in mode lock ≡ locks_among mode new.entries
counted_written mode description before lock old new all rest there writes counted left =
    let sum = sum_by-set_value (locks_in mode) (is_at (nat_cmp description)) old.entries before lock (sym there) in
    rw writes.0 (omega (arith, sum, counted, left))

-- which is at most their number
pub counted_fits : (mode : Mode) (count : ℕ) (places : Places) (number : ℕ) → count ≡ locks_among mode places → number ≡ length places
    → number < 2 ^ 63 → count < 2 ^ 64
counted_fits mode count places number is numbered few = let most = locks_among-le mode places in omega arith

-- the place that a map has is the one that is looked up
pub own_lock : (description : ℕ) (places : Places) (place : Option (Option Mode)) (lock : Option Mode)
    → place ≡ lookup (is_at (nat_cmp description)) places → lock ≡ mode_in_place place → lock ≡ flock_modes_among places description
own_lock description places place lock looked is = is ∙ ap mode_in_place (looked ∙ lookup-nat_cmp description places)

-- an update of a map puts a place
pub PutsAmong-updates : (old new : BTreeMap ℕ (Option Mode)) (description : ℕ) (place : Option (Option Mode))
    → UpdatesBy nat_cmp (nat_cmp description) old new place → PutsAmong old.entries new.entries description place
PutsAmong-updates old new description place updates other = grind (arith, common_steps, lookup-nat_cmp, is_eq-nat_cmp)

-- and so does a write over a place
pub PutsAmong-writes : (old new : BTreeMap ℕ (Option Mode)) (description : ℕ) (place lock : Option Mode) → Some place ≡ get nat_cmp old description
    → WritesThrough nat_cmp (nat_cmp description) old lock new → PutsAmong old.entries new.entries description (Some lock)
PutsAmong-writes old new description place lock there writes =
    PutsAmong-updates old new description (Some lock) (writes.3 (subst (λ (found : Option (Option Mode)). IsSome found) there refl))

-- a lock that is counted stands in some place
is_or_none : (mode : Mode) (lock : Option Mode) → (lock ≡ Some mode) ⊎ (locks_in mode lock ≡ 0)
is_or_none mode lock = grind (arith, common_steps)

some_lock : (mode : Mode) (places : Places) → 0 < locks_among mode places → Any (λ e. e.1 ≡ Some mode) places
some_lock mode [] some = absurd (let none : 0 < 0 = some in omega arith)
some_lock mode (e ∷ places) some = elim (is_or_none mode e.1) [
  | inl here ↦ (0, e, omega arith, refl, here)
  | inr none ↦
      (let sum = sum_by-cons (locks_in mode) e.1 (values_of places) in
      Any-append_right (λ (x : ℕ × Option Mode). x.1 ≡ Some mode) (e ∷ []) places (some_lock mode places (omega arith)))
]

-- what holds of each place holds of each of the others
others_all : (P : ℕ × Option Mode → Type 0) (description : ℕ) (places : Places) → All P places → All P (others description places)
others_all P description [] all = all
others_all P description (e ∷ places) all = elim (cases_Bool (is_at (nat_cmp description) e.0)) [
  | inl own ↦ rw own (All-tail P e places all)
  | inr apart ↦ rw apart (All-cons P e (others description places) (All-head P e places all) (others_all P description places (All-tail P e places all)))
]

-- and these are of other descriptions
later_apart : (description first : ℕ) (places : Places) → first ≡ description → AllByRecursion (λ y. nat_cmp first y ≡ Less) (keys_of places)
    → All (λ e. e.0 ≢ description) places
later_apart description first [] same later = All-nil (λ e. e.0 ≢ description)
later_apart description first (e ∷ places) same later =
    All-cons (λ x. x.0 ≢ description) e places
    (λ is. let less = less_from_nat first e.0 later.0 in omega arith) (later_apart description first places same later.1)

others_apart : (description : ℕ) (places : Places) → IsStrictlySortedBy nat_cmp (keys_of places) → All (λ e. e.0 ≢ description) (others description places)
others_apart description [] sorted = All-nil (λ e. e.0 ≢ description)
others_apart description (e ∷ places) sorted = elim (cases_Bool (is_at (nat_cmp description) e.0)) [
  | inl own ↦
      rw own (later_apart description e.0 places (sym (eqb-true description e.0 (sym (is_eq-nat_cmp description e.0) ∙ own))) (sorted_head nat_cmp e.0 (keys_of places) sorted))
  | inr apart ↦
      rw apart (All-cons (λ x. x.0 ≢ description) e (others description places)
      (λ is. let own : is_at (nat_cmp description) e.0 ≡ true = is_eq-nat_cmp description e.0 ∙ eq-eqb description e.0 (sym is) in let h : true ≡ false = sym own ∙ apart in cc)
      (others_apart description places (sorted_tail nat_cmp e.0 (keys_of places) sorted)))
]

-- each place is the one that is looked up
places_found : (places : Places) → IsStrictlySortedBy nat_cmp (keys_of places) → All (λ e. place_among places e.0 ≡ Some e.1) places
places_found places sorted k d within =
    sym (lookup-nat_cmp _ places)
    ∙ lookup_from_place (eq_by_cmp_equiv nat_cmp_total) places k _ _ (IsDistinct-from_sorted nat_cmp (keys_of places) sorted) (slice_get-get_or places k d within)

-- a lock that is counted among the others is of another description
other_lock : (mode : Mode) (description : ℕ) (places : Places) → IsStrictlySortedBy nat_cmp (keys_of places) → 0 < locks_among mode (others description places)
    → (other : ℕ) × (other ≢ description) × (flock_modes_among places other ≡ Some mode)
other_lock mode description places sorted some =
    let found = others_all (λ e. place_among places e.0 ≡ Some e.1) description places (places_found places sorted) in
    let apart = others_apart description places sorted in
    let held = All-at_Any (λ e. (e.0 ≢ description) × (place_among places e.0 ≡ Some e.1)) (λ e. e.1 ≡ Some mode) (others description places)
    (λ k d within. (apart k d within, found k d within)) (some_lock mode (others description places) some) in
    (held.0.0, held.1.0, ap mode_in_place held.1.1 ∙ held.2)

locks_in-itself : (mode : Mode) → locks_in mode (Some mode) ≡ 1
locks_in-itself Read = refl
locks_in-itself Write = refl

-- and another description's lock is counted there
lock_counted : (mode : Mode) (description other : ℕ) (places : Places) → IsStrictlySortedBy nat_cmp (keys_of places) → other ≢ description
    → flock_modes_among places other ≡ Some mode → 0 < locks_among mode (others description places)
lock_counted mode description other places sorted different held =
    let distinct = IsDistinct-from_sorted nat_cmp (keys_of places) sorted in
    let apart : is_at (nat_cmp description) other ≡ false = is_eq-nat_cmp description other ∙ ne_eqb description other (λ e. different (sym e)) in
    let looked = lookup-remove_entry (eq_by_cmp_equiv nat_cmp_total) (is_at (nat_cmp description))
    (λ x y own. ap (λ (n : ℕ). is_eq (nat_cmp n y)) (eqb-true description x (sym (is_eq-nat_cmp description x) ∙ own)))
    other places distinct in
    let same : place_among (others description places) other ≡ place_among places other =
    sym (lookup-nat_cmp other (others description places)) ∙ rw apart at looked ∙ lookup-nat_cmp other places in
    let one : locks_in mode (flock_modes_among (others description places) other) ≡ 1 =
    ap (λ (place : Option (Option Mode)). locks_in mode (mode_in_place place)) same ∙ ap (locks_in mode) held ∙ locks_in-itself mode in
    let sum = count_apart mode other (others description places) in
    omega arith

-- of a flock mode that conflicts
conflicting_mode : (held : Option Mode) (wanted : Mode) → HeldConflicts held wanted → (mode : Mode) × (held ≡ Some mode)
conflicting_mode None wanted conflicts = absurd conflicts
conflicting_mode (Some mode) wanted conflicts = (mode, refl)

-- descriptions with two numbers are two owners
other_flock : (one other : ℕ) → one ≢ other → Description one ≢ Description other
other_flock one other different same = grind (arith, common_steps)

-- a lock that stands and conflicts with another description's
pub latest_conflicts : (places : Places) (lock : FlockLock) (description : ℕ) (wanted : Mode)
    → flock_modes_among places lock.description ≡ Some lock.mode → lock.description ≢ description → Conflict lock.mode wanted
    → FlockConflict (flock_modes_among places) (Description description) wanted
latest_conflicts places lock description wanted stands different conflict = record {
  description = lock.description;
  another = other_flock lock.description description different;
  conflicts = rw stands conflict;
}

-- where some of the counted locks conflicts some mode does that is counted
module _ (count : LockCount) (places : Places) (shared : count.shared ≡ locks_among Read places) (exclusive : count.exclusive ≡ locks_among Write places) where
  some_mode : (wanted : Mode) → 0 < conflicting count wanted → (mode : Mode) × Conflict mode wanted × (0 < locks_among mode places)
  some_mode Read some = (Write, tt, omega arith)
  some_mode Write some = elim (cases_lt 0 count.exclusive) [
    | inl held ↦ (Write, tt, omega arith)
    | inr none ↦ (Read, tt, omega arith)
  ]

  mode_counts : (mode wanted : Mode) → Conflict mode wanted → 0 < locks_among mode places → 0 < conflicting count wanted
  mode_counts Read Read conflict some = absurd conflict
  mode_counts Read Write conflict some = omega arith
  mode_counts Write Read conflict some = omega arith
  mode_counts Write Write conflict some = omega arith

-- so a lock of another description conflicts where one of the others that are counted does
pub conflict_counted : (count : LockCount) (description : ℕ) (wanted : Mode) (places : Places) → IsStrictlySortedBy nat_cmp (keys_of places)
    → count.shared ≡ locks_among Read (others description places) → count.exclusive ≡ locks_among Write (others description places)
    → (0 < conflicting count wanted) ↔ FlockConflict (flock_modes_among places) (Description description) wanted
conflict_counted count description wanted places sorted shared exclusive = (
  λ some.
      let mode = some_mode count (others description places) shared exclusive wanted some in
      let held = other_lock mode.0 description places sorted mode.2 in
      record {
        description = held.0;
        another = other_flock held.0 description held.1;
        conflicts = rw held.2 mode.1;
      },
  λ conflict.
      let mode = conflicting_mode (flock_modes_among places conflict.description) wanted conflict.conflicts in
      mode_counts count (others description places) shared exclusive mode.0 wanted
      (subst (λ (held : Option Mode). HeldConflicts held wanted) mode.1 conflict.conflicts)
      (lock_counted mode.0 description conflict.description places sorted (λ e. conflict.another (ap (λ (n : ℕ). Description n) e)) mode.1),
)

-- how many locks of each mode a description has
abbrev own_count : Option Mode → LockCount
own_count own = record { shared = locks_in Read own; exclusive = locks_in Write own }

-- a description has one lock at most
one_own : (own : Option Mode) → locks_in Read own + locks_in Write own ≤ 1
one_own own = grind (arith, common_steps)

-- of the counted locks of all, one at most isn't another description's
pub conflict_near : (count : LockCount) (description : ℕ) (wanted : Mode) (places : Places) → IsStrictlySortedBy nat_cmp (keys_of places)
    → count.shared ≡ locks_among Read places → count.exclusive ≡ locks_among Write places
    → (FlockConflict (flock_modes_among places) (Description description) wanted → 0 < conflicting count wanted)
    × (2 ≤ conflicting count wanted → FlockConflict (flock_modes_among places) (Description description) wanted)
conflict_near count description wanted places sorted shared exclusive = (
  λ conflict. (let some = counted.1 conflict in let near = near_by wanted in omega (arith, some, near.0)),
  λ two. counted.0 (let near = near_by wanted in omega (arith, two, near.1)),
)
  where
    rest : LockCount
    rest = record { shared = locks_among Read (others description places); exclusive = locks_among Write (others description places) }

    counted : (0 < conflicting rest wanted) ↔ FlockConflict (flock_modes_among places) (Description description) wanted
    counted = conflict_counted rest description wanted places sorted refl refl

    near_by : (mode : Mode) → (conflicting rest mode ≤ conflicting count mode) × (conflicting count mode ≤ conflicting rest mode + 1)
    near_by Read =
        let all = count_apart Write description places in
        let own = one_own (flock_modes_among places description) in
        (omega (arith, all, exclusive), omega (arith, all, exclusive, own))
    near_by Write =
        let all = count_apart Write description places in
        let shared_all = count_apart Read description places in
        let own = one_own (flock_modes_among places description) in
        (omega (arith, all, shared_all, exclusive, shared), omega (arith, all, shared_all, exclusive, shared, own))

-- what conflicts of the locks that are counted is what does of the others' and of the own one
conflict_apart : (count : LockCount) (description : ℕ) (places : Places) → count.shared ≡ locks_among Read places
    → count.exclusive ≡ locks_among Write places → (wanted : Mode)
    → conflicting (record { shared = locks_among Read (others description places); exclusive = locks_among Write (others description places) }) wanted
    + conflicting (own_count (flock_modes_among places description)) wanted ≡ conflicting count wanted
conflict_apart count description places shared exclusive Read = let all = count_apart Write description places in omega (arith, all, exclusive)
conflict_apart count description places shared exclusive Write =
    let all = count_apart Write description places in
    let shared_all = count_apart Read description places in
    omega (arith, all, shared_all, exclusive, shared)

-- a lock that conflicts is counted
own_conflicts : (own : Option Mode) (wanted : Mode) → HeldConflicts own wanted → 0 < conflicting (own_count own) wanted
own_conflicts None wanted conflicts = absurd conflicts
own_conflicts (Some Read) Read conflicts = absurd conflicts
own_conflicts (Some Read) Write conflicts = omega arith
own_conflicts (Some Write) Read conflicts = omega arith
own_conflicts (Some Write) Write conflicts = omega arith

-- two of the counted locks conflict exactly where each description is kept from a lock by another one's
pub conflict_for_all : (count : LockCount) (wanted : Mode) (places : Places) → IsStrictlySortedBy nat_cmp (keys_of places)
    → count.shared ≡ locks_among Read places → count.exclusive ≡ locks_among Write places
    → (2 ≤ conflicting count wanted) ↔ ((description : ℕ) → FlockConflict (flock_modes_among places) (Description description) wanted)
conflict_for_all count wanted places sorted shared exclusive = (
  λ two description. (conflict_near count description wanted places sorted shared exclusive).1 two,
  λ all.
      let first = all 0 in
      let rest : LockCount = record {
        shared = locks_among Read (others first.description places);
        exclusive = locks_among Write (others first.description places);
      } in
      let more = (conflict_counted rest first.description wanted places sorted refl refl).1 (all first.description) in
      let own = own_conflicts (flock_modes_among places first.description) wanted first.conflicts in
      let apart = conflict_apart count first.description places shared exclusive wanted in
      omega (arith, more, own, apart),
)

-- no lock stands in any place where none is counted that conflicts with a write lock
pub none_counted : (count : LockCount) (places : Places) → IsStrictlySortedBy nat_cmp (keys_of places)
    → count.shared ≡ locks_among Read places → count.exclusive ≡ locks_among Write places
    → (conflicting count Write ≡ 0) ↔ ((description : ℕ) → flock_modes_among places description ≡ None)
none_counted count places sorted shared exclusive = (
  λ none description. no_lock description none (flock_modes_among places description) refl,
  λ all. none_of_others all,
)
  where
    no_lock : (description : ℕ) → conflicting count Write ≡ 0 → (own : Option Mode) → own ≡ flock_modes_among places description
        → flock_modes_among places description ≡ None
    no_lock description none None is = sym is
    no_lock description none (Some Read) is = absurd (let some = own_counted Read description (Some Read) places count.shared is shared in omega (arith, some))
    no_lock description none (Some Write) is = absurd (let some = own_counted Write description (Some Write) places count.exclusive is exclusive in omega (arith, some))

    none_of_others : ((description : ℕ) → flock_modes_among places description ≡ None) → conflicting count Write ≡ 0
    none_of_others all =
        let reads : locks_in Read (flock_modes_among places 0) ≡ 0 = ap (locks_in Read) (all 0) in
        let writes : locks_in Write (flock_modes_among places 0) ≡ 0 = ap (locks_in Write) (all 0) in
        let counted = conflict_counted count 0 Write places sorted
        (let apart = count_apart Read 0 places in omega (arith, apart, shared, reads))
        (let apart = count_apart Write 0 places in omega (arith, apart, exclusive, writes)) in
        elim (cases_lt 0 (conflicting count Write)) [
          | inl some ↦ absurd (let conflict = counted.0 some in subst (λ (held : Option Mode). HeldConflicts held Write) (all conflict.description) conflict.conflicts)
          | inr none ↦ omega arith
        ]
