-- Maps by number, and how many grants may still come: for `Tickets::fetch`, `Tickets::forget`, `Tickets::grant` and others.
use Rattle.lock_server.proofs.Common.{ℕ, ◌≡◌, ◌≢◌, ◌+◌, ◌≤◌, arith, false, List, [], ◌∷◌, Option, Some, length, OnOk, OnErr, nat_cmp, is_at, UpdatesBy, lookup, keys_of, common_steps, sum_by-cons, Place, Granted, Tickets, place_at, SetsPlace}
use Rattle.std.proofs.Common.{Result, Ok, Err}
use Rattle.std.specs.BTreeMap.{insert_entry}
use Rattle.std.specs.Map.{set_value, remove_entry, values_of}
use Rattle.std.specs.List.Sorted.{IsStrictlySortedBy}
use Rattle.std.proofs.lemmas.Cmp.{nat_cmp_total}
use Rattle.std.proofs.lemmas.Map.Entries.{sum_by-set_value, sum_by-insert_entry, sum_by-remove_entry}
use Rattle.lock_server.specs.Owed.{owed, owed_by}

-- another number is not found where this one is
pub is_at-other : (n other : ℕ) → other ≢ n → is_at (nat_cmp n) other ≡ false
is_at-other n other differs = grind (arith, common_steps)

owed_by-one : (place : Place) → owed_by place ≤ 1
owed_by-one place = grind (arith, common_steps)

-- no more grants come than there are tickets
pub owed-few : (places : List (ℕ × Place)) → owed places ≤ length places
owed-few [] = omega arith
owed-few (entry ∷ places) = omega (arith, owed-few places, owed_by-one entry.1, sum_by-cons owed_by entry.1 (values_of places))

-- a new ticket brings one at most
pub owed-insert : (places : List (ℕ × Place)) (ticket : ℕ) (place : Place) → IsStrictlySortedBy nat_cmp (keys_of places)
    → owed (insert_entry nat_cmp places ticket place) ≤ owed places + 1
owed-insert places ticket place sorted = omega (arith, sum_by-insert_entry owed_by nat_cmp_total places ticket place sorted, owed_by-one place)

-- without one ticket there are no more
pub owed-remove : (places : List (ℕ × Place)) (ticket : ℕ) → owed (remove_entry (is_at (nat_cmp ticket)) places) ≤ owed places
owed-remove places ticket = omega (arith, sum_by-remove_entry owed_by (is_at (nat_cmp ticket)) places)

-- one that stands otherwise counts otherwise
pub owed-set : (places : List (ℕ × Place)) (ticket : ℕ) (old new : Place) → lookup (is_at (nat_cmp ticket)) places ≡ Some old
    → owed (set_value (is_at (nat_cmp ticket)) places new) + owed_by old ≡ owed places + owed_by new
owed-set places ticket old new there = sum_by-set_value owed_by (is_at (nat_cmp ticket)) places old new there

-- an update of the map sets the place
pub SetsPlace-updates : (old new : Tickets) (ticket : ℕ) (place : Option Place) → UpdatesBy nat_cmp (nat_cmp ticket) old.places new.places place
    → SetsPlace old new ticket place
unfolding place_at
SetsPlace-updates old new ticket place updates = record { here = updates.1; others = λ other differs. updates.2 other (is_at-other ticket other differs) }

-- an insertion, made or refused, brings one grant at most
-- a new ticket that is granted brings none
pub owed-queued : {T E : Type 0} (r : Result T E) (old new : List (ℕ × Place)) (ticket : ℕ) → IsStrictlySortedBy nat_cmp (keys_of old)
    → OnOk r (new ≡ insert_entry nat_cmp old ticket Granted) → OnErr r (new ≡ old) → owed new ≤ owed old
owed-queued (Ok x) old new ticket sorted ok err = rw ok (omega (arith, sum_by-insert_entry owed_by nat_cmp_total old ticket Granted sorted))
owed-queued (Err e) old new ticket sorted ok err = rw err (omega arith)

pub owed-inserted : {T E : Type 0} (r : Result T E) (old new : List (ℕ × Place)) (ticket : ℕ) (place : Place) → IsStrictlySortedBy nat_cmp (keys_of old)
    → OnOk r (new ≡ insert_entry nat_cmp old ticket place) → OnErr r (new ≡ old) → owed new ≤ owed old + 1
owed-inserted (Ok x) old new ticket place sorted ok err = rw ok (owed-insert old ticket place sorted)
owed-inserted (Err e) old new ticket place sorted ok err = rw err (omega arith)
