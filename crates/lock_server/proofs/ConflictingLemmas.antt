-- The next wait that conflicts with another, and the next detected one of an owner: for `LockFile::next_conflicting`, `LockFile::add_steps`,
-- `Table::next_detected` and what asks these.
use Rattle.lock_server.proofs.Common.{◌≡◌, ℕ, ◌+◌, ◌<◌, ◌≤◌, ◌∙◌, ◌==◌, true, false, Option, Some, None, List, [], ◌∷◌, zero, suc, Any, length, take, refl, sym, ap, arith, ◌↔◌, IfNone, IfSome, IsTrue, is_some, slice_get, eqb-true, eq-eqb, same_Some, IsPlaceFrom, Pending, are_conflicting, is_of_kind, AddsOwners, IsNextDetected, IsNoneDetected, PendingsConflict}
use Rattle.std.proofs.Common.{◌&&◌}
use Rattle.lock_server.specs.declared.asking.Kind.TheVariants.{Detected}
use Rattle.lock_server.specs.Asking.{IsNextConflict, NoneConflicts}
use Rattle.lock_server.specs.Listing.{IsFirstConflict}
use Rattle.lock_server.proofs.AskingLemmas.{both, conflicting_test}
use Rattle.lock_server.proofs.BlockerLemmas.{IsBeforeInTheWay}
use Rattle.lock_server.proofs.GatheredOwnerLemmas.{AddsOwners-as, Any-from_place, Any-place, IsGivenBefore, gathered_more, gathered_past}
use Rattle.lock_server.proofs.PlaceFromLemmas.{get_taken, taken_at}

module _ (waits : List Pending) (wait : Pending) (from before : ℕ) where
  pub next_conflict : (place : ℕ) → IsPlaceFrom (λ other. are_conflicting other wait) from waits (Some place) → place < before
      → IsNextConflict waits wait from before place
  next_conflict place (item, is) within = record {
    not_before = is.not_before;
    within = within;
    other = item;
    there = is.there;
    conflicts = (conflicting_test item wait).0 is.passes;
    first = λ i v late early at clash.
        (let fail = is.first i v late early at in
        let yes = (conflicting_test v wait).1 clash in
        let h : false ≡ true = sym fail ∙ yes in cc);
  }

  pub none_so_far : (place : ℕ) → IsPlaceFrom (λ other. are_conflicting other wait) from waits (Some place) → before ≤ place → NoneConflicts waits wait from before
  none_so_far place (item, is) past i v late early at clash =
      let fail = is.first i v late (omega (arith, early, past)) at in
      let yes = (conflicting_test v wait).1 clash in
      let h : false ≡ true = sym fail ∙ yes in cc

  pub none_further : IsPlaceFrom (λ other. are_conflicting other wait) from waits None → NoneConflicts waits wait from before
  none_further none i v late early at clash =
      let fail = none i v late at in
      let yes = (conflicting_test v wait).1 clash in
      let h : false ≡ true = sym fail ∙ yes in cc

module _ (waits : List Pending) (wait : Pending) (before : ℕ) where
  pub no_conflict : NoneConflicts waits wait 0 before → ¬ Any (λ v. PendingsConflict v wait) (take before waits)
  no_conflict none any =
      let there = Any-place (λ v. PendingsConflict v wait) (take before waits) any in
      let at = taken_at before waits there.0 there.1 there.2 in
      none there.0 there.1 (omega arith) at.0 at.1 there.3

  pub some_conflict : (place : ℕ) → IsNextConflict waits wait 0 before place → Any (λ v. PendingsConflict v wait) (take before waits)
  some_conflict place is =
      Any-from_place (λ v. PendingsConflict v wait) (take before waits) place is.other (get_taken before waits place is.within ∙ is.there) is.conflicts

  pub any_conflicts : (found : Option ℕ) → IfSome found (IsNextConflict waits wait 0 before) → IfNone found (NoneConflicts waits wait 0 before)
      → IsTrue (is_some found) ↔ Any (λ v. PendingsConflict v wait) (take before waits)
  any_conflicts None some none = (λ told. absurd (let h : false ≡ true = told in cc), λ any. absurd (no_conflict none any))
  any_conflicts (Some place) some none = (λ told. some_conflict place some, λ any. refl)

  pub first_conflict : (place : ℕ) (other : Pending) → IsNextConflict waits wait 0 before place → slice_get waits place ≡ Some other
      → IsFirstConflict (take before waits) wait other.ticket
  first_conflict place other is at = record {
    place = place;
    other = is.other;
    there = get_taken before waits place is.within ∙ is.there;
    conflicts = is.conflicts;
    first = λ i v early there. is.first i v (omega arith) early (taken_at before waits i v there).1;
    of_ticket = ap (λ (v : Pending). v.ticket) (same_Some is.other other (sym is.there ∙ at));
  }

-- of so many waits those that conflict give their owners
abbrev pub InTheWay : Pending → ℕ → Pending → ℕ → Type 0
InTheWay wait place earlier owner = IsBeforeInTheWay wait earlier owner

module _ (waits : List Pending) (wait : Pending) (before from : ℕ) (old mid : List ℕ) where
  none_given : (end : ℕ) → ((i : ℕ) (v : Pending) → from ≤ i → i < end → slice_get (take before waits) i ≡ Some v → ¬ PendingsConflict v wait) → from ≤ end
      → AddsOwners old mid (IsGivenBefore (InTheWay wait) (take before waits) from) → AddsOwners old mid (IsGivenBefore (InTheWay wait) (take before waits) end)
  none_given end none further so_far =
      gathered_past (InTheWay wait) (take before waits) old mid from end further
      (λ place x other late early at way. none place x late early at (record { conflict = way.conflict })) so_far

  pub conflict_more : (new : List ℕ) (place : ℕ) → (next : IsNextConflict waits wait from before place)
      → AddsOwners old mid (IsGivenBefore (InTheWay wait) (take before waits) from) → AddsOwners mid new (λ other. next.other.owner ≡ other)
      → AddsOwners old new (IsGivenBefore (InTheWay wait) (take before waits) (place + 1))
  conflict_more new place next so_far adds =
      gathered_more (InTheWay wait) (take before waits) old mid new place next.other (get_taken before waits place next.within ∙ next.there)
      (none_given place (λ i v late early at. next.first i v late early (taken_at before waits i v at).1) next.not_before so_far)
      (AddsOwners-as mid new (λ other. next.other.owner ≡ other) (InTheWay wait place next.other)
      (λ other. (λ is. record { of_owner = is; conflict = next.conflicts.conflict }, λ way. way.of_owner)) adds)

  pub conflicts_passed : NoneConflicts waits wait from before → AddsOwners old mid (IsGivenBefore (InTheWay wait) (take before waits) from)
      → AddsOwners old mid (IsGivenBefore (InTheWay wait) (take before waits) (from + before))
  conflicts_passed none so_far =
      none_given (from + before) (λ i v late early at. (let there = taken_at before waits i v at in none i v late there.0 there.1)) (omega arith) so_far

-- so many in front are no more than that
pub few_taken : {X : Type 0} (n : ℕ) (xs : List X) → length (take n xs) ≤ n
few_taken zero xs = omega arith
few_taken (suc n) [] = omega arith
few_taken (suc n) (x ∷ xs) = let few = few_taken n xs in omega (arith, few)

-- the next detected wait of an owner
pub next_detected : (waits : List Pending) (owner from place : ℕ) → IsPlaceFrom (λ wait. is_of_kind Detected wait && (wait.owner == owner)) from waits (Some place)
    → IsNextDetected waits owner from place
next_detected waits owner from place (item, is) =
    let passes = both (is_of_kind Detected item) (item.owner == owner) is.passes in
    record {
      at_or_behind = is.not_before;
      is = (item, is.there, passes.0, eqb-true item.owner owner passes.1);
      first = λ i late early there.
          (let fail = is.first i there.0 late early there.1 in
          let h : false ≡ true = sym fail ∙ (ap (λ b. b && (there.0.owner == owner)) there.2 ∙ eq-eqb there.0.owner owner there.3) in cc);
    }

pub none_detected : (waits : List Pending) (owner from : ℕ) → IsPlaceFrom (λ wait. is_of_kind Detected wait && (wait.owner == owner)) from waits None
    → IsNoneDetected waits owner from
none_detected waits owner from none i late there =
    let fail = none i there.0 late there.1 in
    let h : false ≡ true = sym fail ∙ (ap (λ b. b && (there.0.owner == owner)) there.2 ∙ eq-eqb there.0.owner owner there.3) in cc

pub detected_told : (waits : List Pending) (owner from : ℕ) (found : Option ℕ)
    → IsPlaceFrom (λ wait. is_of_kind Detected wait && (wait.owner == owner)) from waits found
    → IfSome found (IsNextDetected waits owner from) × IfNone found (IsNoneDetected waits owner from)
detected_told waits owner from None none = (tt, none_detected waits owner from none)
detected_told waits owner from (Some place) first = (next_detected waits owner from place first, tt)
