-- Items with their arrivals, and what is kept of them.
use Rattle.std.specs.Prelude.{◌≡◌, ℕ, ◌-◌, ◌<◌, ◌≤◌, ◌^◌, ⊤, Bool, List, [], ◌∷◌, length, map}
use Rattle.std.specs.Bool.{nat_le}
use Rattle.std.specs.List.{AllByRecursion}
use Rattle.arrival_list.specs.declared.arrived.Arrived.{Arrived}
use Rattle.arrival_list.specs.declared.arrived.Counted.{Counted}

-- the items alone
abbrev pub items_of : {T : Type 0} → List (Arrived T) → List T
items_of arrived = map (λ a. a.item) arrived

-- the item came with this arrival, or later
abbrev pub is_from : {T : Type 0} → ℕ → Arrived T → Bool
is_from arrival arrived = nat_le arrival arrived.arrival

-- each item came before those behind it, and before the next arrival
abbrev pub AreRisingTo : {T : Type 0} → ℕ → List (Arrived T) → Type 0
AreRisingTo next [] = ⊤
AreRisingTo next (a ∷ arrived) = (a.arrival < next) × AllByRecursion (λ b. a.arrival < b.arrival) arrived × AreRisingTo next arrived

-- the items are so many, or as many as can be counted, and the rest tells of them, too
pub record Tells {T S : Type 0} (tells : S → List T → Type 0) (counted : Counted S) (arrived : List (Arrived T)) : Type 0 where
  pub count : length arrived < 2 ^ 64 → counted.count ≡ length arrived
  pub most : 2 ^ 64 ≤ length arrived → counted.count ≡ 2 ^ 64 - 1
  pub summary : tells counted.summary (items_of arrived)
