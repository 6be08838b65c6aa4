-- Blocks at the places of their bounds.
use Rattle.std.specs.Prelude.{◌≡◌, ◌≢◌, ⊤, ℕ, IsSome, Option, Some, None, unwrap_or, List, [], ◌∷◌, length, map}
use Rattle.std.specs.List.{AllByRecursion}
use Rattle.std.specs.Map.{lookup}
use Rattle.std.specs.BTreeMap.{is_at}
use Rattle.std.specs.declared.cmp.Ordering.{Ordering}
use Rattle.std.specs.declared.ops.Bound.{Bound}
use Rattle.std.specs.declared.ops.Bound.TheVariants.{Excluded, Unbounded}
use Rattle.slab.specs.Slab.{Slab, get, slab_len}

-- the bounds with their blocks, and the bounds with the places of these
pub record PlacedBlocks (K X : Type 0) : Type 0 where
  pub entries : List (K × List X)
  pub places : List (K × ℕ)

-- the block of some bound stands at the place
abbrev pub IsPlace : {K : Type 0} → (K → K → Ordering) → List (K × ℕ) → ℕ → Type 0
IsPlace {K} cmp places place = (bound : K) × (lookup (is_at (cmp bound)) places ≡ Some place)

-- no two bounds have one place
abbrev pub AreApart : {K : Type 0} → List (K × ℕ) → Type 0
AreApart [] = ⊤
AreApart (e ∷ es) = AllByRecursion (λ f. f.1 ≢ e.1) es × AreApart es

module _ {K X : Type 0} where
  -- the bound, with the entries of the block at its place
  abbrev pub block_at_place : Slab (List X) → K × ℕ → K × List X
  block_at_place slab e = (e.0, unwrap_or (get slab e.1) [])

  -- the bounds, each with the entries of the block at its place
  abbrev pub blocks_at : List (K × ℕ) → Slab (List X) → List (K × List X)
  blocks_at places slab = map (block_at_place slab) places

  -- the bounds with those entries, and with the places
  abbrev pub placed_blocks : List (K × ℕ) → Slab (List X) → PlacedBlocks K X
  placed_blocks places slab = record { entries = blocks_at places slab; places = places }

  -- at the place of each bound stands a block
  abbrev pub AreThere : List (K × ℕ) → Slab (List X) → Type 0
  AreThere places slab = AllByRecursion (λ e. IsSome (get slab e.1)) places

  -- each bound has a place of its own, where a block stands, and there is no other block
  pub record ArePlaced (places : List (K × ℕ)) (slab : Slab (List X)) : Type 0 where
    pub there : AreThere places slab
    pub apart : AreApart places
    pub count : slab_len slab ≡ length places

-- the last bound, if there is one
abbrev pub last_bound : {K Y : Type 0} → List (K × Y) → Option K
last_bound [] = None
last_bound (block ∷ blocks) = Some (unwrap_or (last_bound blocks) block.0)

-- where the bounds behind this one begin, or all
abbrev pub behind_bound : {K : Type 0} → Option K → Bound K
behind_bound None = Unbounded
behind_bound (Some bound) = Excluded bound
