-- What is lent of entries.
use Rattle.std.specs.Prelude.{◌≡◌, ℕ, List, Option, Some, OnSome}
use Rattle.std.specs.Borrow.{LendsSo, MutBor, Fml, RattleType}
use Rattle.std.specs.BTreeMap.Lent.{OrdMembers}
use Rattle.std.specs.Map.{lookup, set_value}
use Rattle.std.specs.BTreeMap.{is_at}
use Rattle.block_map.specs.Kept.{SameBlocks, SetsBlock, SetsValue}
use Rattle.block_map.specs.Places.{PlacedBlocks}
use Rattle.block_map.specs.contracts.block.Block as block
use Rattle.block_map.specs.contracts.blocks.Blocks as blocks
use Rattle.block_map.specs.contracts.bounded.Bounded as bounded
use Rattle.block_map.specs.contracts.map.BlockMap as map
use Rattle.block_map.specs.declared.blocks.Blocks.{Blocks}

module _ (K V : RattleType) (g : OrdMembers K.Denot) where
  -- once the borrow ends, the key of the block has the value that was left behind it
  abbrev pub LendsHere : MutBor (List (K.Denot × V.Denot)) → K.Denot → Option (MutBor V.Denot) → Fml
  LendsHere old key lent = LendsSo (block.the_row K V (record { cmp = g.cmp }) (record { eq = g.eq }) (record { partial_cmp = g.partial_cmp })) V old lent
      (λ new left. new ≡ set_value (is_at (g.cmp key)) old.now left) (λ new. new ≡ old.now)

  -- once the borrow ends, the block behind the bound has the entries that were left behind it
  abbrev pub LendsBehind : MutBor (PlacedBlocks K.Denot (K.Denot × V.Denot)) → K.Denot → Option (MutBor (List (K.Denot × V.Denot))) → Fml
  LendsBehind old bound lent = LendsSo (bounded.the_row K V (record { cmp = g.cmp }) (record { eq = g.eq }) (record { partial_cmp = g.partial_cmp }))
      (block.the_row K V (record { cmp = g.cmp }) (record { eq = g.eq }) (record { partial_cmp = g.partial_cmp })) old lent
      (λ new left. OnSome lent (new.entries ≡ set_value (is_at (g.cmp bound)) old.now.entries left)) (λ new. new.entries ≡ old.now.entries)

  -- once the borrow ends, the block behind whichever bound has the place has the entries that were left behind it
  abbrev pub LendsPlace : MutBor (PlacedBlocks K.Denot (K.Denot × V.Denot)) → ℕ → Option (MutBor (List (K.Denot × V.Denot))) → Fml
  LendsPlace old place lent = LendsSo (bounded.the_row K V (record { cmp = g.cmp }) (record { eq = g.eq }) (record { partial_cmp = g.partial_cmp }))
      (block.the_row K V (record { cmp = g.cmp }) (record { eq = g.eq }) (record { partial_cmp = g.partial_cmp })) old lent
      (λ new left. OnSome lent ((bound : K.Denot) → lookup (is_at (g.cmp bound)) old.now.places ≡ Some place → new.entries ≡ set_value (is_at (g.cmp bound)) old.now.entries left))
      (λ new. new.entries ≡ old.now.entries)

  -- once the borrow ends, the block has the entries that were left behind it
  abbrev pub LendsBlock : MutBor (Blocks K.Denot V.Denot) → Option K.Denot → Option (MutBor (List (K.Denot × V.Denot))) → Fml
  LendsBlock old bound lent = LendsSo (blocks.the_row K V (record { cmp = g.cmp }) (record { eq = g.eq }) (record { partial_cmp = g.partial_cmp }))
      (block.the_row K V (record { cmp = g.cmp }) (record { eq = g.eq }) (record { partial_cmp = g.partial_cmp })) old lent
      (λ new left. OnSome lent (SetsBlock g.cmp bound old.now new left)) (λ new. SameBlocks old.now new)

  -- once the borrow ends, the key has the value that was left behind it, and all are in order
  abbrev pub LendsValue : MutBor (Blocks K.Denot V.Denot) → K.Denot → Option (MutBor V.Denot) → Fml
  LendsValue old key lent = LendsSo (blocks.the_row K V (record { cmp = g.cmp }) (record { eq = g.eq }) (record { partial_cmp = g.partial_cmp })) V old lent
      (λ new left. SetsValue g.cmp key old.now new left) (λ new. SameBlocks old.now new)

  -- once the borrow ends, the key has the value that was left behind it
  abbrev pub LendsEntry : MutBor (List (K.Denot × V.Denot)) → K.Denot → Option (MutBor V.Denot) → Fml
  LendsEntry old key lent = LendsSo (map.the_row K V (record { cmp = g.cmp }) (record { eq = g.eq }) (record { partial_cmp = g.partial_cmp })) V old lent
      (λ new left. new ≡ set_value (is_at (g.cmp key)) old.now left) (λ new. new ≡ old.now)
