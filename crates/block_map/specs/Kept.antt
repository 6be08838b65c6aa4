-- How the entries are kept.
use Rattle.std.specs.Prelude.{◌≡◌, ◌<◌, ℕ, List, ◌++◌, length, Option, Some, None, MatchOption}
use Rattle.std.specs.Map.{lookup, set_value}
use Rattle.std.specs.BTreeMap.{is_at}
use Rattle.std.specs.declared.cmp.Ordering.{Ordering}
use Rattle.block_map.specs.Blocks.{AreParted, AreRising, entries_of}
use Rattle.block_map.specs.declared.blocks.Blocks.{Blocks}

-- all entries, in order
abbrev pub entries_in : {K X : Type 0} → Blocks K X → List (K × X)
entries_in blocks = blocks.first ++ entries_of blocks.others.entries

-- all blocks have the same entries
abbrev pub SameBlocks : {K X : Type 0} → Blocks K X → Blocks K X → Type 0
SameBlocks old new = (new.first ≡ old.first) × (new.others.entries ≡ old.others.entries)

-- there is a block, and there are entries of it on both sides of the place
abbrev pub HasPlace : {K X : Type 0} → Option (List (K × X)) → ℕ → Type 0
HasPlace block place = MatchOption block ⊥ (λ es. (0 < place) × (place < length es))

module _ {K X : Type 0} (cmp : K → K → Ordering) where
  -- the keys rise, and each entry lies in its block
  abbrev pub AreInOrder : Blocks K X → Type 0
  AreInOrder blocks = AreRising cmp (entries_in blocks) × AreParted cmp blocks.first blocks.others.entries

  -- all entries stay, and are in order
  abbrev pub KeepsEntries : Blocks K X → Blocks K X → Type 0
  KeepsEntries old new = (entries_in new ≡ entries_in old) × AreInOrder new

  -- the block behind the bound, or the first
  abbrev pub block_at : Option K → Blocks K X → Option (List (K × X))
  block_at None blocks = Some blocks.first
  block_at (Some bound) blocks = lookup (is_at (cmp bound)) blocks.others.entries

  -- the block behind the bound, or the first, has these entries now
  abbrev pub SetsBlock : Option K → Blocks K X → Blocks K X → List (K × X) → Type 0
  SetsBlock None old new es = (new.first ≡ es) × (new.others.entries ≡ old.others.entries)
  SetsBlock (Some bound) old new es = (new.first ≡ old.first) × (new.others.entries ≡ set_value (is_at (cmp bound)) old.others.entries es)

  -- the key has this value now, and all are in order
  abbrev pub SetsValue : K → Blocks K X → Blocks K X → X → Type 0
  SetsValue key old new value = (entries_in new ≡ set_value (is_at (cmp key)) (entries_in old) value) × AreInOrder new
