-- What a block keeps of its items.
use Rattle.std.specs.Prelude.{◌≡◌, None, List}
use Rattle.std.specs.List.{last_or, slice_get}
use Rattle.summary_tree.specs.declared.block.Ends.{Ends}

-- these are the first item and the last
pub record AreEnds {T : Type 0} (ends : Ends T) (items : List T) : Type 0 where
  pub first : ends.first ≡ slice_get items 0
  pub last : ends.last ≡ last_or None items
