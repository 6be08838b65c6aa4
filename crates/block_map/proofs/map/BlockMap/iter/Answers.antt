use Rattle.block_map.specs.Kept.{entries_in}
use Rattle.block_map.proofs.Updates.{sorted}
use Rattle.block_map.proofs.map.BlockMap.iter.Goals as goal

pub returns-clause-sorted : goal.returns-clause-sorted
returns-clause-sorted g c = rw (← c.self.view_is) (sorted g.K.Ord.cmp (entries_in c.self.inside.blocks) c.self.invariant.0)
