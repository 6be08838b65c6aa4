use Rattle.block_map.specs.Kept.{entries_in}
use Rattle.block_map.proofs.Updates.{new_updates}
use Rattle.block_map.proofs.map.BlockMap.insert_new.Goals as goal

pub returns-clause-updates : goal.returns-clause-updates
returns-clause-updates g c =
    rw (← c.self.view_is) (new_updates g.met.K.Ord.total c.args.key c.args.value (entries_in c.self.inside.blocks) (entries_in c.insert_new.new.self) c.insert_new.result c.insert_new.ensures.told c.insert_new.ensures.ok)
