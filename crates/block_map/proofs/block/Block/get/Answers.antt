use Rattle.std.proofs.Common.{sym}
use Rattle.block_map.proofs.Found.{missing_value}
use Rattle.block_map.proofs.Zipped.{value_is}
use Rattle.block_map.proofs.block.Block.get.Goals as goal

pub returns-in-Ok : goal.returns-in-Ok
returns-in-Ok g c =
    let found = rw (← c.self.view_is) at c.in-Ok.ensures.place in
    let ks = c.self.inside.keys.items in
    let vs = c.self.inside.values.items in
    rw (← c.self.view_is) (value_is g.met.K.Ord.total c.args.key ks vs c.in-Ok.place c.self.invariant c.index.result.now found c.index.ensures)

pub returns-in-Err : goal.returns-in-Err
returns-in-Err g c = sym (missing_value g.met.K.Ord.total c.args.key c.args.self.now c.in-Err.field-0 c.in-Err.ensures.place)
