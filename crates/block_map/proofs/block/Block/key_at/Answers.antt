use Rattle.std.proofs.Common.{◌<◌, length, ap}
use native.Mathlib.Omega.{arith}
use Rattle.block_map.proofs.Zipped.{as_many, key_there}
use Rattle.block_map.proofs.block.Block.key_at.Goals as goal

pub returns-clause-key : goal.returns-clause-key
returns-clause-key g c = λ d.
    let ks = c.self.inside.keys.items in
    let vs = c.self.inside.values.items in
    let below : c.args.place < length ks = omega (arith, c.requires, ap length c.self.view_is, as_many ks vs c.self.invariant.0) in
    rw (← c.self.view_is) (key_there ks vs c.args.place d c.index.result.now c.self.invariant.0 below c.index.ensures)
