use Rattle.std.proofs.Common.{sym}
use Rattle.block_map.proofs.Found.{missing_remove, missing_value}
use Rattle.block_map.proofs.Zipped.{removed, value_is}
use Rattle.block_map.proofs.block.Block.remove.Goals as goal

pub invariant_of-self : goal.invariant_of-self
invariant_of-self g c =
    let found = rw (← c.self.view_is) at c.in-Ok.ensures.place in
    let ks = c.self.inside.keys.items in
    let vs = c.self.inside.values.items in
    rw (c.remove.ensures.items, c.remove-in-Ok.ensures.items) (removed g.met.K.Ord.total c.args.key ks vs c.in-Ok.place c.self.invariant found).0

pub returns-in-Ok-clause-value : goal.returns-in-Ok-clause-value
returns-in-Ok-clause-value g c =
    let found = rw (← c.self.view_is) at c.in-Ok.ensures.place in
    let ks = c.self.inside.keys.items in
    let vs = c.self.inside.values.items in
    rw (← c.self.view_is) (value_is g.met.K.Ord.total c.args.key ks vs c.in-Ok.place c.self.invariant c.remove-in-Ok.result found c.remove-in-Ok.ensures.value)

pub returns-in-Ok-clause-entries : goal.returns-in-Ok-clause-entries
returns-in-Ok-clause-entries g c =
    let found = rw (← c.self.view_is) at c.in-Ok.ensures.place in
    let ks = c.self.inside.keys.items in
    let vs = c.self.inside.values.items in
    rw (← c.self.view_is, c.remove.ensures.items, c.remove-in-Ok.ensures.items) (removed g.met.K.Ord.total c.args.key ks vs c.in-Ok.place c.self.invariant found).1

pub returns-in-Err-clause-value : goal.returns-in-Err-clause-value
returns-in-Err-clause-value g c = sym (missing_value g.met.K.Ord.total c.args.key c.args.self.now c.in-Err.field-0 c.in-Err.ensures.place)

pub returns-in-Err-clause-entries : goal.returns-in-Err-clause-entries
returns-in-Err-clause-entries g c = sym (missing_remove g.met.K.Ord.total c.args.key c.args.self.now c.in-Err.field-0 c.in-Err.ensures.place)
