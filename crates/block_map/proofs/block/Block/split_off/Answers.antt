use Rattle.std.proofs.Common.{◌∙◌}
use Rattle.block_map.proofs.Zipped.{drop_is, dropped, rest_is, take_is, taken}
use Rattle.block_map.proofs.block.Block.split_off.Goals as goal

pub invariant_of-result : goal.invariant_of-result
invariant_of-result g c =
    let keys = c.in_ok-keys.ensures.items ∙ rest_is c.args.place c.deref.result.now c.self.inside.keys.items c.deref.ensures.value in
    rw (keys, c.in_ok-values.ensures.tail) (dropped g.K.Ord.cmp c.args.place c.self.inside.keys.items c.self.inside.values.items c.self.invariant)

pub invariant_of-self-2 : goal.invariant_of-self-2
invariant_of-self-2 g c =
    rw (c.truncate.ensures.items, c.in_ok-values.ensures.items) (taken g.K.Ord.cmp c.args.place c.self.inside.keys.items c.self.inside.values.items c.self.invariant)

pub returns-clause-ok : goal.returns-clause-ok
returns-clause-ok g c = rw (← c.self.view_is, c.truncate.ensures.items, c.in_ok-values.ensures.items) (take_is c.args.place c.self.inside.keys.items c.self.inside.values.items)

pub returns-clause-tail : goal.returns-clause-tail
returns-clause-tail g c =
    let keys = c.in_ok-keys.ensures.items ∙ rest_is c.args.place c.deref.result.now c.self.inside.keys.items c.deref.ensures.value in
    rw (← c.self.view_is, keys, c.in_ok-values.ensures.tail) (drop_is c.args.place c.self.inside.keys.items c.self.inside.values.items)
