use Rattle.std.proofs.Common.{None, sym, subst}
use Rattle.std.specs.BTreeMap.{is_at}
use Rattle.block_map.specs.Kept.{entries_in}
use Rattle.block_map.specs.Updates.{Updates}
use Rattle.block_map.proofs.First.{one_fewer}
use Rattle.block_map.proofs.Updates.{remove_updates}
use Rattle.block_map.proofs.map.BlockMap.remove.Goals as goal

pub returns-clause-updates : goal.returns-clause-updates
returns-clause-updates g c =
    let es = entries_in c.self.inside.blocks in
    rw (← c.self.view_is)
    (subst (λ new. Updates g.K.Ord.cmp es new c.args.key None) (sym c.remove.ensures.entries) (remove_updates g.met.K.Ord.total c.args.key es c.self.invariant.0))

pub returns-clause-len : goal.returns-clause-len
returns-clause-len g c =
    let es = entries_in c.self.inside.blocks in
    rw (← c.self.view_is, c.remove.ensures.entries, c.remove.ensures.value) (one_fewer (is_at (g.K.Ord.cmp c.args.key)) es)
