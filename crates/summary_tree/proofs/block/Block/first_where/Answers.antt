use Rattle.summary_tree.proofs.ListLemmas.{none_found}
use Rattle.summary_tree.proofs.block.Block.first_where.Goals as goal

pub returns-then-not-may_hit : goal.returns-then-not-may_hit
returns-then-not-may_hit g c =
    let told = c.self.invariant.0 in
    let none = none_found (g.Q.Query.hits c.args.query.now) c.self.inside.items.items (c.may_hit.ensures c.self.inside.items.items told c.if-not-may_hit.true) in
    let is = c.self.view_is in
    (cc)
