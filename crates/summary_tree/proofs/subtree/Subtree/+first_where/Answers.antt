use Rattle.std.proofs.Common.{sym, ◌∙◌}
use Rattle.summary_tree.proofs.Forks.{at_fork}
use Rattle.summary_tree.proofs.ListLemmas.{none_found, found_left, found_here, found_right}
use Rattle.summary_tree.proofs.subtree.Subtree.+first_where.Goals as goal

pub returns-then-not-may_hit : goal.returns-then-not-may_hit
returns-then-not-may_hit g t c =
    let f = at_fork c.self.view_is c.self.invariant c.in-Fork.is c.deref-node.ensures in
    sym (none_found (g.Q.Query.hits c.args.query.now) c.args.self.now.items (c.may_hit.ensures c.args.self.now.items f.told c.if-not-may_hit.true))

pub returns-in-Some : goal.returns-in-Some
returns-in-Some g t c =
    let f = at_fork c.self.view_is c.self.invariant c.in-Fork.is c.deref-node.ensures in
    let n = c.deref-node.result.now in
    sym (found_left _ _ _ n.block n.right.items _ f.items (sym c.in-Some.ensures))

pub returns-in-Some-first_where : goal.returns-in-Some-first_where
returns-in-Some-first_where g t c =
    let f = at_fork c.self.view_is c.self.invariant c.in-Fork.is c.deref-node.ensures in
    let n = c.deref-node.result.now in
    sym (found_here _ _ _ n.block n.right.items _ f.items (sym c.in_default.ensures) (sym c.in-Some-first_where.ensures))

pub returns-in_default-first_where : goal.returns-in_default-first_where
returns-in_default-first_where g t c =
    let f = at_fork c.self.view_is c.self.invariant c.in-Fork.is c.deref-node.ensures in
    let n = c.deref-node.result.now in
    c.first_where-in-Fork-2.ensures ∙ sym (found_right _ _ _ n.block n.right.items f.items (sym c.in_default.ensures) (sym c.in_default-first_where.ensures))
