use Rattle.std.proofs.Common.{sym, ◌∙◌}
use Rattle.summary_tree.proofs.Forks.{at_fork}
use Rattle.summary_tree.proofs.ListLemmas.{last_here, last_right}
use Rattle.summary_tree.proofs.subtree.Subtree.+last.Goals as goal

pub returns-in-Some : goal.returns-in-Some
returns-in-Some g t c =
    let f = at_fork c.self.view_is c.self.invariant c.in-Fork.is c.deref-node.ensures in
    let n = c.deref-node.result.now in
    sym (last_right _ n.left.items n.block n.right.items _ f.items (sym c.in-Some.ensures))

pub returns-in_default : goal.returns-in_default
returns-in_default g t c =
    let f = at_fork c.self.view_is c.self.invariant c.in-Fork.is c.deref-node.ensures in
    let n = c.deref-node.result.now in
    c.last-in-Fork.ensures ∙ sym (last_here _ n.left.items n.block n.right.items f.items (sym c.in_default.ensures) f.kept.filled)
