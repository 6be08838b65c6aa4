use Rattle.std.proofs.Common.{arith}
use Rattle.summary_tree.proofs.Depths.{deeper, holds}
use Rattle.summary_tree.proofs.Forks.{at_fork}
use Rattle.summary_tree.proofs.subtree.Subtree.+depth.Goals as goal

pub returns-then-left-right-clause-few : goal.returns-then-left-right-clause-few
returns-then-left-right-clause-few g t c =
    let f = at_fork c.self.view_is c.self.invariant c.in-Fork.is c.deref-node.ensures in
    let n = c.deref-node.result.now in
    let s = f.nodes in
    let b = f.kept.balance in
    deeper c.depth-right.result n.right.nodes c.args.self.now.nodes c.depth-right.ensures.few (omega arith)

pub returns-else-left-right-clause-few : goal.returns-else-left-right-clause-few
returns-else-left-right-clause-few g t c =
    let f = at_fork c.self.view_is c.self.invariant c.in-Fork.is c.deref-node.ensures in
    let n = c.deref-node.result.now in
    let s = f.nodes in
    let b = f.kept.balance in
    deeper c.depth-left.result n.left.nodes c.args.self.now.nodes c.depth-left.ensures.few (omega arith)

pub returns-then-left-right-clause-many : goal.returns-then-left-right-clause-many
returns-then-left-right-clause-many g t c =
    let f = at_fork c.self.view_is c.self.invariant c.in-Fork.is c.deref-node.ensures in
    let n = c.deref-node.result.now in
    holds c.depth-left.result c.depth-right.result c.depth-right.result n.left.nodes n.right.nodes c.args.self.now.nodes (omega arith) (omega arith) c.depth-left.ensures.many c.depth-right.ensures.many f.nodes

pub returns-else-left-right-clause-many : goal.returns-else-left-right-clause-many
returns-else-left-right-clause-many g t c =
    let f = at_fork c.self.view_is c.self.invariant c.in-Fork.is c.deref-node.ensures in
    let n = c.deref-node.result.now in
    holds c.depth-left.result c.depth-right.result c.depth-left.result n.left.nodes n.right.nodes c.args.self.now.nodes (omega arith) (omega arith) c.depth-left.ensures.many c.depth-right.ensures.many f.nodes
