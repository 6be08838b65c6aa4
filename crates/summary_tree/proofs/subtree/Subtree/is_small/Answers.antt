use Rattle.std.proofs.Common.{◌≤◌, length, subst}
use Rattle.summary_tree.specs.Contents.{Parts}
use Rattle.summary_tree.proofs.Forks.{few_behind}
use Rattle.summary_tree.proofs.subtree.Subtree.is_small.Goals as goal

pub returns-clause-nodes : goal.returns-clause-nodes
returns-clause-nodes g c = subst (λ (parts : Parts g.row.T.Denot). parts.nodes ≤ length parts.items) c.self.view_is (few_behind g.S.Summary.tells c.self.inside.link c.self.invariant).0

pub returns-clause-excess : goal.returns-clause-excess
returns-clause-excess g c = subst (λ (parts : Parts g.row.T.Denot). parts.excess ≤ length parts.items) c.self.view_is (few_behind g.S.Summary.tells c.self.inside.link c.self.invariant).1
