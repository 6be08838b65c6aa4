use Rattle.std.proofs.Common.{sym, ◌∙◌, rules}
use Rattle.summary_tree.proofs.CutLemmas.{any_at_last, split_at}
use Rattle.summary_tree.proofs.Forks.{at_fork}
use Rattle.summary_tree.proofs.ListLemmas.{found_among, found_left, found_right}
use Rattle.summary_tree.proofs.Splits.{none_passes}
use Rattle.summary_tree.proofs.subtree.Subtree.+first_from.Goals as goal

pub first_from-requires : goal.first_from-requires
first_from-requires g t c κs within =
    let f = at_fork c.self.view_is c.self.invariant c.in-Fork.is c.deref-node.ensures in
    let n = c.deref-node.result.now in
    let s = split_at (g.C.Cut.is_behind c.args.cut.now) c.args.self.now.items n.left.items n.block n.right.items f.items f.kept.filled c.requires in
    let cut = s.right in
    let e = f.nodes in
    search rules

pub first_from-requires-in-Fork : goal.first_from-requires-in-Fork
first_from-requires-in-Fork g t c κs within =
    let f = at_fork c.self.view_is c.self.invariant c.in-Fork.is c.deref-node.ensures in
    let n = c.deref-node.result.now in
    let s = split_at (g.C.Cut.is_behind c.args.cut.now) c.args.self.now.items n.left.items n.block n.right.items f.items f.kept.filled c.requires in
    let cut = s.left in
    let e = f.nodes in
    search rules

pub returns-then-not-ends_behind : goal.returns-then-not-ends_behind
returns-then-not-ends_behind g t c =
    let p = g.C.Cut.is_behind c.args.cut.now in
    let f = at_fork c.self.view_is c.self.invariant c.in-Fork.is c.deref-node.ensures in
    let n = c.deref-node.result.now in
    let s = split_at (g.C.Cut.is_behind c.args.cut.now) c.args.self.now.items n.left.items n.block n.right.items f.items f.kept.filled c.requires in
    let none = s.fails (sym c.ends_behind.ensures ∙ c.if-not-ends_behind.true) in
    c.first_from.ensures ∙ sym (found_right p _ n.left.items n.block n.right.items f.items (none_passes p n.left.items none.0) (none_passes p n.block none.1))

pub returns-in-Some : goal.returns-in-Some
returns-in-Some g t c =
    let f = at_fork c.self.view_is c.self.invariant c.in-Fork.is c.deref-node.ensures in
    let n = c.deref-node.result.now in
    let s = split_at (g.C.Cut.is_behind c.args.cut.now) c.args.self.now.items n.left.items n.block n.right.items f.items f.kept.filled c.requires in
    sym (found_left _ _ n.left.items n.block n.right.items _ f.items (sym c.in-Some.ensures))

pub returns-in_default : goal.returns-in_default
returns-in_default g t c =
    let f = at_fork c.self.view_is c.self.invariant c.in-Fork.is c.deref-node.ensures in
    let n = c.deref-node.result.now in
    let s = split_at (g.C.Cut.is_behind c.args.cut.now) c.args.self.now.items n.left.items n.block n.right.items f.items f.kept.filled c.requires in
    let passes = any_at_last (g.C.Cut.is_behind c.args.cut.now) n.block (sym c.ends_behind.ensures ∙ c.if-not-ends_behind.false) in
    c.first_from-in-Fork-2.ensures ∙ sym (found_among _ _ n.left.items n.block n.right.items f.items (sym c.in_default.ensures) passes)
