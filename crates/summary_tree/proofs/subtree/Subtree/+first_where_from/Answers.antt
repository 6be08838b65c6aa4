use Rattle.std.proofs.Common.{sym, ◌∙◌, rules}
use Rattle.summary_tree.specs.Cuts.{both}
use Rattle.summary_tree.proofs.CutLemmas.{any_at_last, found_by_both, none_by_both, split_at}
use Rattle.summary_tree.proofs.Forks.{at_fork}
use Rattle.summary_tree.proofs.ListLemmas.{found_left, found_here, found_right}
use Rattle.summary_tree.proofs.subtree.Subtree.+first_where_from.Goals as goal

pub first_where_from-requires : goal.first_where_from-requires
first_where_from-requires g t c κs within =
    let f = at_fork c.self.view_is c.self.invariant c.in-Fork.is c.deref-node.ensures in
    let n = c.deref-node.result.now in
    let s = split_at (g.C.Cut.is_behind c.args.cut.now) c.args.self.now.items n.left.items n.block n.right.items f.items f.kept.filled c.requires in
    let cut = s.right in
    let e = f.nodes in
    search rules

pub first_where_from-requires-in-Fork : goal.first_where_from-requires-in-Fork
first_where_from-requires-in-Fork g t c κs within =
    let f = at_fork c.self.view_is c.self.invariant c.in-Fork.is c.deref-node.ensures in
    let n = c.deref-node.result.now in
    let s = split_at (g.C.Cut.is_behind c.args.cut.now) c.args.self.now.items n.left.items n.block n.right.items f.items f.kept.filled c.requires in
    let cut = s.left in
    let e = f.nodes in
    search rules

pub returns-then-not-ends_behind : goal.returns-then-not-ends_behind
returns-then-not-ends_behind g t c =
    let p = g.C.Cut.is_behind c.args.cut.now in
    let q = g.Q.Query.hits c.args.query.now in
    let f = at_fork c.self.view_is c.self.invariant c.in-Fork.is c.deref-node.ensures in
    let n = c.deref-node.result.now in
    let s = split_at (g.C.Cut.is_behind c.args.cut.now) c.args.self.now.items n.left.items n.block n.right.items f.items f.kept.filled c.requires in
    let none = s.fails (sym c.ends_behind.ensures ∙ c.if-not-ends_behind.true) in
    c.first_where_from.ensures ∙ sym (found_right (both p q) _ n.left.items n.block n.right.items f.items (none_by_both p q n.left.items none.0) (none_by_both p q n.block none.1))

pub returns-in-Some : goal.returns-in-Some
returns-in-Some g t c =
    let f = at_fork c.self.view_is c.self.invariant c.in-Fork.is c.deref-node.ensures in
    let n = c.deref-node.result.now in
    let s = split_at (g.C.Cut.is_behind c.args.cut.now) c.args.self.now.items n.left.items n.block n.right.items f.items f.kept.filled c.requires in
    sym (found_left _ _ n.left.items n.block n.right.items _ f.items (sym c.in-Some.ensures))

pub returns-in-Some-first_where_from : goal.returns-in-Some-first_where_from
returns-in-Some-first_where_from g t c =
    let f = at_fork c.self.view_is c.self.invariant c.in-Fork.is c.deref-node.ensures in
    let n = c.deref-node.result.now in
    let s = split_at (g.C.Cut.is_behind c.args.cut.now) c.args.self.now.items n.left.items n.block n.right.items f.items f.kept.filled c.requires in
    sym (found_here _ _ n.left.items n.block n.right.items _ f.items (sym c.in_default.ensures) (sym c.in-Some-first_where_from.ensures))

pub returns-in_default-first_where_from : goal.returns-in_default-first_where_from
returns-in_default-first_where_from g t c =
    let p = g.C.Cut.is_behind c.args.cut.now in
    let q = g.Q.Query.hits c.args.query.now in
    let f = at_fork c.self.view_is c.self.invariant c.in-Fork.is c.deref-node.ensures in
    let n = c.deref-node.result.now in
    let s = split_at (g.C.Cut.is_behind c.args.cut.now) c.args.self.now.items n.left.items n.block n.right.items f.items f.kept.filled c.requires in
    let passes = s.passes (any_at_last p n.block (sym c.ends_behind.ensures ∙ c.if-not-ends_behind.false)) in
    c.first_where.ensures ∙ (sym (found_by_both p q n.right.items passes) ∙ sym (found_right (both p q) _ n.left.items n.block n.right.items f.items (sym c.in_default.ensures) (sym c.in_default-first_where_from.ensures)))
