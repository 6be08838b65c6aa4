use Rattle.std.proofs.Common.{sym, ap, ◌++◌, ◌∙◌, rules}
use Rattle.summary_tree.specs.Cuts.{unless}
use Rattle.summary_tree.proofs.CutLemmas.{each_from_first, split_at, unless_front}
use Rattle.summary_tree.proofs.Forks.{at_fork}
use Rattle.summary_tree.proofs.ListLemmas.{found_left, found_here, found_right}
use Rattle.summary_tree.proofs.subtree.Subtree.+first_where_before.Goals as goal

pub first_where_before-requires : goal.first_where_before-requires
first_where_before-requires g t c κs within =
    let f = at_fork c.self.view_is c.self.invariant c.in-Fork.is c.deref-node.ensures in
    let n = c.deref-node.result.now in
    let s = split_at (g.C.Cut.is_behind c.args.cut.now) c.args.self.now.items n.left.items n.block n.right.items f.items f.kept.filled c.requires in
    let cut = s.left in
    let e = f.nodes in
    search rules

pub first_where_before-requires-in-Fork : goal.first_where_before-requires-in-Fork
first_where_before-requires-in-Fork g t c κs within =
    let f = at_fork c.self.view_is c.self.invariant c.in-Fork.is c.deref-node.ensures in
    let n = c.deref-node.result.now in
    let s = split_at (g.C.Cut.is_behind c.args.cut.now) c.args.self.now.items n.left.items n.block n.right.items f.items f.kept.filled c.requires in
    let cut = s.right in
    let e = f.nodes in
    search rules

pub returns-then-begins_behind : goal.returns-then-begins_behind
returns-then-begins_behind g t c =
    let p = g.C.Cut.is_behind c.args.cut.now in
    let q = g.Q.Query.hits c.args.query.now in
    let f = at_fork c.self.view_is c.self.invariant c.in-Fork.is c.deref-node.ensures in
    let n = c.deref-node.result.now in
    let s = split_at (g.C.Cut.is_behind c.args.cut.now) c.args.self.now.items n.left.items n.block n.right.items f.items f.kept.filled c.requires in
    let each = each_from_first p n.block n.right.items f.kept.filled s.rest (sym c.begins_behind.ensures ∙ c.if-begins_behind.true) in
    c.first_where_before.ensures ∙ sym (unless_front p q c.args.self.now.items n.left.items (n.block ++ n.right.items) f.items each)

pub returns-in-Some : goal.returns-in-Some
returns-in-Some g t c =
    let p = g.C.Cut.is_behind c.args.cut.now in
    let q = g.Q.Query.hits c.args.query.now in
    let f = at_fork c.self.view_is c.self.invariant c.in-Fork.is c.deref-node.ensures in
    let n = c.deref-node.result.now in
    let s = split_at (g.C.Cut.is_behind c.args.cut.now) c.args.self.now.items n.left.items n.block n.right.items f.items f.kept.filled c.requires in
    c.unless_behind.ensures ∙ ap (unless p) (sym (found_left q _ n.left.items n.block n.right.items _ f.items (sym c.in-Some.ensures)))

pub returns-in-Some-first_where : goal.returns-in-Some-first_where
returns-in-Some-first_where g t c =
    let p = g.C.Cut.is_behind c.args.cut.now in
    let q = g.Q.Query.hits c.args.query.now in
    let f = at_fork c.self.view_is c.self.invariant c.in-Fork.is c.deref-node.ensures in
    let n = c.deref-node.result.now in
    let s = split_at (g.C.Cut.is_behind c.args.cut.now) c.args.self.now.items n.left.items n.block n.right.items f.items f.kept.filled c.requires in
    c.unless_behind-in-Some-first_where.ensures
    ∙ ap (unless p) (sym (found_here q _ n.left.items n.block n.right.items _ f.items (sym c.in_default.ensures) (sym c.in-Some-first_where.ensures)))

pub returns-in_default-first_where : goal.returns-in_default-first_where
returns-in_default-first_where g t c =
    let p = g.C.Cut.is_behind c.args.cut.now in
    let q = g.Q.Query.hits c.args.query.now in
    let f = at_fork c.self.view_is c.self.invariant c.in-Fork.is c.deref-node.ensures in
    let n = c.deref-node.result.now in
    let s = split_at (g.C.Cut.is_behind c.args.cut.now) c.args.self.now.items n.left.items n.block n.right.items f.items f.kept.filled c.requires in
    c.first_where_before-in-Fork.ensures
    ∙ ap (unless p) (sym (found_right q _ n.left.items n.block n.right.items f.items (sym c.in_default.ensures) (sym c.in_default-first_where.ensures)))
