use Rattle.std.proofs.Common.{◌++◌, arith, refl, sym, ◌∙◌}
use Rattle.summary_tree.specs.Nodes.{items_of}
use Rattle.summary_tree.proofs.CutLemmas.{any_at_last, same_first, split_at}
use Rattle.summary_tree.proofs.Splits.{put_last, put_left, put_middle, put_middle_end}
use Rattle.summary_tree.proofs.subtree.changing.side_of.Goals as goal

pub returns-then-nodes-eq0 : goal.returns-then-nodes-eq0
returns-then-nodes-eq0 g c x =
    let p = g.C.Cut.is_behind c.args.cut.now in
    let n = c.args.node.now in
    let s = split_at p (items_of n) n.left.items n.block n.right.items refl c.requires.filled c.requires.cut in
    let none = s.fails (sym c.ends_behind.ensures ∙ c.if-not-ends_behind.true) in
    put_middle_end p x n.left.items n.block n.right.items none.0 (c.nodes.ensures.none c.if-nodes-eq0.true)

pub returns-then-not-ends_behind : goal.returns-then-not-ends_behind
returns-then-not-ends_behind g c =
    let p = g.C.Cut.is_behind c.args.cut.now in
    let n = c.args.node.now in
    let s = split_at p (items_of n) n.left.items n.block n.right.items refl c.requires.filled c.requires.cut in
    let none = s.fails (sym c.ends_behind.ensures ∙ c.if-not-ends_behind.true) in
    (s.right, omega arith, λ x. put_last p x n.left.items n.block n.right.items none.0 none.1)

pub returns-then-begins_behind : goal.returns-then-begins_behind
returns-then-begins_behind g c =
    let p = g.C.Cut.is_behind c.args.cut.now in
    let n = c.args.node.now in
    let s = split_at p (items_of n) n.left.items n.block n.right.items refl c.requires.filled c.requires.cut in
    (s.left, omega arith, λ x. put_left p x n.left.items (n.block ++ n.right.items) (same_first p n.block n.right.items c.requires.filled ∙ (sym c.begins_behind.ensures ∙ c.if-begins_behind.true)))

pub returns : goal.returns
returns g c x =
    let p = g.C.Cut.is_behind c.args.cut.now in
    let n = c.args.node.now in
    let s = split_at p (items_of n) n.left.items n.block n.right.items refl c.requires.filled c.requires.cut in
    let some = any_at_last p n.block (sym c.ends_behind.ensures ∙ c.if-not-ends_behind.false) in
    put_middle p x n.left.items n.block n.right.items (s.starts (sym c.begins_behind.ensures ∙ c.if-begins_behind.false)) some
