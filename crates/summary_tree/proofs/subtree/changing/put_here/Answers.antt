use Rattle.std.proofs.Common.{◌≡◌, ◌+◌, ◌-◌, ◌<◌, ◌^◌, length, refl, sym, ap, ◌∙◌, subst, arith}
use Rattle.summary_tree.specs.Nodes.{IsKeptNode}
use Rattle.summary_tree.specs.Sizes.{part_size}
use Rattle.summary_tree.specs.declared.subtree.Node.{Node}
use Rattle.summary_tree.proofs.Growing.{Around, around, differ_before, differ_behind, lacks_item, three_long}
use Rattle.summary_tree.proofs.subtree.changing.put_here.Goals as goal

pub with_item-requires-clause-lacks : goal.with_item-requires-clause-lacks
with_item-requires-clause-lacks g c =
    let p = g.C.Cut.is_behind c.args.cut.now in
    let x = c.args.item in
    let m = c.deref_mut.result.now in
    let block = c.put.new.self in
    let new : Node g.row.T.Denot g.row.S.Denot = record { left = m.left; right = m.right; summary = m.summary; count = m.count; nodes = m.nodes; excess = m.excess; block = block } in
    let kept = subst (IsKeptNode g.S.Summary.tells) (sym c.deref_mut.ensures.value) c.requires.kept in
    let put = subst (λ ys. Around x ys m.block) (sym c.put.ensures.items) (around p x m.block) in
    let was : c.excess-was.result ≡ length m.block - part_size = c.excess-was.ensures ∙ ap (λ (k : Node g.row.T.Denot g.row.S.Denot). length k.block - part_size) (c.deref-then-len-lt-BLOCK.ensures ∙ sym c.deref_mut.ensures.value) in
    let is : c.excess-is.result ≡ length block - part_size = c.excess-is.ensures ∙ ap (λ (k : Node g.row.T.Denot g.row.S.Denot). length k.block - part_size) c.deref-then-len-lt-BLOCK-2.ensures in
    let fits = subst (λ (k : Node g.row.T.Denot g.row.S.Denot). length k.left.items + length k.block + length k.right.items + 1 < 2 ^ 64) (sym c.deref_mut.ensures.value) c.requires.fits in
    lacks_item x m new c.excess-was.result c.excess-is.result kept (record { summary = refl; count = refl; nodes = refl; excess = refl })
    (differ_behind m.left.items _ _ (differ_before block m.block m.right.items put)) refl (omega (arith, was, is)) (omega (arith, was)) (omega (arith, was, is, c.put.ensures.count))
    (omega (arith, three_long m.left.items m.block m.right.items, fits))
