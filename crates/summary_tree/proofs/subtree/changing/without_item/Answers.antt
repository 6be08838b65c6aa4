use Rattle.std.proofs.Common.{◌≡◌, ℕ, ◌+◌, ◌-◌, ◌<◌, ◌≤◌, ◌^◌, ◌++◌, ◌∷◌, length, sym, ap, ◌∙◌, subst, arith}
use Rattle.summary_tree.specs.declared.subtree.Node.{Node}
use Rattle.summary_tree.specs.Nodes.{IsKeptNode}
use Rattle.summary_tree.proofs.Growing.{fewer, kept_without, slight_without, three_long}
use Rattle.summary_tree.proofs.subtree.changing.without_item.Goals as goal

abbrev with_summary : {T S : Type 0} → Node T S → S → Node T S
with_summary node summary = record { left = node.left; right = node.right; summary = summary; count = node.count; nodes = node.nodes; excess = node.excess; block = node.block }

abbrev counted_down : {T S : Type 0} → Node T S → Node T S
counted_down node = record { left = node.left; right = node.right; summary = node.summary; count = node.count - 1; nodes = node.nodes; excess = node.excess; block = node.block }

abbrev with_excess : {T S : Type 0} → Node T S → ℕ → Node T S
with_excess node excess = record { left = node.left; right = node.right; summary = node.summary; count = node.count; nodes = node.nodes; excess = excess; block = node.block }

pub whole-requires-clause-filled : goal.whole-requires-clause-filled
whole-requires-clause-filled g c =
    let n = c.args.node.value in
    let k = c.requires.keeps in
    let some = subst (λ (m : Node g.row.T.Denot g.row.S.Denot). 0 < length m.block) (sym c.deref_mut.ensures.value) c.requires.filled in
    let fits = subst (λ (m : Node g.row.T.Denot g.row.S.Denot). length m.left.items + length m.block + length m.right.items < 2 ^ 64) (sym c.deref_mut.ensures.value)
    (omega (arith, fewer c.args.item.now n c.args.was c.args.is k, three_long n.left.items n.block n.right.items, k.fits)) in
    record { some = some; fits = fits }

pub overflow_add-deref : goal.overflow_add-deref
overflow_add-deref g c =
    let n = c.args.node.value in
    let k = c.requires.keeps in
    let left = subst (λ (m : Node g.row.T.Denot g.row.S.Denot). m.left.excess ≤ length m.left.items) c.deref.ensures c.is_small.ensures.excess in
    let right = subst (λ (m : Node g.row.T.Denot g.row.S.Denot). m.right.excess ≤ length m.right.items) c.deref-2.ensures c.is_small-2.ensures.excess in
    let is : c.deref-3.result.now.excess ≡ n.excess =
    ap (λ (m : Node g.row.T.Denot g.row.S.Denot). m.excess) c.deref-3.ensures ∙ (ap (λ (m : Node g.row.T.Denot g.row.S.Denot). m.excess) c.deref_mut-2.ensures.value ∙ ap (λ (m : Node g.row.T.Denot g.row.S.Denot). m.excess) c.deref_mut.ensures.value) in
    omega (arith, is, slight_without c.args.item.now n c.args.was c.args.is k left right, k.fits)

pub invariant_of-result : goal.invariant_of-result
invariant_of-result g c =
    let n = c.args.node.value in
    let k = c.requires.keeps in
    let tells = g.S.Summary.tells in
    let left = subst (λ (m : Node g.row.T.Denot g.row.S.Denot). (m.left.nodes ≤ length m.left.items) × (m.left.excess ≤ length m.left.items)) c.deref.ensures (c.is_small.ensures.nodes, c.is_small.ensures.excess) in
    let right = subst (λ (m : Node g.row.T.Denot g.row.S.Denot). (m.right.nodes ≤ length m.right.items) × (m.right.excess ≤ length m.right.items)) c.deref-2.ensures (c.is_small-2.ensures.nodes, c.is_small-2.ensures.excess) in
    let first : c.deref_mut.result.now ≡ n = c.deref_mut.ensures.value in
    let told = c.leave.ensures k.front k.back (subst (λ (m : Node g.row.T.Denot g.row.S.Denot). tells m.summary (k.front ++ c.args.item.now ∷ k.back)) (sym first) k.summary) c.if-not-leave.false in
    let kept = kept_without c.args.item.now n c.leave.new.self c.args.was c.args.is k told left right c.requires.filled c.requires.balance in
    let all : c.deref_mut-3.result.now ≡ counted_down (with_summary n c.leave.new.self) =
    c.deref_mut-3.ensures.value ∙ ap (λ (m : Node g.row.T.Denot g.row.S.Denot). counted_down m) (c.deref_mut-2.ensures.value ∙ ap (λ (m : Node g.row.T.Denot g.row.S.Denot). with_summary m c.leave.new.self) first) in
    let is : c.deref-3.result.now.excess ≡ n.excess =
    ap (λ (m : Node g.row.T.Denot g.row.S.Denot). m.excess) c.deref-3.ensures ∙ (ap (λ (m : Node g.row.T.Denot g.row.S.Denot). m.excess) c.deref_mut-2.ensures.value ∙ ap (λ (m : Node g.row.T.Denot g.row.S.Denot). m.excess) first) in
    subst (λ (m : Node g.row.T.Denot g.row.S.Denot). IsKeptNode tells (with_excess m (c.deref-3.result.now.excess - c.args.was + c.args.is))) (sym all)
    (subst (λ (e : ℕ). IsKeptNode tells (with_excess (counted_down (with_summary n c.leave.new.self)) (e - c.args.was + c.args.is))) (sym is) kept)
