use Rattle.std.proofs.Common.{◌≡◌, ◌<◌, ◌++◌, List, length, refl, sym, ap, ◌∙◌, subst, arith}
use Rattle.summary_tree.specs.declared.subtree.Node.{Node}
use Rattle.summary_tree.specs.declared.subtree.changing.Side.{Side}
use Rattle.summary_tree.specs.Contents.{Parts}
use Rattle.summary_tree.specs.Nodes.{items_of, IsKeptNode}
use Rattle.summary_tree.specs.Sides.{IsSideOf}
use Rattle.summary_tree.proofs.Forks.{at_fork}
use Rattle.summary_tree.proofs.Growing.{Around, around, differ_before, differ_behind, lacks_item, three_long}
use Rattle.summary_tree.proofs.subtree.Subtree.+put.Goals as goal
use Rattle.summary_tree.proofs.subtree.Subtree.+put.Goals.{in-Fork-2, in-Empty-2, in-Fork-4, in-Empty-4}

abbrev items_in : {T : Type 0} → Parts T → List T
items_in parts = parts.items

pub grown-requires-clause-lacks : goal.grown-requires-clause-lacks
grown-requires-clause-lacks g t c same =
    let p = g.C.Cut.is_behind c.args.cut.now in
    let x = c.args.item in
    let f = at_fork c.self.view_is c.self.invariant (sym c.in-Fork.ensures.value) c.deref.ensures in
    let m = c.deref_mut.result.now in
    let part = c.put.new.self in
    let new : Node g.row.T.Denot g.row.S.Denot = record { left = c.put.new.self; right = m.right; summary = m.summary; count = m.count; nodes = m.nodes; excess = m.excess; block = m.block } in
    let it : m ≡ c.deref.result.now = c.deref_mut.ensures.value ∙ sym c.deref.ensures in
    let kept = subst (IsKeptNode g.S.Summary.tells) (sym it) f.kept in
    let side = subst (λ (s : Side). IsSideOf p c.deref.result.now s) c.in-Left.is c.side_of.ensures in
    let some : 0 < length m.left.items = subst (λ (k : Node g.row.T.Denot g.row.S.Denot). 0 < length k.left.items) (sym it) side.1 in
    let put = subst (λ ys. Around x ys m.left.items) (sym c.put.ensures.items) (around p x m.left.items) in
    let before : c.deref-in-Left.result.now ≡ m = c.deref-in-Left.ensures ∙ sym c.deref_mut.ensures.value in
    let was_nodes : c.size-was.result.nodes ≡ m.left.nodes = c.size-was.ensures.nodes ∙ ap (λ (k : Node g.row.T.Denot g.row.S.Denot). k.left.nodes) before in
    let was_excess : c.size-was.result.excess ≡ m.left.excess = c.size-was.ensures.excess ∙ ap (λ (k : Node g.row.T.Denot g.row.S.Denot). k.left.excess) before in
    let is_nodes : c.size-is.result.nodes ≡ part.nodes = c.size-is.ensures.nodes ∙ ap (λ (k : Node g.row.T.Denot g.row.S.Denot). k.left.nodes) c.deref-in-Left-2.ensures in
    let is_excess : c.size-is.result.excess ≡ part.excess = c.size-is.ensures.excess ∙ ap (λ (k : Node g.row.T.Denot g.row.S.Denot). k.left.excess) c.deref-in-Left-2.ensures in
    let all : length c.args.self.now.items ≡ length (items_of m) = ap length (f.items ∙ ap items_of (sym it)) in
    let paid = c.put.ensures.paid some in
    let places = c.put.ensures.places in
    lacks_item x m new c.size-was.result.excess c.size-is.result.excess kept (record { summary = refl; count = refl; nodes = refl; excess = refl })
    (differ_before part.items m.left.items (m.block ++ m.right.items) put) (omega (arith, same, was_nodes, is_nodes)) (omega (arith, was_excess, is_excess)) (omega (arith, was_excess))
    (omega (arith, was_excess, is_excess, paid, places.0, places.1)) (omega (arith, all, c.requires.fits))

pub grown-requires-in-Right-clause-lacks : goal.grown-requires-in-Right-clause-lacks
grown-requires-in-Right-clause-lacks g t c same =
    let p = g.C.Cut.is_behind c.args.cut.now in
    let x = c.args.item in
    let f = at_fork c.self.view_is c.self.invariant (sym c.in-Fork.ensures.value) c.deref.ensures in
    let m = c.deref_mut-in-Right.result.now in
    let part = c.put-in-Right.new.self in
    let new : Node g.row.T.Denot g.row.S.Denot = record { left = m.left; right = c.put-in-Right.new.self; summary = m.summary; count = m.count; nodes = m.nodes; excess = m.excess; block = m.block } in
    let it : m ≡ c.deref.result.now = c.deref_mut-in-Right.ensures.value ∙ sym c.deref.ensures in
    let kept = subst (IsKeptNode g.S.Summary.tells) (sym it) f.kept in
    let side = subst (λ (s : Side). IsSideOf p c.deref.result.now s) c.in-Right.is c.side_of.ensures in
    let some : 0 < length m.right.items = subst (λ (k : Node g.row.T.Denot g.row.S.Denot). 0 < length k.right.items) (sym it) side.1 in
    let put = subst (λ ys. Around x ys m.right.items) (sym c.put-in-Right.ensures.items) (around p x m.right.items) in
    let before : c.deref-in-Right.result.now ≡ m = c.deref-in-Right.ensures ∙ sym c.deref_mut-in-Right.ensures.value in
    let was_nodes : c.size-was-in-Right.result.nodes ≡ m.right.nodes = c.size-was-in-Right.ensures.nodes ∙ ap (λ (k : Node g.row.T.Denot g.row.S.Denot). k.right.nodes) before in
    let was_excess : c.size-was-in-Right.result.excess ≡ m.right.excess = c.size-was-in-Right.ensures.excess ∙ ap (λ (k : Node g.row.T.Denot g.row.S.Denot). k.right.excess) before in
    let is_nodes : c.size-is-in-Right.result.nodes ≡ part.nodes = c.size-is-in-Right.ensures.nodes ∙ ap (λ (k : Node g.row.T.Denot g.row.S.Denot). k.right.nodes) c.deref-in-Right-2.ensures in
    let is_excess : c.size-is-in-Right.result.excess ≡ part.excess = c.size-is-in-Right.ensures.excess ∙ ap (λ (k : Node g.row.T.Denot g.row.S.Denot). k.right.excess) c.deref-in-Right-2.ensures in
    let all : length c.args.self.now.items ≡ length (items_of m) = ap length (f.items ∙ ap items_of (sym it)) in
    let paid = c.put-in-Right.ensures.paid some in
    let places = c.put-in-Right.ensures.places in
    lacks_item x m new c.size-was-in-Right.result.excess c.size-is-in-Right.result.excess kept (record { summary = refl; count = refl; nodes = refl; excess = refl })
    (differ_behind m.left.items _ _ (differ_behind m.block part.items m.right.items put)) (omega (arith, same, was_nodes, is_nodes)) (omega (arith, was_excess, is_excess)) (omega (arith, was_excess))
    (omega (arith, was_excess, is_excess, paid, places.0, places.1)) (omega (arith, all, c.requires.fits))

pub returns-in-Left-clause-count : goal.returns-in-Left-clause-count
returns-in-Left-clause-count g t c =
    let f = at_fork c.self.view_is c.self.invariant (sym c.in-Fork.ensures.value) c.deref.ensures in
    let m = c.deref_mut.result.now in
    let part = c.put.new.self in
    let it : m ≡ c.deref.result.now = c.deref_mut.ensures.value ∙ sym c.deref.ensures in
    let is : c.match-self-grown.self ≡ c.grown.result = elim c.match-self-grown.branch [ in-Fork-2 w ↦ w.self-is ∙ c.grown-in-Left.view_is | in-Empty-2 w ↦ w.self-is ∙ c.grown-in-Left.view_is ] in
    let all : length c.args.self.now.items ≡ length (items_of m) = ap length (f.items ∙ ap items_of (sym it)) in
    let new : length c.match-self-grown.self.items ≡ length (part.items ++ (m.block ++ m.right.items)) = ap length (ap items_in is ∙ ap items_in c.grown.ensures) in
    omega (arith, all, new, three_long m.left.items m.block m.right.items, three_long part.items m.block m.right.items, c.put.ensures.count)

pub returns-in-Right-clause-count : goal.returns-in-Right-clause-count
returns-in-Right-clause-count g t c =
    let f = at_fork c.self.view_is c.self.invariant (sym c.in-Fork.ensures.value) c.deref.ensures in
    let m = c.deref_mut-in-Right.result.now in
    let part = c.put-in-Right.new.self in
    let it : m ≡ c.deref.result.now = c.deref_mut-in-Right.ensures.value ∙ sym c.deref.ensures in
    let is : c.match-self-grown-2.self ≡ c.grown-in-Right.result = elim c.match-self-grown-2.branch [ in-Fork-4 w ↦ w.self-is ∙ c.grown-in-Right-2.view_is | in-Empty-4 w ↦ w.self-is ∙ c.grown-in-Right-2.view_is ] in
    let all : length c.args.self.now.items ≡ length (items_of m) = ap length (f.items ∙ ap items_of (sym it)) in
    let new : length c.match-self-grown-2.self.items ≡ length (m.left.items ++ (m.block ++ part.items)) = ap length (ap items_in is ∙ ap items_in c.grown-in-Right.ensures) in
    omega (arith, all, new, three_long m.left.items m.block m.right.items, three_long m.left.items m.block part.items, c.put-in-Right.ensures.count)
