use Rattle.std.proofs.Common.{◌≡◌, ◌-◌, None, Some, List, ◌++◌, length, refl, ap, rules, subst, sym, ◌∙◌, arith}
use Rattle.std.specs.List.{find}
use Rattle.summary_tree.specs.declared.subtree.Node.{Node}
use Rattle.summary_tree.specs.Contents.{Parts}
use Rattle.summary_tree.specs.Cuts.{without_first}
use Rattle.summary_tree.specs.Nodes.{IsKeptNode}
use Rattle.summary_tree.specs.Sizes.{part_size}
use Rattle.summary_tree.proofs.Growing.{with_side, Around, differ_before, differ_behind, around_taken, if_some, keeps_item}
use Rattle.summary_tree.proofs.CutLemmas.{any_at_last, split_at}
use Rattle.summary_tree.proofs.Forks.{at_fork}
use Rattle.summary_tree.proofs.ListLemmas.{found_here, found_left, found_right}
use Rattle.summary_tree.proofs.Splits.{any_found, none_passes, none_passes_from, without_last, without_left, without_middle}
use Rattle.summary_tree.proofs.subtree.Subtree.+take.Goals as goal

abbrev items_in : {T : Type 0} → Parts T → List T
items_in parts = parts.items

abbrev left_of : {T S : Type 0} → Node T S → List T
left_of node = node.left.items

abbrev block_of : {T S : Type 0} → Node T S → List T
block_of node = node.block

abbrev right_of : {T S : Type 0} → Node T S → List T
right_of node = node.right.items

three : {X : Type 0} {l m b c r s : List X} → l ≡ m → b ≡ c → r ≡ s → l ++ (b ++ r) ≡ m ++ (c ++ s)
three h k e = cc

pub take-taken-requires : goal.take-taken-requires
take-taken-requires g t c κs within =
    let p = g.C.Cut.is_behind c.args.cut.now in
    let f = at_fork c.self.view_is c.self.invariant (sym c.in-Fork.ensures.value) c.deref.ensures in
    let n = c.deref.result.now in
    let s = split_at p c.args.self.now.items n.left.items n.block n.right.items f.items f.kept.filled c.requires in
    let cut = s.right in
    let e = f.nodes in
    search rules

pub take-requires : goal.take-requires
take-requires g t c κs within =
    let p = g.C.Cut.is_behind c.args.cut.now in
    let f = at_fork c.self.view_is c.self.invariant (sym c.in-Fork.ensures.value) c.deref.ensures in
    let n = c.deref.result.now in
    let s = split_at p c.args.self.now.items n.left.items n.block n.right.items f.items f.kept.filled c.requires in
    let cut = s.left in
    let e = f.nodes in
    search rules

pub returns-then-not-ends_behind-clause-item : goal.returns-then-not-ends_behind-clause-item
returns-then-not-ends_behind-clause-item g t c =
    let p = g.C.Cut.is_behind c.args.cut.now in
    let f = at_fork c.self.view_is c.self.invariant (sym c.in-Fork.ensures.value) c.deref.ensures in
    let n = c.deref.result.now in
    let s = split_at p c.args.self.now.items n.left.items n.block n.right.items f.items f.kept.filled c.requires in
    let none = s.fails (sym c.ends_behind.ensures ∙ c.if-not-ends_behind.true) in
    let e = found_right p c.args.self.now.items n.left.items n.block n.right.items f.items (none_passes p n.left.items none.0) (none_passes p n.block none.1) in
    (cc)

pub returns-then-not-ends_behind-clause-rest : goal.returns-then-not-ends_behind-clause-rest
returns-then-not-ends_behind-clause-rest g t c =
    let p = g.C.Cut.is_behind c.args.cut.now in
    let f = at_fork c.self.view_is c.self.invariant (sym c.in-Fork.ensures.value) c.deref.ensures in
    let n = c.deref.result.now in
    let s = split_at p c.args.self.now.items n.left.items n.block n.right.items f.items f.kept.filled c.requires in
    let none = s.fails (sym c.ends_behind.ensures ∙ c.if-not-ends_behind.true) in
    let e = without_last p c.args.self.now.items n.left.items n.block n.right.items f.items none.0 none.1 in
    let now = ap items_in c.shrunk.ensures in
    (cc)

pub returns-in-Some-clause-item : goal.returns-in-Some-clause-item
returns-in-Some-clause-item g t c =
    let p = g.C.Cut.is_behind c.args.cut.now in
    let f = at_fork c.self.view_is c.self.invariant (sym c.in-Fork.ensures.value) c.deref.ensures in
    let n = c.deref.result.now in
    let s = split_at p c.args.self.now.items n.left.items n.block n.right.items f.items f.kept.filled c.requires in
    let found : find p n.left.items ≡ Some c.in-Some.taken = cc in
    let e = found_left p c.args.self.now.items n.left.items n.block n.right.items c.in-Some.taken f.items found in
    (cc)

pub returns-in-Some-clause-rest : goal.returns-in-Some-clause-rest
returns-in-Some-clause-rest g t c =
    let p = g.C.Cut.is_behind c.args.cut.now in
    let f = at_fork c.self.view_is c.self.invariant (sym c.in-Fork.ensures.value) c.deref.ensures in
    let n = c.deref.result.now in
    let s = split_at p c.args.self.now.items n.left.items n.block n.right.items f.items f.kept.filled c.requires in
    let found : find p n.left.items ≡ Some c.in-Some.taken = cc in
    let e = without_left p c.args.self.now.items n.left.items n.block n.right.items f.items (any_found p n.left.items c.in-Some.taken found) in
    let now = ap items_in c.shrunk-in-Some.ensures in
    (cc)

pub returns-in_default-clause-item : goal.returns-in_default-clause-item
returns-in_default-clause-item g t c =
    let p = g.C.Cut.is_behind c.args.cut.now in
    let f = at_fork c.self.view_is c.self.invariant (sym c.in-Fork.ensures.value) c.deref.ensures in
    let n = c.deref.result.now in
    let s = split_at p c.args.self.now.items n.left.items n.block n.right.items f.items f.kept.filled c.requires in
    let was : c.deref_mut-in-Fork.result.now ≡ n = c.deref_mut-in-Fork.ensures.value ∙ sym c.deref.ensures in
    let none : find p n.left.items ≡ None = sym (ap (λ (m : Node g.row.T.Denot g.row.S.Denot). find p m.left.items) was) ∙ (sym c.take.ensures.item ∙ c.in_default.is) in
    let block : c.deref_mut-in-Fork-2.result.now.block ≡ n.block = ap block_of c.deref_mut-in-Fork-2.ensures.value ∙ ap block_of was in
    sym (found_here p c.args.self.now.items n.left.items n.block n.right.items c.take-taken-in-Fork.result f.items none (sym (c.take-taken-in-Fork.ensures.item ∙ ap (find p) block)))

pub returns-in_default-clause-rest : goal.returns-in_default-clause-rest
returns-in_default-clause-rest g t c =
    let p = g.C.Cut.is_behind c.args.cut.now in
    let f = at_fork c.self.view_is c.self.invariant (sym c.in-Fork.ensures.value) c.deref.ensures in
    let n = c.deref.result.now in
    let s = split_at p c.args.self.now.items n.left.items n.block n.right.items f.items f.kept.filled c.requires in
    let was : c.deref_mut-in-Fork.result.now ≡ n = c.deref_mut-in-Fork.ensures.value ∙ sym c.deref.ensures in
    let none : find p n.left.items ≡ None = sym (ap (λ (m : Node g.row.T.Denot g.row.S.Denot). find p m.left.items) was) ∙ (sym c.take.ensures.item ∙ c.in_default.is) in
    let block : c.deref_mut-in-Fork-2.result.now.block ≡ n.block = ap block_of c.deref_mut-in-Fork-2.ensures.value ∙ ap block_of was in
    let any = any_at_last p n.block (sym c.ends_behind.ensures ∙ c.if-not-ends_behind.false) in
    let e = without_middle p c.args.self.now.items n.left.items n.block n.right.items f.items (none_passes_from p n.left.items none) any in
    let left : c.deref_mut-in-Fork-2.result.now.left.items ≡ n.left.items = ap left_of c.deref_mut-in-Fork-2.ensures.value ∙ (ap items_in c.in_default.ensures.none ∙ ap left_of was) in
    let here : c.take-taken-in-Fork.new.self ≡ without_first p n.block = c.take-taken-in-Fork.ensures.rest ∙ ap (without_first p) block in
    let right : c.deref_mut-in-Fork-2.result.now.right.items ≡ n.right.items = ap right_of c.deref_mut-in-Fork-2.ensures.value ∙ ap right_of was in
    ap items_in c.without_block-in-Fork.view_is ∙ (c.without_block.ensures.items ∙ (three left here right ∙ sym e))

pub shrunk-requires-clause-keeps : goal.shrunk-requires-clause-keeps
shrunk-requires-clause-keeps g t c same = if_some _ c.take-taken.result (λ x found.
    let p = g.C.Cut.is_behind c.args.cut.now in
    let f = at_fork c.self.view_is c.self.invariant (sym c.in-Fork.ensures.value) c.deref.ensures in
    let m = c.deref_mut.result.now in
    let part = c.take-taken.new.self in
    let new : Node g.row.T.Denot g.row.S.Denot = record { left = m.left; right = part; summary = m.summary; count = m.count; nodes = m.nodes; excess = m.excess; block = m.block } in
    let it : m ≡ c.deref.result.now = c.deref_mut.ensures.value ∙ sym c.deref.ensures in
    let kept = subst (IsKeptNode g.S.Summary.tells) (sym it) f.kept in
    let taken = subst (λ ys. Around x m.right.items ys) (sym c.take-taken.ensures.rest) (around_taken p x m.right.items (sym c.take-taken.ensures.item ∙ found)) in
    let before : c.deref-then-not-ends_behind.result.now ≡ m = c.deref-then-not-ends_behind.ensures ∙ sym c.deref_mut.ensures.value in
    let was_nodes : c.size-was.result.nodes ≡ m.right.nodes = c.size-was.ensures.nodes ∙ ap (λ (k : Node g.row.T.Denot g.row.S.Denot). k.right.nodes) before in
    let was_excess : c.size-was.result.excess ≡ m.right.excess = c.size-was.ensures.excess ∙ ap (λ (k : Node g.row.T.Denot g.row.S.Denot). k.right.excess) before in
    let is_nodes : c.size-is.result.nodes ≡ part.nodes = c.size-is.ensures.nodes ∙ ap (λ (k : Node g.row.T.Denot g.row.S.Denot). k.right.nodes) c.deref-then-not-ends_behind-2.ensures in
    let is_excess : c.size-is.result.excess ≡ part.excess = c.size-is.ensures.excess ∙ ap (λ (k : Node g.row.T.Denot g.row.S.Denot). k.right.excess) c.deref-then-not-ends_behind-2.ensures in
    keeps_item x m new c.size-was.result.excess c.size-is.result.excess kept (record { summary = refl; count = refl; nodes = refl; excess = refl })
    (differ_behind m.left.items _ _ (differ_behind m.block m.right.items part.items taken)) (omega (arith, same, was_nodes, is_nodes)) (omega (arith, was_excess, is_excess)) (omega (arith, was_excess)))

pub shrunk-requires-in-Some-clause-keeps : goal.shrunk-requires-in-Some-clause-keeps
shrunk-requires-in-Some-clause-keeps g t c same =
    let x = c.in-Some.taken in
    let p = g.C.Cut.is_behind c.args.cut.now in
    let f = at_fork c.self.view_is c.self.invariant (sym c.in-Fork.ensures.value) c.deref.ensures in
    let m = c.deref_mut-in-Fork.result.now in
    let part = c.take.new.self in
    let new : Node g.row.T.Denot g.row.S.Denot = record { left = part; right = m.right; summary = m.summary; count = m.count; nodes = m.nodes; excess = m.excess; block = m.block } in
    let it : m ≡ c.deref.result.now = c.deref_mut-in-Fork.ensures.value ∙ sym c.deref.ensures in
    let kept = subst (IsKeptNode g.S.Summary.tells) (sym it) f.kept in
    let taken = subst (λ ys. Around x m.left.items ys) (sym c.take.ensures.rest) (around_taken p x m.left.items (sym c.take.ensures.item ∙ c.in-Some.is)) in
    let before : c.deref-in-Fork.result.now ≡ m = c.deref-in-Fork.ensures ∙ sym c.deref_mut-in-Fork.ensures.value in
    let was_nodes : c.size-was-in-Fork.result.nodes ≡ m.left.nodes = c.size-was-in-Fork.ensures.nodes ∙ ap (λ (k : Node g.row.T.Denot g.row.S.Denot). k.left.nodes) before in
    let was_excess : c.size-was-in-Fork.result.excess ≡ m.left.excess = c.size-was-in-Fork.ensures.excess ∙ ap (λ (k : Node g.row.T.Denot g.row.S.Denot). k.left.excess) before in
    let is_nodes : c.size-is-in-Some.result.nodes ≡ part.nodes = c.size-is-in-Some.ensures.nodes ∙ ap (λ (k : Node g.row.T.Denot g.row.S.Denot). k.left.nodes) c.deref-in-Some.ensures in
    let is_excess : c.size-is-in-Some.result.excess ≡ part.excess = c.size-is-in-Some.ensures.excess ∙ ap (λ (k : Node g.row.T.Denot g.row.S.Denot). k.left.excess) c.deref-in-Some.ensures in
    keeps_item x m new c.size-was-in-Fork.result.excess c.size-is-in-Some.result.excess kept (record { summary = refl; count = refl; nodes = refl; excess = refl })
    (differ_before m.left.items part.items (m.block ++ m.right.items) taken) (omega (arith, same, was_nodes, is_nodes)) (omega (arith, was_excess, is_excess)) (omega (arith, was_excess))

pub without_block-requires-clause-keeps : goal.without_block-requires-clause-keeps
without_block-requires-clause-keeps g t c =
    let p = g.C.Cut.is_behind c.args.cut.now in
    let x = c.take-taken-in-Fork.result in
    let f = at_fork c.self.view_is c.self.invariant (sym c.in-Fork.ensures.value) c.deref.ensures in
    let first = c.deref_mut-in-Fork.result.now in
    let m = c.deref_mut-in-Fork-2.result.now in
    let block = c.take-taken-in-Fork.new.self in
    let new : Node g.row.T.Denot g.row.S.Denot = record { left = m.left; right = m.right; summary = m.summary; count = m.count; nodes = m.nodes; excess = m.excess; block = block } in
    let was : first ≡ c.deref.result.now = c.deref_mut-in-Fork.ensures.value ∙ sym c.deref.ensures in
    let it : m ≡ first = c.deref_mut-in-Fork-2.ensures.value ∙ ap (λ left. with_side first left) c.in_default.ensures.none in
    let kept = subst (IsKeptNode g.S.Summary.tells) (sym (it ∙ was)) f.kept in
    let taken = subst (λ ys. Around x m.block ys) (sym c.take-taken-in-Fork.ensures.rest) (around_taken p x m.block (sym c.take-taken-in-Fork.ensures.item)) in
    let excess : c.excess-was.result ≡ length m.block - part_size =
    c.excess-was.ensures ∙ (ap (λ (k : Node g.row.T.Denot g.row.S.Denot). length k.block - part_size) c.deref-in-Fork-2.ensures ∙ ap (λ (k : Node g.row.T.Denot g.row.S.Denot). length k.block - part_size) (sym it)) in
    keeps_item x m new c.excess-was.result (length block - part_size) kept (record { summary = refl; count = refl; nodes = refl; excess = refl })
    (differ_behind m.left.items _ _ (differ_before m.block block m.right.items taken)) refl (omega (arith, excess)) (omega (arith, excess))
