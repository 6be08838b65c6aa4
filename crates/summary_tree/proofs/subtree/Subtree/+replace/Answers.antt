use Rattle.std.proofs.Common.{◌≡◌, None, Some, List, [], ◌∷◌, ◌++◌, refl, ap, rules, subst, sym, ◌∙◌, arith}
use Rattle.std.specs.List.{find}
use Rattle.summary_tree.specs.declared.subtree.Node.{Node}
use Rattle.summary_tree.specs.Contents.{Parts}
use Rattle.summary_tree.specs.Cuts.{with_first}
use Rattle.summary_tree.specs.Nodes.{IsKeptNode}
use Rattle.summary_tree.proofs.Growing.{with_side, Differ, differ_before, differ_behind, if_some, replaced, swaps_item}
use Rattle.summary_tree.proofs.CutLemmas.{any_at_last, split_at}
use Rattle.summary_tree.proofs.Forks.{at_fork}
use Rattle.summary_tree.proofs.ListLemmas.{found_here, found_left, found_right}
use Rattle.summary_tree.proofs.Splits.{any_found, none_passes, none_passes_from, with_last, with_left, with_middle}
use Rattle.summary_tree.proofs.subtree.Subtree.+replace.Goals as goal

abbrev items_in : {T : Type 0} → Parts T → List T
items_in parts = parts.items

abbrev left_of : {T S : Type 0} → Node T S → List T
left_of node = node.left.items

abbrev block_of : {T S : Type 0} → Node T S → List T
block_of node = node.block

abbrev right_of : {T S : Type 0} → Node T S → List T
right_of node = node.right.items

three : {X : Type 0} {l m b c r s : List X} → l ≡ m → b ≡ c → r ≡ s → l ++ (b ++ r) ≡ m ++ (c ++ s)
three h k e = cc

pub replace-replaced-requires : goal.replace-replaced-requires
replace-replaced-requires g t c κs within =
    let p = g.C.Cut.is_behind c.args.cut.now in
    let f = at_fork c.self.view_is c.self.invariant (sym c.in-Fork.ensures.value) c.deref.ensures in
    let n = c.deref.result.now in
    let s = split_at p c.args.self.now.items n.left.items n.block n.right.items f.items f.kept.filled c.requires in
    let cut = s.right in
    let e = f.nodes in
    search rules

pub replace-requires-in-Fork : goal.replace-requires-in-Fork
replace-requires-in-Fork g t c κs within =
    let p = g.C.Cut.is_behind c.args.cut.now in
    let f = at_fork c.self.view_is c.self.invariant (sym c.in-Fork.ensures.value) c.deref.ensures in
    let n = c.deref.result.now in
    let s = split_at p c.args.self.now.items n.left.items n.block n.right.items f.items f.kept.filled c.requires in
    let cut = s.left in
    let e = f.nodes in
    search rules

pub returns-then-not-ends_behind-clause-item : goal.returns-then-not-ends_behind-clause-item
returns-then-not-ends_behind-clause-item g t c =
    let p = g.C.Cut.is_behind c.args.cut.now in
    let f = at_fork c.self.view_is c.self.invariant (sym c.in-Fork.ensures.value) c.deref.ensures in
    let n = c.deref.result.now in
    let s = split_at p c.args.self.now.items n.left.items n.block n.right.items f.items f.kept.filled c.requires in
    let none = s.fails (sym c.ends_behind.ensures ∙ c.if-not-ends_behind.true) in
    let e = found_right p c.args.self.now.items n.left.items n.block n.right.items f.items (none_passes p n.left.items none.0) (none_passes p n.block none.1) in
    (cc)

pub returns-then-not-ends_behind-clause-items : goal.returns-then-not-ends_behind-clause-items
returns-then-not-ends_behind-clause-items g t c =
    let p = g.C.Cut.is_behind c.args.cut.now in
    let f = at_fork c.self.view_is c.self.invariant (sym c.in-Fork.ensures.value) c.deref.ensures in
    let n = c.deref.result.now in
    let s = split_at p c.args.self.now.items n.left.items n.block n.right.items f.items f.kept.filled c.requires in
    let none = s.fails (sym c.ends_behind.ensures ∙ c.if-not-ends_behind.true) in
    let e = with_last p c.args.item c.args.self.now.items n.left.items n.block n.right.items f.items none.0 none.1 in
    let now = ap items_in c.renewed.ensures in
    (cc)

pub returns-in-Some-clause-item : goal.returns-in-Some-clause-item
returns-in-Some-clause-item g t c =
    let p = g.C.Cut.is_behind c.args.cut.now in
    let f = at_fork c.self.view_is c.self.invariant (sym c.in-Fork.ensures.value) c.deref.ensures in
    let n = c.deref.result.now in
    let s = split_at p c.args.self.now.items n.left.items n.block n.right.items f.items f.kept.filled c.requires in
    let found : find p n.left.items ≡ Some c.in-Some.replaced = cc in
    let e = found_left p c.args.self.now.items n.left.items n.block n.right.items c.in-Some.replaced f.items found in
    (cc)

pub returns-in-Some-clause-items : goal.returns-in-Some-clause-items
returns-in-Some-clause-items g t c =
    let p = g.C.Cut.is_behind c.args.cut.now in
    let f = at_fork c.self.view_is c.self.invariant (sym c.in-Fork.ensures.value) c.deref.ensures in
    let n = c.deref.result.now in
    let s = split_at p c.args.self.now.items n.left.items n.block n.right.items f.items f.kept.filled c.requires in
    let found : find p n.left.items ≡ Some c.in-Some.replaced = cc in
    let e = with_left p c.args.item c.args.self.now.items n.left.items n.block n.right.items f.items (any_found p n.left.items c.in-Some.replaced found) in
    let now = ap items_in c.renewed-in-Some.ensures in
    (cc)

pub returns-in_default-clause-item : goal.returns-in_default-clause-item
returns-in_default-clause-item g t c =
    let p = g.C.Cut.is_behind c.args.cut.now in
    let f = at_fork c.self.view_is c.self.invariant (sym c.in-Fork.ensures.value) c.deref.ensures in
    let n = c.deref.result.now in
    let s = split_at p c.args.self.now.items n.left.items n.block n.right.items f.items f.kept.filled c.requires in
    let was : c.deref_mut-in-Fork.result.now ≡ n = c.deref_mut-in-Fork.ensures.value ∙ sym c.deref.ensures in
    let none : find p n.left.items ≡ None = sym (ap (λ (m : Node g.row.T.Denot g.row.S.Denot). find p m.left.items) was) ∙ (sym c.replace-in-Fork.ensures.item ∙ c.in_default.is) in
    let block : c.deref_mut-in-Fork-2.result.now.block ≡ n.block = ap block_of c.deref_mut-in-Fork-2.ensures.value ∙ ap block_of was in
    sym (found_here p c.args.self.now.items n.left.items n.block n.right.items c.replace-replaced-in-Fork.result f.items none (sym (c.replace-replaced-in-Fork.ensures.item ∙ ap (find p) block)))

pub returns-in_default-clause-items : goal.returns-in_default-clause-items
returns-in_default-clause-items g t c =
    let p = g.C.Cut.is_behind c.args.cut.now in
    let f = at_fork c.self.view_is c.self.invariant (sym c.in-Fork.ensures.value) c.deref.ensures in
    let n = c.deref.result.now in
    let s = split_at p c.args.self.now.items n.left.items n.block n.right.items f.items f.kept.filled c.requires in
    let was : c.deref_mut-in-Fork.result.now ≡ n = c.deref_mut-in-Fork.ensures.value ∙ sym c.deref.ensures in
    let none : find p n.left.items ≡ None = sym (ap (λ (m : Node g.row.T.Denot g.row.S.Denot). find p m.left.items) was) ∙ (sym c.replace-in-Fork.ensures.item ∙ c.in_default.is) in
    let block : c.deref_mut-in-Fork-2.result.now.block ≡ n.block = ap block_of c.deref_mut-in-Fork-2.ensures.value ∙ ap block_of was in
    let any = any_at_last p n.block (sym c.ends_behind.ensures ∙ c.if-not-ends_behind.false) in
    let e = with_middle p c.args.item c.args.self.now.items n.left.items n.block n.right.items f.items (none_passes_from p n.left.items none) any in
    let left : c.deref_mut-in-Fork-2.result.now.left.items ≡ n.left.items = ap left_of c.deref_mut-in-Fork-2.ensures.value ∙ (ap items_in c.in_default.ensures.none ∙ ap left_of was) in
    let here : c.replace-replaced-in-Fork.new.self ≡ with_first p c.args.item n.block = c.replace-replaced-in-Fork.ensures.items ∙ ap (with_first p c.args.item) block in
    let right : c.deref_mut-in-Fork-2.result.now.right.items ≡ n.right.items = ap right_of c.deref_mut-in-Fork-2.ensures.value ∙ ap right_of was in
    let now = ap items_in c.renewed-in-Fork.ensures ∙ (three left here right ∙ sym e) in
    (cc)

pub renewed-requires-clause-swaps : goal.renewed-requires-clause-swaps
renewed-requires-clause-swaps g t c = if_some _ c.replace-replaced.result (λ y found.
    let p = g.C.Cut.is_behind c.args.cut.now in
    let x = c.args.item in
    let f = at_fork c.self.view_is c.self.invariant (sym c.in-Fork.ensures.value) c.deref.ensures in
    let m = c.deref_mut.result.now in
    let part = c.replace-replaced.new.self in
    let new : Node g.row.T.Denot g.row.S.Denot = record { left = m.left; right = part; summary = m.summary; count = m.count; nodes = m.nodes; excess = m.excess; block = m.block } in
    let it : m ≡ c.deref.result.now = c.deref_mut.ensures.value ∙ sym c.deref.ensures in
    let kept = subst (IsKeptNode g.S.Summary.tells) (sym it) f.kept in
    let swapped = subst (λ ys. Differ (y ∷ []) (x ∷ []) m.right.items ys) (sym c.replace-replaced.ensures.items) (replaced p x y m.right.items (sym c.replace-replaced.ensures.item ∙ found)) in
    swaps_item x y m new kept (record { summary = refl; count = refl; nodes = refl; excess = refl }) (differ_behind m.left.items _ _ (differ_behind m.block m.right.items part.items swapped)) (omega (arith, c.replace-replaced.ensures.nodes)) (omega (arith, c.replace-replaced.ensures.excess)))

pub renewed-requires-in-Some-clause-swaps : goal.renewed-requires-in-Some-clause-swaps
renewed-requires-in-Some-clause-swaps g t c =
    let y = c.in-Some.replaced in
    let p = g.C.Cut.is_behind c.args.cut.now in
    let x = c.args.item in
    let f = at_fork c.self.view_is c.self.invariant (sym c.in-Fork.ensures.value) c.deref.ensures in
    let m = c.deref_mut-in-Fork.result.now in
    let part = c.replace-in-Fork.new.self in
    let new : Node g.row.T.Denot g.row.S.Denot = record { left = part; right = m.right; summary = m.summary; count = m.count; nodes = m.nodes; excess = m.excess; block = m.block } in
    let it : m ≡ c.deref.result.now = c.deref_mut-in-Fork.ensures.value ∙ sym c.deref.ensures in
    let kept = subst (IsKeptNode g.S.Summary.tells) (sym it) f.kept in
    let swapped = subst (λ ys. Differ (y ∷ []) (x ∷ []) m.left.items ys) (sym c.replace-in-Fork.ensures.items) (replaced p x y m.left.items (sym c.replace-in-Fork.ensures.item ∙ c.in-Some.is)) in
    swaps_item x y m new kept (record { summary = refl; count = refl; nodes = refl; excess = refl }) (differ_before m.left.items part.items (m.block ++ m.right.items) swapped) (omega (arith, c.replace-in-Fork.ensures.nodes)) (omega (arith, c.replace-in-Fork.ensures.excess))

pub renewed-requires-in-Fork-clause-swaps : goal.renewed-requires-in-Fork-clause-swaps
renewed-requires-in-Fork-clause-swaps g t c =
    let p = g.C.Cut.is_behind c.args.cut.now in
    let x = c.args.item in
    let y = c.replace-replaced-in-Fork.result in
    let f = at_fork c.self.view_is c.self.invariant (sym c.in-Fork.ensures.value) c.deref.ensures in
    let first = c.deref_mut-in-Fork.result.now in
    let m = c.deref_mut-in-Fork-2.result.now in
    let part = c.replace-replaced-in-Fork.new.self in
    let new : Node g.row.T.Denot g.row.S.Denot = record { left = m.left; right = m.right; summary = m.summary; count = m.count; nodes = m.nodes; excess = m.excess; block = part } in
    let was : first ≡ c.deref.result.now = c.deref_mut-in-Fork.ensures.value ∙ sym c.deref.ensures in
    let it : m ≡ first = c.deref_mut-in-Fork-2.ensures.value ∙ ap (λ left. with_side first left) c.in_default.ensures.none in
    let kept = subst (IsKeptNode g.S.Summary.tells) (sym (it ∙ was)) f.kept in
    let swapped = subst (λ ys. Differ (y ∷ []) (x ∷ []) m.block ys) (sym c.replace-replaced-in-Fork.ensures.items) (replaced p x y m.block (sym c.replace-replaced-in-Fork.ensures.item)) in
    let long = c.replace-replaced-in-Fork.ensures.count in
    swaps_item x y m new kept (record { summary = refl; count = refl; nodes = refl; excess = refl }) (differ_behind m.left.items _ _ (differ_before m.block part m.right.items swapped)) refl (omega (arith, long))
