use Rattle.std.proofs.Common.{◌≡◌, ◌++◌, append_assoc, sym, ap, ◌∙◌, subst, rules}
use Rattle.summary_tree.specs.Cuts.{before}
use Rattle.summary_tree.proofs.CutLemmas.{any_at_last, same_first, split_at}
use Rattle.summary_tree.proofs.Forks.{at_fork}
use Rattle.summary_tree.proofs.Splits.{before_among, before_left, before_right}
use Rattle.summary_tree.proofs.subtree.Subtree.+walk_before.Goals as goal

pub walk_before-requires : goal.walk_before-requires
walk_before-requires g t c κs within =
    let f = at_fork c.self.view_is c.self.invariant c.in-Fork.is c.deref-node.ensures in
    let n = c.deref-node.result.now in
    let s = split_at (g.C.Cut.is_behind c.args.cut.now) c.args.self.now.items n.left.items n.block n.right.items f.items f.kept.filled c.requires in
    let cut = s.left in
    let e = f.nodes in
    search rules

pub walk_before-requires-in-Fork : goal.walk_before-requires-in-Fork
walk_before-requires-in-Fork g t c κs within =
    let f = at_fork c.self.view_is c.self.invariant c.in-Fork.is c.deref-node.ensures in
    let n = c.deref-node.result.now in
    let s = split_at (g.C.Cut.is_behind c.args.cut.now) c.args.self.now.items n.left.items n.block n.right.items f.items f.kept.filled c.requires in
    let cut = s.right in
    let e = f.nodes in
    search rules

pub returns-then-begins_behind : goal.returns-then-begins_behind
returns-then-begins_behind g t c seen h =
    let p = g.C.Cut.is_behind c.args.cut.now in
    let f = at_fork c.self.view_is c.self.invariant c.in-Fork.is c.deref-node.ensures in
    let n = c.deref-node.result.now in
    let s = split_at (g.C.Cut.is_behind c.args.cut.now) c.args.self.now.items n.left.items n.block n.right.items f.items f.kept.filled c.requires in
    let first = same_first p n.block n.right.items f.kept.filled ∙ (sym c.begins_behind.ensures ∙ c.if-begins_behind.true) in
    let e = ap (before p) f.items ∙ before_left p n.left.items (n.block ++ n.right.items) first in
    subst (λ xs. g.W.Walk.gathers c.args.walk.now c.walk_before.new.found (seen ++ xs)) (sym e) (c.walk_before.ensures seen h)

pub returns-then-ends_behind : goal.returns-then-ends_behind
returns-then-ends_behind g t c seen h =
    let p = g.C.Cut.is_behind c.args.cut.now in
    let f = at_fork c.self.view_is c.self.invariant c.in-Fork.is c.deref-node.ensures in
    let n = c.deref-node.result.now in
    let s = split_at (g.C.Cut.is_behind c.args.cut.now) c.args.self.now.items n.left.items n.block n.right.items f.items f.kept.filled c.requires in
    let none = s.starts (sym c.begins_behind.ensures ∙ c.if-begins_behind.false) in
    let some = any_at_last p n.block (sym c.ends_behind.ensures ∙ c.if-ends_behind.true) in
    let e = ap (before p) f.items ∙ (before_right p n.left.items (n.block ++ n.right.items) none ∙ ap (λ ys. n.left.items ++ ys) (before_among p n.block n.right.items some)) in
    let a : (seen ++ n.left.items) ++ before p n.block ≡ seen ++ (n.left.items ++ before p n.block) = simp append_assoc in
    subst (g.W.Walk.gathers c.args.walk.now c.walk_before-then-ends_behind.new.found) (a ∙ ap (λ ys. seen ++ ys) (sym e)) (c.walk_before-then-ends_behind.ensures _ (c.walk.ensures seen h))

pub returns-else-ends_behind : goal.returns-else-ends_behind
returns-else-ends_behind g t c seen h =
    let p = g.C.Cut.is_behind c.args.cut.now in
    let f = at_fork c.self.view_is c.self.invariant c.in-Fork.is c.deref-node.ensures in
    let n = c.deref-node.result.now in
    let s = split_at (g.C.Cut.is_behind c.args.cut.now) c.args.self.now.items n.left.items n.block n.right.items f.items f.kept.filled c.requires in
    let none = s.fails (sym c.ends_behind.ensures ∙ c.if-ends_behind.false) in
    let e = ap (before p) f.items ∙ (before_right p n.left.items (n.block ++ n.right.items) none.0 ∙ ap (λ ys. n.left.items ++ ys) (before_right p n.block n.right.items none.1)) in
    let a : ((seen ++ n.left.items) ++ n.block) ++ before p n.right.items ≡ seen ++ (n.left.items ++ (n.block ++ before p n.right.items)) = simp append_assoc in
    subst (g.W.Walk.gathers c.args.walk.now c.walk_before-in-Fork.new.found) (a ∙ ap (λ ys. seen ++ ys) (sym e)) (c.walk_before-in-Fork.ensures _ (c.walk-in-Fork.ensures _ (c.walk.ensures seen h)))
