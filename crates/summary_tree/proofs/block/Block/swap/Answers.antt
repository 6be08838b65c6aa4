use Rattle.std.proofs.Common.{◌≡◌, ◌<◌, ◌∷◌, ◌++◌, suc, length, take, drop, sym, ap, subst, ◌∙◌, arith}
use Rattle.std.proofs.Math.Seq.{split_at}
use Rattle.std.proofs.lemmas.List.{set_split}
use Rattle.summary_tree.specs.Blocks.{AreEnds}
use Rattle.summary_tree.proofs.block.Block.swap.Goals as goal

pub invariant_of-self : goal.invariant_of-self
invariant_of-self g c =
    let items = c.self.inside.items.items in
    let front = take c.args.place items in
    let back = drop (suc c.args.place) items in
    let short : c.args.place < length items = omega (arith, c.requires, ap length c.self.view_is) in
    let there : items ≡ front ++ c.index.result.now ∷ back =
    split_at items c.args.place c.index.result.now short ∙ ap (λ x. front ++ x ∷ back) (sym c.index.ensures) in
    let old = subst (g.S.Summary.tells c.self.inside.summary) there c.self.invariant.0 in
    let new = c.add.ensures front back (c.leave-stays.ensures front back old c.if-stays.true) in
    (subst (g.S.Summary.tells c.add.new.self) (sym (set_split items c.args.place c.args.item short)) new, c.self.invariant.1, c.self.invariant.2, subst (AreEnds c.ends_of-self-inside.result) c.deref.ensures.value c.ends_of-self-inside.ensures)
