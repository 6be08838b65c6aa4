use Rattle.std.proofs.Common.{sym, ap, ◌∙◌}
use Rattle.summary_tree.specs.Cuts.{last_passes}
use Rattle.summary_tree.proofs.ListLemmas.{last_told, none_told}
use Rattle.summary_tree.proofs.block.Block.ends_behind.Goals as goal

pub returns-in-Some : goal.returns-in-Some
returns-in-Some g c =
    let p = g.C.Cut.is_behind c.args.cut.now in
    c.is_behind.ensures ∙ (last_told p c.self.inside.items.items _ (sym c.self.invariant.3.last ∙ c.in-Some.is) ∙ ap (last_passes p) c.self.view_is)

pub returns-in-None : goal.returns-in-None
returns-in-None g c =
    let p = g.C.Cut.is_behind c.args.cut.now in
    none_told p c.self.inside.items.items (sym c.self.invariant.3.last ∙ c.in-None.is) ∙ ap (last_passes p) c.self.view_is
