use Rattle.std.proofs.Common.{length, sym, ap, ◌∙◌}
use Rattle.std.specs.List.{find}
use Rattle.summary_tree.proofs.ListLemmas.{all_stay, items_in, only_taken, rest_is_none}
use Rattle.summary_tree.proofs.many.Many.take_only.Goals as goal

pub returns-in_default-clause-rest : goal.returns-in_default-clause-rest
returns-in_default-clause-rest g c =
    let p = g.C.Cut.is_behind c.args.cut.now in
    let is = ap items_in c.self.view_is in
    sym (all_stay p c.args.self.now.items (sym (ap (find p) is) ∙ (sym c.first_from.ensures ∙ c.in_default.is)))

pub returns-clause-rest : goal.returns-clause-rest
returns-clause-rest g c =
    let p = g.C.Cut.is_behind c.args.cut.now in
    let is = ap items_in c.self.view_is in
    let found = sym (ap (find p) is) ∙ (sym c.first_from.ensures ∙ c.in-Some.is) in
    let block = c.take_first-node.result.value.block in
    rest_is_none c.self.inside.items.items block c.take_first-node.new.self.items (ap length is ∙ c.requires.only) c.take_first-node.ensures.filled c.take_first-node.ensures.items
    ∙ sym (only_taken p c.args.self.now.items c.in-Some.item c.requires.only found)
