use Rattle.std.proofs.Common.{◌<◌, ◌^◌, [], List, length, ap, ◌∙◌, refl, arith}
use Rattle.std.proofs.lemmas.Grind.{common_steps}
use Rattle.std.specs.List.{filter}
use Rattle.summary_tree.specs.Contents.{Contents}
use Rattle.arrival_list.proofs.Kept.{as_many}
use Rattle.arrival_list.proofs.list.ArrivalList.count_where.Goals as goal

abbrev items_in : {T : Type 0} → Contents T → List T
items_in contents = contents.items

pub returns : goal.returns
returns g c =
    let p = g.Q.Query.hits c.args.query in
    let arrived = c.self.inside.arrived.items in
    let fits : length arrived < 2 ^ 64 = grind (arith, common_steps) in
    let counts = c.walk.ensures [] (λ _. refl) fits in
    counts ∙ (as_many p arrived ∙ ap (λ l. length (filter p l)) (ap items_in c.self.view_is))
