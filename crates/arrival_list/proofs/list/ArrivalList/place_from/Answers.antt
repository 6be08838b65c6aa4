use Rattle.std.proofs.Common.{ap, List, subst}
use Rattle.summary_tree.specs.Contents.{Contents}
use Rattle.arrival_list.specs.Places.{IsFirstFrom, NonePassesFrom}
use Rattle.arrival_list.specs.Seeking.{HasSought}
use Rattle.arrival_list.proofs.Seen.{first_of_items, none_of_items}
use Rattle.arrival_list.proofs.list.ArrivalList.place_from.Goals as goal

abbrev items_in : {T : Type 0} → Contents T → List T
items_in contents = contents.items

pub returns-in-Found : goal.returns-in-Found
returns-in-Found g c =
    let arrived = c.self.inside.arrived.items in
    let place = c.in-Found.place in
    let found = subst (HasSought (λ a. g.Q.Query.hits c.args.query a.item) c.args.from arrived) c.in-Found.is c.seek_in.ensures in
    (c.in-Found.field-1.item, subst (λ (l : List g.row.T.Denot). IsFirstFrom (g.Q.Query.hits c.args.query) c.args.from l place c.in-Found.field-1.item) (ap items_in c.self.view_is) (first_of_items (g.Q.Query.hits c.args.query) c.args.from arrived place c.in-Found.field-1 found))

pub returns-in-Passed : goal.returns-in-Passed
returns-in-Passed g c =
    let arrived = c.self.inside.arrived.items in
    let found = subst (HasSought (λ a. g.Q.Query.hits c.args.query a.item) c.args.from arrived) c.in-Passed.is c.seek_in.ensures in
    subst (λ (l : List g.row.T.Denot). NonePassesFrom (g.Q.Query.hits c.args.query) c.args.from l) (ap items_in c.self.view_is) (none_of_items (g.Q.Query.hits c.args.query) c.args.from arrived found.1)
