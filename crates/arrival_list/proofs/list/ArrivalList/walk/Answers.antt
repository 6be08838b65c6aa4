use Rattle.std.proofs.Common.{List, [], ap, subst}
use Rattle.summary_tree.specs.Contents.{Contents}
use Rattle.arrival_list.proofs.list.ArrivalList.walk.Goals as goal

abbrev items_in : {T : Type 0} → Contents T → List T
items_in contents = contents.items

pub returns : goal.returns
returns g c begun = subst (λ (l : List g.row.T.Denot). g.W.Walk.gathers c.args.walk c.walk.new.found l) (ap items_in c.self.view_is) (c.walk.ensures [] begun)
