use Rattle.std.proofs.Common.{◌∙◌}
use Rattle.arrival_list.specs.Arrivals.{items_of}
use Rattle.arrival_list.proofs.Kept.{any_of_items}
use Rattle.arrival_list.proofs.queries.InnerQueryArrivedCounted.may_hit.Goals as goal

pub returns : goal.returns
returns g c items told none = any_of_items (g.Q.Query.hits c.args.self.now.0) items ∙ c.may_hit.ensures (items_of items) told.summary none
