use Rattle.std.proofs.Common.{ap, ◌∙◌}
use Rattle.std.specs.Map.{lookup}
use Rattle.std.specs.BTreeMap.{is_at}
use Rattle.block_map.proofs.Places.{block_there}
use Rattle.block_map.proofs.bounded.Bounded.at.Goals as goal

pub returns : goal.returns
returns g c = λ bound found.
    let test = is_at (g.K.Ord.cmp bound) in
    c.get.ensures
    ∙ (block_there test c.self.inside.places.entries c.self.inside.blocks c.args.place c.self.invariant (ap (λ bs. lookup test bs.places) c.self.view_is ∙ found)
    ∙ ap (λ bs. lookup test bs.entries) c.self.view_is)
