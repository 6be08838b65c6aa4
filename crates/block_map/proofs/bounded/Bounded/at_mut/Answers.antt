use Rattle.std.proofs.Common.{refl, ap, ◌∙◌}
use Rattle.std.specs.Map.{lookup, set_value}
use Rattle.std.specs.BTreeMap.{is_at}
use Rattle.block_map.proofs.Kept.{on_some}
use Rattle.block_map.proofs.Places.{block_there, set_block, set_placed}
use Rattle.block_map.proofs.bounded.Bounded.at_mut.Goals as goal

pub invariant_of-self-lent : goal.invariant_of-self-lent
invariant_of-self-lent g c =
    let test = is_at (g.K.Ord.cmp c.requires.0) in
    let found = ap (λ bs. lookup test bs.places) c.self.view_is ∙ c.requires.1 in
    λ lent. ((λ w. set_placed test c.self.inside.places.entries c.self.inside.blocks c.args.place w c.self.invariant found), c.self.invariant)

pub returns : goal.returns
returns g c =
    let cmp = g.K.Ord.cmp in
    let places = c.self.inside.places.entries in
    let slab = c.self.inside.blocks in (
      (
        refl,
        (λ w. on_some c.get_mut.result (λ bound found.
            let test = is_at (cmp bound) in
            set_block test places slab c.args.place w c.self.invariant (ap (λ bs. lookup test bs.places) c.self.view_is ∙ found) ∙ ap (λ bs. set_value test bs.entries w) c.self.view_is)),
        ap (λ bs. bs.entries) c.self.view_is,
      ),
      record {
        lends = tt;
        value = λ bound found.
            let test = is_at (cmp bound) in
            c.get_mut.ensures.value ∙ (block_there test places slab c.args.place c.self.invariant (ap (λ bs. lookup test bs.places) c.self.view_is ∙ found) ∙ ap (λ bs. lookup test bs.entries) c.self.view_is);
      },
    )
