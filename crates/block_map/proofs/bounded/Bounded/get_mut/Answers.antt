use Rattle.std.proofs.Common.{refl, sym, ap, ◌∙◌}
use Rattle.std.specs.Map.{lookup, set_value}
use Rattle.std.specs.BTreeMap.{is_at}
use Rattle.std.specs.Option.{option_copied}
use Rattle.block_map.proofs.Kept.{on_some}
use Rattle.block_map.proofs.Places.{block_there, no_block, set_block, set_placed}
use Rattle.block_map.proofs.bounded.Bounded.get_mut.Goals as goal

pub returns-in_err-place : goal.returns-in_err-place
returns-in_err-place g c =
    let test = is_at (g.K.Ord.cmp c.args.bound) in
    let none = sym c.get.ensures.value ∙ ap option_copied c.in_err-place.was in
    rw c.from_residual.ensures (
      (refl, (λ w. tt), ap (λ bs. bs.entries) c.self.view_is),
      record { lends = tt; value = sym (no_block test c.self.inside.places.entries c.self.inside.blocks none) ∙ ap (λ bs. lookup test bs.entries) c.self.view_is },
    )

pub invariant_of-self-lent : goal.invariant_of-self-lent
invariant_of-self-lent g c =
    let test = is_at (g.K.Ord.cmp c.args.bound) in
    let found = sym c.get.ensures.value ∙ ap option_copied c.in_ok-place.was in
    λ lent. ((λ w. set_placed test c.self.inside.places.entries c.self.inside.blocks c.in_ok-place.field-0.now w c.self.invariant found), c.self.invariant)

pub returns : goal.returns
returns g c =
    let test = is_at (g.K.Ord.cmp c.args.bound) in
    let places = c.self.inside.places.entries in
    let slab = c.self.inside.blocks in
    let place = c.in_ok-place.field-0.now in
    let found = sym c.get.ensures.value ∙ ap option_copied c.in_ok-place.was in (
      (refl, (λ w. on_some c.get_mut.result (set_block test places slab place w c.self.invariant found ∙ ap (λ bs. set_value test bs.entries w) c.self.view_is)), ap (λ bs. bs.entries) c.self.view_is),
      record { lends = tt; value = c.get_mut.ensures.value ∙ (block_there test places slab place c.self.invariant found ∙ ap (λ bs. lookup test bs.entries) c.self.view_is) },
    )
