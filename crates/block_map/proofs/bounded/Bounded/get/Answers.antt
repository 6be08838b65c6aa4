use Rattle.std.proofs.Common.{sym, ap, ◌∙◌}
use Rattle.std.specs.Map.{lookup}
use Rattle.std.specs.BTreeMap.{is_at}
use Rattle.std.specs.Option.{option_copied}
use Rattle.block_map.proofs.Places.{block_there, no_block}
use Rattle.block_map.proofs.bounded.Bounded.get.Goals as goal

pub returns-in_err-place : goal.returns-in_err-place
returns-in_err-place g c =
    let test = is_at (g.K.Ord.cmp c.args.bound) in
    let none = sym c.get.ensures.value ∙ ap option_copied c.in_err-place.was in
    ap option_copied c.from_residual.ensures ∙ (sym (no_block test c.self.inside.places.entries c.self.inside.blocks none) ∙ ap (λ bs. lookup test bs.entries) c.self.view_is)

pub returns : goal.returns
returns g c =
    let test = is_at (g.K.Ord.cmp c.args.bound) in
    let found = sym c.get.ensures.value ∙ ap option_copied c.in_ok-place.was in
    c.get-2.ensures ∙ (block_there test c.self.inside.places.entries c.self.inside.blocks c.in_ok-place.field-0.now c.self.invariant found ∙ ap (λ bs. lookup test bs.entries) c.self.view_is)
