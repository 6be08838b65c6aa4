use Rattle.std.proofs.Common.{sym, ap, ◌∙◌}
use Rattle.std.specs.Map.{lookup}
use Rattle.std.specs.BTreeMap.{is_at}
use Rattle.std.specs.BTreeMap.Range.{entries_between, range_contains}
use Rattle.std.specs.declared.ops.Bound.TheVariants.{Included, Unbounded}
use Rattle.block_map.specs.Places.{last_bound}
use Rattle.block_map.proofs.Places.{last_of, last_upto}
use Rattle.block_map.proofs.bounded.Bounded.last_upto.Goals as goal

pub returns-in_err-bound-clause-bound : goal.returns-in_err-bound-clause-bound
returns-in_err-bound-clause-bound g c =
    let cmp = g.K.Ord.cmp in
    rw c.from_residual.ensures (
    ap last_bound (sym c.in_err-bound.ensures.steps.0)
    ∙ (ap last_bound (c.range-upto.ensures.between tt)
    ∙ (sym (last_upto (range_contains cmp Unbounded (Included c.args.key)) c.self.inside.places.entries c.self.inside.blocks)
    ∙ ap (λ bs. last_bound (entries_between cmp Unbounded (Included c.args.key) bs.entries)) c.self.view_is))
    )

pub returns-clause-bound : goal.returns-clause-bound
returns-clause-bound g c =
    let cmp = g.K.Ord.cmp in
    sym (last_of c.next_back.new.self (c.in_ok-bound.bound.now, c.in_ok-bound.place.now))
    ∙ (ap last_bound (sym c.in_ok-bound.ensures.steps)
    ∙ (ap last_bound (c.range-upto.ensures.between tt)
    ∙ (sym (last_upto (range_contains cmp Unbounded (Included c.args.key)) c.self.inside.places.entries c.self.inside.blocks)
    ∙ ap (λ bs. last_bound (entries_between cmp Unbounded (Included c.args.key) bs.entries)) c.self.view_is)))

pub returns-clause-place : goal.returns-clause-place
returns-clause-place g c =
    sym (ap (λ bs. lookup (is_at (g.K.Ord.cmp c.in_ok-bound.bound.now)) bs.places) c.self.view_is)
    ∙ ((c.range-upto.ensures.in_range tt).3 (c.in_ok-bound.bound.now, c.in_ok-bound.place.now) c.next_back.new.self c.in_ok-bound.ensures.steps).1
