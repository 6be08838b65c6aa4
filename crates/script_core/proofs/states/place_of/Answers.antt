use Rattle.script_core.proofs.Common.{refl}
use Rattle.script_core.proofs.StateLemmas.{found_at, not_up_to, not_among}
use Rattle.script_core.proofs.states.place_of.Goals as goal

pub loop-place-preserved : goal.loop-place-preserved
loop-place-preserved c =
    not_up_to c.args.told.now c.args.line.now _ c.loop-place.place c.loop-place-test.true
    (λ same. let yes = c.if-is_same.ensures.1 same in cc) c.loop-place.invariant

pub returns-then-is_same : goal.returns-then-is_same
returns-then-is_same c =
    (found_at c.args.told.now c.args.line.now _ c.loop-place.place c.loop-place-test.true (c.if-is_same.ensures.0 refl), c.loop-place-test.true)

pub returns : goal.returns
returns c = not_among c.args.told.now c.args.line.now c.loop-place.place c.loop-place-test.false c.loop-place.invariant
