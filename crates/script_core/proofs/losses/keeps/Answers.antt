use Rattle.script_core.proofs.Common.{common_steps, ◌≡◌, ◌<◌, true, arith, ap, sym, ◌∙◌, descriptor_limit, look_at, is_such, stays_on}
use Rattle.script_core.proofs.LossLemmas.{none_open, next_open, found_open}
use Rattle.script_core.proofs.losses.keeps.Goals as goal

pub loop-fd-init : goal.loop-fd-init
loop-fd-init c S h = none_open (look_at S.descriptors c.args.q) (stays_on c.args.closing c.args.q c.args.description)

pub loop-fd-preserved : goal.loop-fd-preserved
loop-fd-preserved c = grind (arith, common_steps, next_open)

pub returns-then-stays_on : goal.returns-then-stays_on
returns-then-stays_on c S h =
    let look = look_at S.descriptors c.args.q in
    let test = stays_on c.args.closing c.args.q c.args.description in
    let within : c.loop-fd.fd < descriptor_limit c.args.limits = omega (arith, c.descriptors-fd-end.ensures) in
    let yes : c.stays_on.result ≡ true = grind (arith, common_steps) in
    sym (found_open look test c.loop-fd.fd (descriptor_limit c.args.limits) within
    (ap (is_such (test c.loop-fd.fd)) (sym (c.look.ensures S h)) ∙ sym c.stays_on.ensures ∙ yes))
