use Rattle.script_core.proofs.Common.{common_steps, ◌≡◌, ◌+◌, ◌<◌, ◌&&◌, Bool, true, arith, ap, sym, ◌∙◌, processes_of, is_alive, keeps, descriptor_limit}
use Rattle.script_core.proofs.LossLemmas.{nobody_yet, nobody_more, somebody}
use Rattle.script_core.proofs.losses.stays_open.Goals as goal

pub loop-index-init : goal.loop-index-init
loop-index-init c S h = nobody_yet (descriptor_limit c.args.limits) S c.args.closing c.args.description

pub loop-index-preserved : goal.loop-index-preserved
loop-index-preserved c = grind (arith, common_steps, nobody_more)

pub returns-then-keeps : goal.returns-then-keeps
returns-then-keeps c S h =
    let limit = descriptor_limit c.args.limits in
    let q = c.loop-index.index + 1 in
    let within : c.loop-index.index < processes_of c.args.manager.now = omega (arith, c.processes-index-end.ensures) in
    let lives : c.is_alive.result ≡ true = grind (arith, common_steps) in
    let found : c.keeps.result ≡ true = grind (arith, common_steps) in
    let alive : is_alive (S.states q) ≡ true = ap is_alive (sym (h.states q) ∙ sym c.state_of.ensures.state) ∙ sym c.is_alive.ensures ∙ lives in
    let kept : keeps limit S.descriptors c.args.closing q c.args.description ≡ true = sym (c.keeps.ensures S h) ∙ found in
    sym (somebody limit S c.args.closing c.args.description c.loop-index.index (processes_of c.args.manager.now) within
    (ap (λ (b : Bool). b && keeps limit S.descriptors c.args.closing q c.args.description) alive ∙ kept))
