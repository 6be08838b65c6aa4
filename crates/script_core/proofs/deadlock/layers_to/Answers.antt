use Rattle.script_core.proofs.Common.{Wanted}
use Rattle.script_core.proofs.DeadlockLemmas.{layers_more, layers_end, no_cycle, no_link, some_link}
use Rattle.script_core.proofs.deadlock.layers_to.Goals as goal

pub returns-in_default : goal.returns-in_default
returns-in_default c =
    no_cycle c.args.policy c.args.held.now c.args.waits.now c.args.wanted.now c.loop-policy.layers.items c.loop-policy.layer c.loop-policy.invariant
    (no_link c.args.policy c.args.held.now c.args.waits.now (Wanted c.args.wanted.now) c.loop-policy.layer c.least_link.result c.least_link.ensures c.loop-policy-test.ensures) c.in_default.ensures.closed

pub loop-policy-preserved : goal.loop-policy-preserved
loop-policy-preserved c =
    layers_more c.args.policy c.args.held.now c.args.waits.now c.args.wanted.now c.loop-policy.layers.items c.push-in-loop-policy.new.self.items
    c.loop-policy.layer c.in-Some.next c.loop-policy.invariant (no_link c.args.policy c.args.held.now c.args.waits.now (Wanted c.args.wanted.now) c.loop-policy.layer c.least_link.result c.least_link.ensures c.loop-policy-test.ensures)
    c.in-Some.ensures.members c.in_ok-push-2.ensures.items

pub returns : goal.returns
returns c =
    let found = some_link c.args.policy c.args.held.now c.args.waits.now (Wanted c.args.wanted.now) c.loop-policy.layer c.least_link.result c.least_link.ensures c.loop-policy-test.ensures in
    layers_end c.args.policy c.args.held.now c.args.waits.now c.args.wanted.now c.loop-policy.layers.items c.loop-policy.layer found.0
    c.loop-policy.invariant found.1
