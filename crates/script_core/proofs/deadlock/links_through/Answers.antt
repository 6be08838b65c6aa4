use Rattle.script_core.proofs.Common.{common_steps, arith}
use Rattle.script_core.proofs.DeadlockLemmas.{none_left, gone_more, all_told}
use Rattle.script_core.proofs.deadlock.links_through.Goals as goal

pub unreachable-requires : goal.unreachable-requires
unreachable-requires c =
    none_left c.args.policy c.args.held.now c.args.waits.now c.args.wanted.now c.loop-layer.layers.items c.pop.new.self.items c.in-Some.layer
    c.loop-layer.links.items c.loop-layer.start c.loop-layer.invariant c.in-Some.ensures.items c.in_default-least_link.ensures

pub loop-layer-preserved : goal.loop-layer-preserved
loop-layer-preserved c = grind (arith, common_steps, gone_more)

pub returns : goal.returns
returns c =
    all_told c.args.policy c.args.held.now c.args.waits.now c.args.wanted.now c.loop-layer.layers.items c.loop-layer.links.items c.loop-layer.start
    c.requires.traditional c.loop-layer.invariant (let none = c.in_default.ensures.cases.0 in omega (arith, none))
