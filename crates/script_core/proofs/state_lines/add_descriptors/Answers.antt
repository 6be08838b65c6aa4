use Rattle.script_core.proofs.Common.{arith, common_steps}
use Rattle.script_core.proofs.StateLemmas.{none_open, more_open}
use Rattle.script_core.proofs.state_lines.add_descriptors.Goals as goal

pub loop-fd-init : goal.loop-fd-init
loop-fd-init c = λ S stands. none_open S.descriptors c.args.p c.args.told.now.items

pub loop-fd-preserved : goal.loop-fd-preserved
loop-fd-preserved c = grind (arith, common_steps, more_open)
