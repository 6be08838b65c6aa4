use Rattle.script_core.proofs.Common.{arith, common_steps, state_at}
use Rattle.script_core.proofs.StateLemmas.{none_standing, more_standing}
use Rattle.script_core.proofs.state_lines.add_processes.Goals as goal

pub loop-index-init : goal.loop-index-init
loop-index-init c = none_standing (state_at c.args.manager.now) c.args.told.now.items

pub loop-index-preserved : goal.loop-index-preserved
loop-index-preserved c = grind (arith, common_steps, more_standing)
