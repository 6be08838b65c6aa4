use Rattle.script_core.proofs.Common.{arith, common_steps}
use Rattle.script_core.proofs.StateLemmas.{none_visiting, more_visiting}
use Rattle.script_core.proofs.state_lines.add_visits.Goals as goal

pub loop-index-init : goal.loop-index-init
loop-index-init c = λ S stands. none_visiting S.visits c.args.section c.args.told.now.items

pub loop-index-preserved : goal.loop-index-preserved
loop-index-preserved c = grind (arith, common_steps, more_visiting)
