use Rattle.script_core.proofs.Common.{arith, common_steps, processes_of}
use Rattle.script_core.proofs.StateLemmas.{none_visited, more_visited}
use Rattle.script_core.proofs.state_lines.add_sections.Goals as goal

pub loop-section-init : goal.loop-section-init
loop-section-init c = λ S stands. none_visited S.visits (processes_of c.args.manager.now) c.args.told.now.items

pub loop-section-preserved : goal.loop-section-preserved
loop-section-preserved c = grind (arith, common_steps, more_visited)
