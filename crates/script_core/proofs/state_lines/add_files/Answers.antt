use Rattle.script_core.proofs.Common.{arith, common_steps}
use Rattle.script_core.proofs.StateLemmas.{none_sized, more_sized}
use Rattle.script_core.proofs.state_lines.add_files.Goals as goal

pub loop-file-init : goal.loop-file-init
loop-file-init c = λ S stands. none_sized S.descriptors.sizes c.args.told.now.items

pub loop-file-preserved : goal.loop-file-preserved
loop-file-preserved c = grind (arith, common_steps, more_sized)
