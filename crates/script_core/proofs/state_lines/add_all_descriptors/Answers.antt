use Rattle.script_core.proofs.Common.{arith, common_steps, descriptor_limit}
use Rattle.script_core.proofs.StateLemmas.{none_open_anywhere, more_open_anywhere}
use Rattle.script_core.proofs.state_lines.add_all_descriptors.Goals as goal

pub loop-index-init : goal.loop-index-init
loop-index-init c = λ S stands. none_open_anywhere S.descriptors (descriptor_limit c.args.limits) c.args.told.now.items

pub loop-index-preserved : goal.loop-index-preserved
loop-index-preserved c = grind (arith, common_steps, more_open_anywhere)
