use Rattle.script_core.proofs.Common.{arith, common_steps}
use Rattle.script_core.proofs.TextLemmas.{then_pushed}
use Rattle.script_core.proofs.report_text.push_held.Goals as goal

pub returns : goal.returns
returns c = grind (arith, common_steps, then_pushed)
