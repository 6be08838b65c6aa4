use Rattle.history_text.proofs.Common.{arith, common_steps}
use Rattle.history_text.proofs.HeadLemmas.{begins_so}
use Rattle.history_text.proofs.head.read_head.Goals as goal

pub returns : goal.returns
returns c = grind (arith, common_steps, begins_so)
