use Rattle.replay_core.proofs.OutputVerdictLaws.{outputs_judged}
use Rattle.replay_core.proofs.laws.outputs_are_judged_legal.Goals as goal

pub returns : goal.returns
returns c = outputs_judged c.outputs_are_legal.ensures c.outputs_are_short.ensures
