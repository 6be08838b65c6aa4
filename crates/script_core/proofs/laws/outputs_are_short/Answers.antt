use Rattle.script_core.proofs.laws.outputs_are_short.Goals as goal
use Rattle.script_core.proofs.lengths.OutputLengthLaws.{outputs_short}

pub returns : goal.returns
returns c = outputs_short
