use Rattle.std.proofs.Common.{arith}
use Rattle.std.proofs.lemmas.Grind.{common_steps}
use Rattle.std.proofs.lemmas.List.{replicate-append-replicate}
use Rattle.diagnosis.proofs.shown.spaces.Goals as goal

pub returns : goal.returns
returns c = grind (arith, common_steps, replicate-append-replicate)
