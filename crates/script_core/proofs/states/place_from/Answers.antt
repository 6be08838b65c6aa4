use Rattle.script_core.proofs.Common.{arith, common_steps}
use Rattle.script_core.proofs.StateLemmas.{place_behind}
use Rattle.script_core.proofs.states.place_from.Goals as goal

pub returns-in-Some : goal.returns-in-Some
returns-in-Some c = grind (arith, common_steps, place_behind)
