use Rattle.script_core.proofs.Common.{arith, common_steps}
use Rattle.script_core.proofs.NumberLemmas.{BeginsPlainly-decimal, natural_from_parse}
use Rattle.script_core.proofs.numbers.natural_of.Goals as goal

pub returns-then-begins_plainly : goal.returns-then-begins_plainly
returns-then-begins_plainly c = grind (arith, common_steps, natural_from_parse)

pub returns-else-begins_plainly : goal.returns-else-begins_plainly
returns-else-begins_plainly c = grind (arith, common_steps, BeginsPlainly-decimal)
