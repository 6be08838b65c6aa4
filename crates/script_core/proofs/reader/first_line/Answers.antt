use Rattle.script_core.proofs.Common.{arith, common_steps}
use Rattle.std.proofs.lemmas.List.{take_rest}
use Rattle.script_core.proofs.ScriptLemmas.{lines_cut}
use Rattle.script_core.proofs.reader.first_line.Goals as goal

pub returns-in-Some-clause-lines : goal.returns-in-Some-clause-lines
returns-in-Some-clause-lines c = grind (arith, common_steps, lines_cut, take_rest)
