use Rattle.script_core.proofs.Common.{common_steps, arith, append-nil}
use Rattle.script_core.proofs.UntakenLemmas.{never_taken_more, all_taken, none_left}
use Rattle.script_core.proofs.untaken.push_untaken.Goals as goal

pub returns-in-Some : goal.returns-in-Some
returns-in-Some c = grind (arith, common_steps, never_taken_more)

pub returns-in-None : goal.returns-in-None
returns-in-None c = grind (arith, common_steps, none_left, append-nil)

pub returns-then-line : goal.returns-then-line
returns-then-line c = grind (arith, common_steps, all_taken, append-nil)
