use Rattle.script_core.proofs.Common.{rules}
use Rattle.script_core.proofs.StateLemmas.{zero_asks_for_none}
use Rattle.script_core.proofs.states.States.of_word.Goals as goal

pub returns-in-Some-eq0 : goal.returns-in-Some-eq0
returns-in-Some-eq0 c = zero_asks_for_none c.args.word.now (search rules)
