use Rattle.std.proofs.Common.{rules, refl}
use Rattle.script_core.proofs.StateLemmas.{zero_asks_for_none}
use Rattle.lockreplay.proofs.options.states_of.Goals as goal

pub returns-in-Some-eq0 : goal.returns-in-Some-eq0
returns-in-Some-eq0 c = let none = zero_asks_for_none c.args.word.now (search rules) in (none.0, none.2, refl)
