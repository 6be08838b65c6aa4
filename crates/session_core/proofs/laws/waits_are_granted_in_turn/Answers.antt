use Rattle.session_core.proofs.queue.TurnLaws.{grants_in_turn}
use Rattle.session_core.proofs.queue.JoiningLaws.{notes_of_waits}
use Rattle.session_core.proofs.laws.waits_are_granted_in_turn.Goals as goal

pub returns-clause-in_turn : goal.returns-clause-in_turn
returns-clause-in_turn c = grants_in_turn c.step_has_one_outcome.ensures

pub returns-clause-told : goal.returns-clause-told
returns-clause-told c = notes_of_waits
