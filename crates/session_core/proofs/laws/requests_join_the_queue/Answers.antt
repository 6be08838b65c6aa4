use Rattle.session_core.proofs.queue.JoiningLaws.{joins_the_queue}
use Rattle.session_core.proofs.laws.requests_join_the_queue.Goals as goal

pub returns : goal.returns
returns c = joins_the_queue c.step_has_one_outcome.ensures
