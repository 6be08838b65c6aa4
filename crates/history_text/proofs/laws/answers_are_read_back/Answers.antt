use Rattle.history_text.proofs.RoundTripLaws.{answers_back}
use Rattle.history_text.proofs.laws.answers_are_read_back.Goals as goal

pub returns : goal.returns
returns c = answers_back
