use Rattle.history_text.proofs.RoundTripLaws.{requests_back}
use Rattle.history_text.proofs.laws.requests_are_read_back.Goals as goal

pub returns : goal.returns
returns c = requests_back
