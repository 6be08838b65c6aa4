use Rattle.history_text.proofs.ReadingLaws.{one_reading}
use Rattle.history_text.proofs.laws.lines_have_one_reading.Goals as goal

pub returns : goal.returns
returns c = one_reading
