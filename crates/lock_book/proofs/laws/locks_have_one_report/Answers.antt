use Rattle.lock_book.proofs.ReportLaws.{IsHeldReport-unique}
use Rattle.lock_book.proofs.laws.locks_have_one_report.Goals as goal

pub returns : goal.returns
returns c = IsHeldReport-unique
