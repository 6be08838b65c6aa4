use Rattle.lock_book.proofs.ReportLaws.{IsFileReport-unique}
use Rattle.lock_book.proofs.laws.locks_have_one_file_report.Goals as goal

pub returns : goal.returns
returns c = IsFileReport-unique
