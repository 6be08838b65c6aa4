use Rattle.lock_book.specs.Reports.{AreFileReports}
use Rattle.lock_manager.proofs.Common.{locks_of}
use Rattle.lock_manager.proofs.machine.Machine.held.Given as goal

abbrev pub invariant-loop-file : goal.invariant-loop-file
invariant-loop-file l =
    AreFileReports 0 l.file (locks_of l.self.books.items).bytes (locks_of l.self.books.items).flocks l.report.items
