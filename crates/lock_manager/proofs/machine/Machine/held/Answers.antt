use Rattle.lock_manager.proofs.Common.{common_steps, ◌≡◌, arith}
use Rattle.lock_manager.proofs.kept.BookLemmas.{book_at}
use Rattle.lock_manager.proofs.calls.ReportLemmas.{reports_more, held_in_state}
use Rattle.lock_manager.proofs.machine.Machine.held.Goals as goal

pub loop-file-preserved : goal.loop-file-preserved
loop-file-preserved c = grind (arith, common_steps, reports_more, book_at)

pub returns : goal.returns
returns c S h =
    let all_files : c.loop-file.file ≡ 64 = omega arith in
    held_in_state c.args.self.now S c.loop-file.file c.loop-file.report.items all_files h c.loop-file.invariant
