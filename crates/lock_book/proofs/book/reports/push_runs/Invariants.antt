use Rattle.lock_book.proofs.Common.{◌≡◌, ◌++◌, map}
use Rattle.lock_book.proofs.RunLemmas.{run_line}
use Rattle.lock_book.proofs.book.reports.push_runs.Given as goal

abbrev pub invariant-loop-mode : goal.invariant-loop-mode
invariant-loop-mode l =
    (goal.iterator-loop-mode).can_next l.mode-iterator ×
    (goal.iterator-loop-mode).is_finite l.mode-iterator ×
    (l.locks.items ≡ l.initial.locks.items ++ map (run_line l.file l.owner) l.yielded)
