use Rattle.lock_server.proofs.Common.{flat_map, lock_words, Puts}
use Rattle.lock_server.proofs.ExportLemmas.{lock_of}
use Rattle.lock_server.proofs.file.LockFile.put_runs.Given as goal

abbrev pub invariant-loop-mode : goal.invariant-loop-mode
invariant-loop-mode l =
    (goal.iterator-loop-mode).can_next l.mode-iterator ×
    (goal.iterator-loop-mode).is_finite l.mode-iterator ×
    Puts (flat_map (λ run. lock_words (lock_of l.owner run)) l.yielded) l.fn.out l.fn.at l.out l.behind
