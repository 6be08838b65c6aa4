use Rattle.lock_book.proofs.Common.{◌||◌, Bool, All, IsRun, Run, HolderModes, AreRunsWhere, as_holder, is_listed}
use Rattle.lock_book.proofs.book.index.put_runs.Given as goal

-- the runs so far are put in
abbrev pub invariant-loop-mode : goal.invariant-loop-mode
invariant-loop-mode l =
    (goal.iterator-loop-mode).can_next l.mode-iterator ×
    (goal.iterator-loop-mode).is_finite l.mode-iterator ×
    ((modes : HolderModes) (passes : Run → Bool) → All (λ run. IsRun (modes (as_holder l.owner)) run.1.first run.0 run.1) l.fn.runs
    → AreRunsWhere modes passes l.initial.index.runs
    → AreRunsWhere modes (λ run. passes run || is_listed (as_holder l.owner) l.yielded run) l.index.runs)
