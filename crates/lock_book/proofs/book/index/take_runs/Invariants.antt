use Rattle.lock_book.proofs.Common.{◌&&◌, Bool, not, Run, HolderModes, AreRunsWhere, as_holder, is_listed}
use Rattle.lock_book.proofs.book.index.take_runs.Given as goal

-- the runs so far are taken out
abbrev pub invariant-loop-span : goal.invariant-loop-span
invariant-loop-span l =
    (goal.iterator-loop-span).can_next l.span-iterator ×
    (goal.iterator-loop-span).is_finite l.span-iterator ×
    ((modes : HolderModes) (passes : Run → Bool) → AreRunsWhere modes passes l.initial.index.runs
    → AreRunsWhere modes (λ run. passes run && not (is_listed (as_holder l.owner) l.yielded run)) l.index.runs)
