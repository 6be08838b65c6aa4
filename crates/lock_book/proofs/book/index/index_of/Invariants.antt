use Rattle.lock_book.proofs.Common.{list_any, holder_of, AreRunsWhere, as_holder, holder_modes, modes_among}
use Rattle.interval_index.specs.Holders.{is_same_holder}
use Rattle.lock_book.proofs.book.index.index_of.Given as goal

-- the runs of the owners so far are in
abbrev pub invariant-loop-owner : goal.invariant-loop-owner
invariant-loop-owner l =
    (goal.iterator-loop-owner).can_next l.owner-iterator ×
    (goal.iterator-loop-owner).is_finite l.owner-iterator ×
    AreRunsWhere (holder_modes (modes_among l.owners)) (λ run. list_any (λ item. is_same_holder (as_holder item.0.now) (holder_of run)) l.yielded) l.index.runs
