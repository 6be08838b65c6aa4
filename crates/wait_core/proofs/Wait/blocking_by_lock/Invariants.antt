use Rattle.wait_core.proofs.Common.{All, locks_of}
use Rattle.wait_core.proofs.ListedLemmas.{IsToldIfBlocking, OnlyBlocking}
use Rattle.wait_core.proofs.Wait.blocking_by_lock.Given as goal

-- of the owners so far just the processes that block are in the set
abbrev pub invariant-loop-other : goal.invariant-loop-other
invariant-loop-other l = record {
  can_next : (goal.iterator-loop-other).can_next l.other-iterator;
  is_finite : (goal.iterator-loop-other).is_finite l.other-iterator;
  only : OnlyBlocking ((locks_of l.books).bytes l.self.file) l.self.owner l.self.span l.self.mode l.blocking;
  each : All (λ x. IsToldIfBlocking ((locks_of l.books).bytes l.self.file) l.self.owner l.self.span l.self.mode l.blocking x.0.now) l.yielded;
}
