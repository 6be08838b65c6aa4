use Rattle.wait_core.proofs.Common.{ℕ, ◌↔◌, Any, length, take, IsTrue, IsConflictOf, is_member}
use Rattle.wait_core.proofs.Wait.blocking_by_wait.Given as goal

abbrev pub invariant-loop-other : goal.invariant-loop-other
invariant-loop-other l = record {
  can_next : (goal.iterator-loop-other).can_next l.other-iterator;
  is_finite : (goal.iterator-loop-other).is_finite l.other-iterator;
  told : (q : ℕ) → IsTrue (is_member l.blocking q) ↔ Any (IsConflictOf q l.self) (take (length l.yielded) l.fn.earlier);
}
