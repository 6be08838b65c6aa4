use Rattle.wait_core.proofs.Common.{ℕ, ◌≡◌, ◌≤◌, All, length, locks_of, IsOff, IsOn, pair_in, TellsPair}
use Rattle.wait_core.proofs.PairLemmas.{Before}
use Rattle.wait_core.proofs.pairs.Pairs.tell_of_process.Given as goal

abbrev pub invariant-loop-waiting : goal.invariant-loop-waiting
invariant-loop-waiting l = record {
  can_next : (goal.iterator-loop-waiting).can_next l.waiting-iterator;
  is_finite : (goal.iterator-loop-waiting).is_finite l.waiting-iterator;
  told : Before (TellsPair l.self (locks_of l.books) l.q) (IsOn l.file l.span) l.fn.waits (length l.yielded);
  others : (p r : ℕ) → r ≤ 64 → (r ≡ l.q → All (IsOff p l.file l.span) l.fn.waits) → pair_in l.self p r ≡ pair_in l.fn.self p r;
}
