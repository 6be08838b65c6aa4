use Rattle.wait_core.proofs.Common.{ℕ, ◌≡◌, ◌≢◌, All, length, locks_of, pair_in, TellsWait}
use Rattle.wait_core.proofs.PairLemmas.{Before}
use Rattle.wait_core.proofs.pairs.Pairs.tell_all.Given as goal

abbrev pub invariant-loop-wait : goal.invariant-loop-wait
invariant-loop-wait l = record {
  can_next : (goal.iterator-loop-wait).can_next l.wait-iterator;
  is_finite : (goal.iterator-loop-wait).is_finite l.wait-iterator;
  told : Before (TellsWait l.self (locks_of l.books)) (λ wait. wait.p ≡ wait.p) l.fn.waits (length l.yielded);
  others : (p q : ℕ) → All (λ wait. wait.p ≢ p) l.fn.waits → pair_in l.self p q ≡ pair_in l.fn.self p q;
}
