use Rattle.lock_server.proofs.Common.{◌≡◌, ◌≢◌, ℕ, ◌-◌, ◌^◌, ◌<◌, [], false, IsTrue, contains, nat_cmp, crossed_of, files_of}
use Rattle.lock_server.proofs.ForgetLemmas.{next_of}
use Rattle.lock_server.proofs.waiters.Waiters.uncrossed.Given as goal

abbrev pub invariant-loop-owner : goal.invariant-loop-owner
invariant-loop-owner l = record {
  none_crossed : (owner : ℕ) → IsTrue (contains nat_cmp l.uncrossed owner) → crossed_of l.self owner ≡ false;
  all : (owner : ℕ) → owner < next_of l.above → files_of l.self owner ≢ [] → crossed_of l.self owner ≡ false → IsTrue (contains nat_cmp l.uncrossed owner);
}

-- each owner is above the one before
abbrev pub decreases-loop-owner : goal.decreases-loop-owner
decreases-loop-owner l = 2 ^ 64 - next_of l.above
