use Rattle.wait_core.proofs.Common.{ℕ, ◌≤◌, IsTrue, locks_of, IsBlockedByProcess, WaitsFor, is_member, waits_of, policy_of}
use Rattle.wait_core.specs.Processes.{lacking}
use Rattle.wait_core.proofs.ReachLemmas.{IsReached, LeadsInside}
use Rattle.wait_core.proofs.waits.Waits.is_led_back.Given as goal

-- those reached so far, with each process that blocks the wait and all for which those that were followed wait
abbrev pub invariant-loop-next : goal.invariant-loop-next
invariant-loop-next l = record {
  blockers : (q : ℕ) → 1 ≤ q → q ≤ 64 → IsBlockedByProcess (policy_of l.self) (locks_of l.books) (waits_of l.self) l.wait q → IsTrue (is_member l.reached q);
  reached : (q : ℕ) → 1 ≤ q → q ≤ 64 → IsTrue (is_member l.reached q) → IsReached (policy_of l.self) (locks_of l.books) (waits_of l.self) l.wait q;
  followed : (p : ℕ) → p ≤ 64 → IsTrue (is_member l.followed p) → LeadsInside (WaitsFor (policy_of l.self) (locks_of l.books) (waits_of l.self)) l.reached p;
}

-- one process more is followed each time
abbrev pub decreases-loop-next : goal.decreases-loop-next
decreases-loop-next l = lacking l.followed
