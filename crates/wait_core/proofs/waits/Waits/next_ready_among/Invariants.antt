use Rattle.wait_core.proofs.Common.{[], take, locks_of, AllBlocked, waits_of, policy_of}
use Rattle.wait_core.proofs.waits.Waits.next_ready_among.Given as goal

abbrev pub invariant-loop-i : goal.invariant-loop-i
invariant-loop-i l = AllBlocked (policy_of l.self) (locks_of l.books) [] (take l.i (waits_of l.self))
