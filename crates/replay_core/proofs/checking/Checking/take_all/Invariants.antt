use Rattle.replay_core.proofs.Common.{◌≤◌, ◌+◌, ◌++◌, ℕ, List, take, HasChecked}
use Rattle.replay_core.proofs.checking.Checking.take_all.Given as goal

abbrev pub invariant-loop-byte : goal.invariant-loop-byte
invariant-loop-byte l =
    ((front : List ℕ) → HasChecked l.fn.self front → HasChecked l.self (front ++ take l.byte-index l.bytes))
    × (l.self.before ≤ l.fn.self.before + l.byte-index)
