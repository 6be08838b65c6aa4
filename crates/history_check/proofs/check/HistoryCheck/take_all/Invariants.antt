use Rattle.std.proofs.Common.{◌≤◌, ◌+◌, ◌++◌, ℕ, List, take}
use Rattle.history_check.specs.declared.judging.Judging.{Judging}
use Rattle.history_check.specs.Checked.{HasChecked}
use Rattle.history_check.proofs.check.HistoryCheck.take_all.Given as goal

abbrev pub invariant-loop-byte : goal.invariant-loop-byte
invariant-loop-byte l =
    ((judging : Judging) (front : List ℕ) → HasChecked judging l.fn.self front → HasChecked judging l.self (front ++ take l.byte-index l.bytes))
    × (l.self.before ≤ l.fn.self.before + l.byte-index)
