use Rattle.std.proofs.Common.{◌≡◌, ◌++◌, ℕ, List}
use Rattle.history_check.specs.Told.{IsComment}
use Rattle.history_check.proofs.told.push_open.Given as goal

abbrev pub invariant-loop-opened : goal.invariant-loop-opened
invariant-loop-opened l = (comment : List ℕ) × IsComment comment × (l.text.items ≡ l.fn.text.items ++ comment)
