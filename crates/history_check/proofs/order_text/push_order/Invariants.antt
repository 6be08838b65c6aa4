use Rattle.std.proofs.Common.{◌≡◌, ◌++◌, ℕ, List}
use Rattle.history_judge.specs.HeldView.{locks_on}
use Rattle.history_check.proofs.OrderLemmas.{TellsOrder}
use Rattle.history_check.proofs.order_text.push_order.Given as goal

abbrev pub invariant-loop-index : goal.invariant-loop-index
invariant-loop-index l =
    (told : List ℕ) × TellsOrder l.states l.order l.index (locks_on l.held) told × (l.text.items ≡ l.fn.text.items ++ told)
