use Rattle.std.proofs.Common.{◌≡◌, ◌++◌, ℕ, List, map}
use Rattle.history_judge.specs.HeldView.{locks_on}
use Rattle.history_check.proofs.OrderLemmas.{TellsFiles}
use Rattle.history_check.proofs.order_text.push_state.Given as goal

abbrev pub invariant-loop-file : goal.invariant-loop-file
invariant-loop-file l =
    (told : List ℕ) × TellsFiles (locks_on l.held) (map (λ p. p.0.now) l.yielded) told × (l.text.items ≡ l.fn.text.items ++ told)
