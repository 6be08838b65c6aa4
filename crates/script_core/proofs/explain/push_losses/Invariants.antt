use Rattle.script_core.proofs.Common.{◌≡◌, ◌++◌, flat_map, take}
use Rattle.script_core.specs.Explaining.{loss_line}
use Rattle.script_core.proofs.explain.push_losses.Given as goal

abbrev pub invariant-loop-held : goal.invariant-loop-held
invariant-loop-held l = l.text.items ≡ l.fn.text.items ++ flat_map (loss_line l.entry l.word) (take l.held-index l.locks)
