use Rattle.std.proofs.Common.{◌≡◌, ◌==◌, filter, length}
use Rattle.std.specs.Prelude.{not}
use Rattle.script_core.specs.Words.{texts}
use Rattle.expectations.proofs.expectation.words_of.Given as goal

abbrev pub invariant-loop-piece : goal.invariant-loop-piece
invariant-loop-piece l = texts l.words.items ≡ filter (λ word. not (length word == 0)) (texts l.yielded)
