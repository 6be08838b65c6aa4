use Rattle.std.proofs.Common.{◌≡◌, ◌∷◌, ◌++◌, flat_map, take}
use Rattle.script_core.specs.Words.{texts}
use Rattle.expectations.proofs.expectation.push_words.Given as goal

abbrev pub invariant-loop-word : goal.invariant-loop-word
invariant-loop-word l = l.text.items ≡ l.fn.text.items ++ flat_map (λ word. 32 ∷ word) (texts (take l.word-index l.words))
