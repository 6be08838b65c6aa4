use Rattle.std.proofs.Common.{◌∙◌, ◌-◌, ◌++◌, ◌∷◌, ℕ, List, ap, drop, flat_map, length, take}
use Rattle.script_core.specs.Words.{texts}
use Rattle.expectations.proofs.WordLemmas.{joined_words}
use Rattle.expectations.proofs.expectation.joined.Goals as goal

pub returns : goal.returns
returns c =
    let words = c.args.words.now in
    c.in_ok-push_words.ensures
    ∙ ap (λ (l : List ℕ). l ++ flat_map (λ word. 32 ∷ word) (texts (take (length words - 1) (drop 1 words)))) (c.in_ok-text.ensures.items ∙ c.as_bytes.ensures.value)
    ∙ joined_words words _ c.in-len1-up.len_at_least
