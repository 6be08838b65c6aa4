-- Words of a line: for `form_of`, `joined` and `push_expectation`.
use Rattle.std.proofs.Common.{◌≡◌, ◌∙◌, ℕ, ◌-◌, ◌≤◌, Bor, List, [], ◌∷◌, ◌++◌, length, get_or, take, drop, flat_map, refl, sym, ap, arith}
use Rattle.std.specs.List.{join_with_byte}
use Rattle.std.proofs.lemmas.List.{take_rest}
use Rattle.script_core.specs.Words.{texts}
use Rattle.script_core.proofs.TextLemmas.{join_words}

-- words are their first and those behind it
pub first_word : (words : List (Bor (List ℕ))) (d : Bor (List ℕ)) → 1 ≤ length words
    → texts words ≡ (get_or words 0 d).now ∷ texts (take (length words - 1) (drop 1 words))
first_word [] d some = absurd (omega arith)
first_word (word ∷ words) d some = ap (λ (l : List (Bor (List ℕ))). word.now ∷ texts l) (sym (take_rest (word ∷ words) 1))

-- the first word and each other behind a space are the words with a space between each two
pub joined_words : (words : List (Bor (List ℕ))) (d : Bor (List ℕ)) → 1 ≤ length words
    → (get_or words 0 d).now ++ flat_map (λ word. 32 ∷ word) (texts (take (length words - 1) (drop 1 words))) ≡ join_with_byte 32 (texts words)
joined_words words d some =
    sym (ap (join_with_byte 32) (first_word words d some)
    ∙ join_words (get_or words 0 d).now (texts (take (length words - 1) (drop 1 words))))

drop_two : (words : List (Bor (List ℕ))) → texts (drop 2 words) ≡ drop 2 (texts words)
drop_two [] = refl
drop_two (first ∷ []) = refl
drop_two (first ∷ second ∷ words) = refl

-- what stands behind the first two words
pub behind_two : (words : List (Bor (List ℕ))) → texts (take (length words - 2) (drop 2 words)) ≡ drop 2 (texts words)
behind_two words = ap texts (take_rest words 2) ∙ drop_two words
