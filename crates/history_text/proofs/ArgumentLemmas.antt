-- Words that are good, before others: for `read_lock_words`, `read_held_words` and others.
use Rattle.history_text.proofs.Common.{common_steps, ◌≡◌, ℕ, ◌^◌, ◌<◌, ◌≤◌, List, [], ◌∷◌, length, decimal, inl, arith, Mode, Cause, texts, mode_word}
use Rattle.std.proofs.Common.{get_or, Bor}
use Rattle.script_core.specs.Arguments.{Argument, UnsignedNumber, ModeWord, IsFirstBad}

-- behind a number the first bad one is that of the others
pub number_then : (word : List ℕ) (n : ℕ) (arguments : List Argument) (words : List (List ℕ)) (cause : Cause) → word ≡ decimal n → n < 2 ^ 64
    → IsFirstBad arguments words cause → IsFirstBad (UnsignedNumber ∷ arguments) (word ∷ words) cause
number_then word n arguments words cause is small bad = inl ((n, small, is), bad)

-- so it is behind a mode
pub mode_then : (word : List ℕ) (mode : Mode) (arguments : List Argument) (words : List (List ℕ)) (cause : Cause) → word ≡ mode_word mode
    → IsFirstBad arguments words cause → IsFirstBad (ModeWord ∷ arguments) (word ∷ words) cause
mode_then word mode arguments words cause is bad = inl ((mode, is), bad)

-- a reference to nothing
unfoldable pub nothing : Bor (List ℕ)
nothing = record { ref_ptr = (0, 0); now = [] }

-- the texts of a list of four, one by one
pub four_texts : (xs : List (Bor (List ℕ))) (d : Bor (List ℕ)) → 4 ≤ length xs → length xs < 5
    → texts xs ≡ (get_or xs 0 d).now ∷ (get_or xs 1 d).now ∷ (get_or xs 2 d).now ∷ (get_or xs 3 d).now ∷ []
four_texts xs d at_least below = grind (arith, common_steps)
