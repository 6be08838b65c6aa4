-- What is printed of a history: for `push_open`, `push_waits` and others.
use Rattle.std.proofs.Common.{◌≡◌, ◌==◌, ℕ, true, false, Bool, Result, Ok, Err, OnOk, List, [], ◌∷◌, ◌++◌, refl, sym, ap, ◌∙◌, append_assoc, append-nil, flat_map}
use Rattle.std.specs.Prelude.{filter, not}
use Rattle.std.proofs.lemmas.Grind.{flat_map-append}
use Rattle.std.proofs.lemmas.List.Elements.{All-push, filter_passes}
use Rattle.history_check.specs.Told.{InLine, IsComment, comment_line}

is_no_end : (is_end : Bool) → not is_end ≡ true → is_end ≡ false
is_no_end true marked = sym marked
is_no_end false marked = refl

-- no line feed is left
without_ends : (line : List ℕ) → InLine (filter (λ byte. not (byte == 10)) line)
without_ends line = λ k d below. is_no_end _ (filter_passes (λ (byte : ℕ). not (byte == 10)) line k d below)

-- a line more
pub comment_more : (comment line : List ℕ) → IsComment comment → IsComment (comment ++ comment_line (filter (λ byte. not (byte == 10)) line))
comment_more comment line is =
    let kept = filter (λ (byte : ℕ). not (byte == 10)) line in record {
      lines = is.lines ++ kept ∷ [];
      in_line = All-push InLine is.lines kept is.in_line (without_ends line);
      are = ap (λ (l : List ℕ). l ++ comment_line kept) is.are
          ∙ ap (λ (l : List ℕ). flat_map comment_line is.lines ++ l) (sym (append-nil (comment_line kept)))
          ∙ sym (flat_map-append comment_line is.lines (kept ∷ []));
    }

-- ---- pieces

pub joined_three : (text a b c : List ℕ) → ((text ++ a) ++ b) ++ c ≡ text ++ ((a ++ b) ++ c)
joined_three text a b c = simp append_assoc

pub joined_four : (text a b c d : List ℕ) → (((text ++ a) ++ b) ++ c) ++ d ≡ text ++ (((a ++ b) ++ c) ++ d)
joined_four text a b c d = simp append_assoc

pub joined_five : (text a b c d e : List ℕ) → ((((text ++ a) ++ b) ++ c) ++ d) ++ e ≡ text ++ ((((a ++ b) ++ c) ++ d) ++ e)
joined_five text a b c d e = simp append_assoc

pub joined_six : (text a b c d e f : List ℕ) → (((((text ++ a) ++ b) ++ c) ++ d) ++ e) ++ f ≡ text ++ (((((a ++ b) ++ c) ++ d) ++ e) ++ f)
joined_six text a b c d e f = simp append_assoc

pub joined_seven : (text a b c d e f g : List ℕ)
    → ((((((text ++ a) ++ b) ++ c) ++ d) ++ e) ++ f) ++ g ≡ text ++ ((((((a ++ b) ++ c) ++ d) ++ e) ++ f) ++ g)
joined_seven text a b c d e f g = simp append_assoc

-- four pieces, one after another
pub four_told : {T E : Type 0} (result : Result T E) (t0 t1 t2 t3 t4 a b c d : List ℕ) → t1 ≡ t0 ++ a → t2 ≡ t1 ++ b → t3 ≡ t2 ++ c
    → OnOk result (t4 ≡ t3 ++ d) → OnOk result (t4 ≡ t0 ++ (((a ++ b) ++ c) ++ d))
four_told (Ok done) t0 t1 t2 t3 t4 a b c d one two three four =
    four
    ∙ ap (λ (l : List ℕ). l ++ d) (three ∙ ap (λ (l : List ℕ). l ++ c) (two ∙ ap (λ (l : List ℕ). l ++ b) one))
    ∙ joined_four t0 a b c d
four_told (Err error) t0 t1 t2 t3 t4 a b c d one two three four = tt
