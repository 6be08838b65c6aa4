-- The first and the last item of a list whose last one is popped.
use Rattle.std.proofs.Common.{ℕ, ◌≡◌, ◌+◌, List, [], ◌∷◌, ◌++◌, Option, Some, slice_get, slice_index_or, length, refl, ap, ◌∙◌, sym, arith}
use Rattle.std.specs.Option.{option_to_list}

get_middle : {X : Type 0} (front : List X) (x : X) (rest : List X) → slice_get (front ++ x ∷ rest) (length front) ≡ Some x
get_middle [] x rest = refl
get_middle (y ∷ front) x rest = get_middle front x rest

-- the last item
pub popped_last : {X : Type 0} (items rest : List X) (o : Option X) (x : X) → items ≡ rest ++ option_to_list o → o ≡ Some x
    → slice_get items (length rest) ≡ Some x
popped_last items rest o x is some =
    ap (λ l. slice_get l (length rest)) (is ∙ ap (λ p. rest ++ option_to_list p) some) ∙ get_middle rest x []

-- the first one, where there is another one
pub kept_first : {X : Type 0} (items rest : List X) (o : Option X) (x : X) (n : ℕ) → items ≡ rest ++ option_to_list o
    → n + 1 ≡ length rest → x ≡ slice_index_or rest 0 x → slice_get items 0 ≡ Some x
kept_first items [] o x n is some first = absurd (omega arith)
kept_first items (y ∷ rest) o x n is some first = ap (λ l. slice_get l 0) is ∙ ap Some (sym first)
