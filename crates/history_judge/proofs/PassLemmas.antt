-- A line of a file passes, and what happened behind it is told.
use Rattle.history_judge.proofs.Common.{inl, inr, ℕ, ◌≡◌, ◌∙◌, ◌+◌, ◌<◌, sym, ap, refl, arith, Option, List, [], ◌∷◌, ◌++◌, common_steps, cases_Bool, append_assoc, Happening, FileHappening, FileOrder, beyond, front, left_in}
use Rattle.std.proofs.Common.{length, drop, drop-cons, get_or, add-one}
use Rattle.std.specs.Prelude.{nat_le}
use Rattle.history_judge.specs.Merging.{Left, merged, pass, passed}

-- where no front is left, all is beyond
beyond_all : (b : ℕ) (told : List Happening) → front b told ≡ [] → beyond b told ≡ told
beyond_all b [] none = refl
beyond_all b (h ∷ told) none = elim (cases_Bool (nat_le h.behind b)) [
  | inl is ↦ absurd (grind (arith, common_steps, is, none))
  | inr not ↦ grind (arith, common_steps, not)
]

-- so the loop leaves what it should
pub all_left : (order now : FileOrder) (told : List Happening) (lines : ℕ) → now ≡ order → order.lines ≡ lines → front order.lines (left_in order).told ≡ []
    → beyond order.lines (left_in order).told ≡ beyond lines told → left_in now ≡ record { told = beyond lines told; lines = lines }
all_left order now told lines same is none all =
    let left : (left_in order).told ≡ beyond lines told = sym (beyond_all order.lines (left_in order).told none) ∙ all in
    ap left_in same ∙ (λ i. record { told = left i; lines = is i })

-- the next line passes
pub one_more : (told now : List FileHappening) (i : ℕ) (lefts next : ℕ → Option Left) (files : List ℕ) (all : List FileHappening) → i < length files
    → now ≡ told ++ passed (i + 1) (get_or files i 0) (lefts (get_or files i 0)) → ((g : ℕ) → next g ≡ pass (get_or files i 0) lefts g)
    → told ++ merged i lefts (drop i files) ≡ all → now ++ merged (i + 1) next (drop (i + 1) files) ≡ all
one_more told now i lefts next files all below is same before =
    let f = get_or files i 0 in
    let left : next ≡ pass f lefts = λ j. λ g. same g j in
    let cons : drop i files ≡ f ∷ drop (i + 1) files = drop-cons files i 0 below ∙ ap (λ k. f ∷ drop k files) (sym (add-one i)) in
    ap (λ l. now ++ merged (i + 1) l (drop (i + 1) files)) left
    ∙ ap (λ t. t ++ merged (i + 1) (pass f lefts) (drop (i + 1) files)) is
    ∙ append_assoc told (passed (i + 1) f (lefts f)) (merged (i + 1) (pass f lefts) (drop (i + 1) files))
    ∙ sym (ap (λ fs. told ++ merged i lefts fs) cons)
    ∙ before
