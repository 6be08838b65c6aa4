-- Tests that all numbers pass, or none, cut each list.
use Rattle.std.proofs.Common.{true, false, ◌≡◌, ℕ, List, [], ◌∷◌, refl}
use Rattle.std.specs.List.{AllByRecursion}
use Rattle.summary_tree.specs.Cuts.{IsCutBy}

all_pass : (xs : List ℕ) → AllByRecursion (λ (_ : ℕ). true ≡ true) xs
all_pass [] = tt
all_pass (x ∷ xs) = (refl, all_pass xs)

pub cut_everywhere : (xs : List ℕ) → IsCutBy (λ _. true) xs
cut_everywhere [] = tt
cut_everywhere (x ∷ xs) = (λ _. all_pass xs, cut_everywhere xs)

pub cut_nowhere : (xs : List ℕ) → IsCutBy (λ _. false) xs
cut_nowhere [] = tt
cut_nowhere (x ∷ xs) = (λ e. absurd (cc), cut_nowhere xs)
