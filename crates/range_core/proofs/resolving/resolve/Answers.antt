use Rattle.std.proofs.Common.{arith, ◌≡◌, ℤ, FitsSigned, to_z, of_z, w64}
use Rattle.std.proofs.lemmas.Grind.{common_steps}
use Rattle.std.specs.Int.{w128}
use Rattle.std.proofs.lemmas.Int.{to_z-of_z}
use Rattle.range_core.proofs.resolving.resolve.Goals as goal

-- signed numbers keep their values where one function passes them to the next
passed_on : {R : Type 0} (at : ℤ → ℤ) (f g : ℤ → ℤ → ℤ) (h : ℤ → ℤ → R) (start len place first last : ℤ) (r : R) → FitsSigned w64 start
    → FitsSigned w64 len → FitsSigned w128 place → FitsSigned w128 first → FitsSigned w128 last → place ≡ at (to_z w64 (of_z w64 start))
    → first ≡ f (to_z w128 (of_z w128 place)) (to_z w64 (of_z w64 len)) → last ≡ g (to_z w128 (of_z w128 place)) (to_z w64 (of_z w64 len))
    → r ≡ h (to_z w128 (of_z w128 first)) (to_z w128 (of_z w128 last)) → r ≡ h (f (at start) len) (g (at start) len)
passed_on at f g h start len place first last r start_fits len_fits place_fits first_fits last_fits place_is first_is last_is r_is =
    cc (to_z-of_z w64 start start_fits, to_z-of_z w64 len len_fits, to_z-of_z w128 place place_fits, to_z-of_z w128 first first_fits, to_z-of_z w128 last last_fits)

pub returns-clause-resolution : goal.returns-clause-resolution
returns-clause-resolution c = grind (arith, common_steps, passed_on)
