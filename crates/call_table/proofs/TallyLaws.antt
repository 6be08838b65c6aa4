-- The tally of one process, and those of all others, once it has another: for `find_next`, `publish_notes` and `Desk::meet`.
use Rattle.call_table.proofs.Common.{◌≡◌, ℕ, suc, zero, List, [], ◌∷◌, refl, ap, tally_at}
use Rattle.std.proofs.Common.{◌≢◌}
use Rattle.table_steps.specs.declared.tally.Tally.{Tally}
use Rattle.table_steps.specs.Views.{with_tally}

pub tally_here : (ts : List Tally) (p : ℕ) (t : Tally) → tally_at (with_tally ts p t) p ≡ t
tally_here [] zero t = refl
tally_here [] (suc p) t = tally_here [] p t
tally_here (u ∷ us) zero t = refl
tally_here (u ∷ us) (suc p) t = tally_here us p t

pub tally_else : (ts : List Tally) (p q : ℕ) (t : Tally) → q ≢ p → tally_at (with_tally ts p t) q ≡ tally_at ts q
tally_else [] zero zero t n = absurd (n refl)
tally_else [] zero (suc q) t n = refl
tally_else [] (suc p) zero t n = refl
tally_else [] (suc p) (suc q) t n = tally_else [] p q t (λ e. n (ap suc e))
tally_else (u ∷ us) zero zero t n = absurd (n refl)
tally_else (u ∷ us) zero (suc q) t n = refl
tally_else (u ∷ us) (suc p) zero t n = refl
tally_else (u ∷ us) (suc p) (suc q) t n = tally_else us p q t (λ e. n (ap suc e))
