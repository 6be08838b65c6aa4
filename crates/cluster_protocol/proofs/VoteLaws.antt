-- Two majorities meet.
use Rattle.cluster_protocol.proofs.Common.{◌≡◌, ◌+◌, ◌*◌, ◌<◌, ◌≤◌, ℕ, zero, suc, Bool, true, false, arith, refl, if◌then◌else◌, weight}
use Rattle.cluster_protocol.specs.Clusters.{everyone}

-- a node is in both sets
abbrev pub IsInBoth : (ℕ → Bool) → (ℕ → Bool) → ℕ → Type 0
IsInBoth ones others nodes = (node : ℕ) × (node < nodes) × (ones node ≡ true) × (others node ≡ true)

more : (ones others : ℕ → Bool) (n : ℕ) → IsInBoth ones others n → IsInBoth ones others (suc n)
more ones others n both = (both.0, omega (arith, both.1), both.2, both.3)

meet_step : (votes : ℕ → ℕ) (ones others : ℕ → Bool) (n all a b : ℕ) (one other : Bool) → ones n ≡ one → others n ≡ other
    → all + votes n < (a + (if one then votes n else 0)) + (b + (if other then votes n else 0))
    → (all < a + b → IsInBoth ones others n) → IsInBoth ones others (suc n)
meet_step votes ones others n all a b true true is are lt below = (n, omega arith, is, are)
meet_step votes ones others n all a b true false is are lt below = more ones others n (below (omega arith))
meet_step votes ones others n all a b false true is are lt below = more ones others n (below (omega arith))
meet_step votes ones others n all a b false false is are lt below = more ones others n (below (omega arith))

-- two sets that have more votes together than all nodes have a node in common
pub meet : (votes : ℕ → ℕ) (ones others : ℕ → Bool) (n : ℕ) → weight votes everyone n < weight votes ones n + weight votes others n
    → IsInBoth ones others n
meet votes ones others zero lt = absurd (omega arith)
meet votes ones others (suc n) lt =
    meet_step votes ones others n (weight votes everyone n) (weight votes ones n) (weight votes others n) (ones n) (others n) refl refl lt
    (meet votes ones others n)

pub majorities : (votes : ℕ → ℕ) (expected nodes : ℕ) (ones others : ℕ → Bool) → weight votes everyone nodes ≤ expected
    → expected < 2 * weight votes ones nodes → expected < 2 * weight votes others nodes → IsInBoth ones others nodes
majorities votes expected nodes ones others enough one other = meet votes ones others nodes (omega arith)
