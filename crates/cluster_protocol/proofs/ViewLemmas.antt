-- The order of views.
use Rattle.cluster_protocol.proofs.Common.{◌≡◌, ◌⊎◌, ◌+◌, ◌<◌, ◌≤◌, ℕ, zero, suc, arith, inl, inr, subst, View, IsBefore}

pub before_trans : (a b c : View) → IsBefore a b → IsBefore b c → IsBefore a c
before_trans a b c p q = grind arith

pub before_not : (a b : View) → IsBefore a b → IsBefore b a → ⊥
before_not a b p q = grind arith

pub before_self : (a b : View) → a ≡ b → IsBefore a b → ⊥
before_self a b same p = let q = subst (λ (view : View). IsBefore view b) same p in before_not b b q q

before_bound : (a b : View) (r c : ℕ) → IsBefore a b → b.ring ≤ r → b.count < suc c → (a.ring < r) ⊎ ((a.ring ≤ r) × (a.count < c))
before_bound a b r c p ring count = grind arith

-- what holds of a round if it holds of each of an earlier view holds of each

inner : (view : ℕ → View) (P : ℕ → Type 0) (step : (j : ℕ) → ((i : ℕ) → IsBefore (view i) (view j) → P i) → P j) (r : ℕ)
    (all : (j : ℕ) → (view j).ring < r → P j) (c j : ℕ) → (view j).ring ≤ r → (view j).count < c → P j
inner view P step r all zero j ring count = absurd (omega arith)
inner view P step r all (suc c) j ring count =
    step j (λ i before. elim (before_bound (view i) (view j) r c before ring count) [
      | inl less ↦ all i less
      | inr same ↦ inner view P step r all c i same.0 same.1
    ])

outer : (view : ℕ → View) (P : ℕ → Type 0) (step : (j : ℕ) → ((i : ℕ) → IsBefore (view i) (view j) → P i) → P j) (r j : ℕ)
    → (view j).ring < r → P j
outer view P step zero j ring = absurd (omega arith)
outer view P step (suc r) j ring =
    inner view P step r (outer view P step r) ((view j).count + 1) j (omega arith) (omega arith)

pub by_view : (view : ℕ → View) (P : ℕ → Type 0) (step : (j : ℕ) → ((i : ℕ) → IsBefore (view i) (view j) → P i) → P j) (j : ℕ) → P j
by_view view P step j = outer view P step ((view j).ring + 1) j (omega arith)
