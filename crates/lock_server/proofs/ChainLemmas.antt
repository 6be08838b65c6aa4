-- Chains of steps between owners, of any kind: what keeps them free of cycles; for `Table::add_going_on`, `Table::add_steps`, `LockServer::cancel`
-- and others.
use Rattle.lock_server.proofs.Common.{ℕ, ◌≡◌, ◌⊎◌, inl, inr, sym, subst, refl, List, [], ◌∷◌, ◌++◌, IsChain}

-- two chains, one behind the other
pub chain_append : (R : ℕ → ℕ → Type 0) (p : ℕ) (through : List ℕ) (q : ℕ) (more : List ℕ) (r : ℕ) → IsChain R p through q → IsChain R q more r
    → IsChain R p (through ++ q ∷ more) r
chain_append R p [] q more r chain rest = (chain, rest)
chain_append R p (next ∷ through) q more r chain rest = (chain.0, chain_append R next through q more r chain.1 rest)

module _ (R S : ℕ → ℕ → Type 0) where
  -- steps of the one kind are steps of the other
  pub chain_weaker : ((p q : ℕ) → R p q → S p q) → (p : ℕ) (through : List ℕ) (q : ℕ) → IsChain R p through q → IsChain S p through q
  chain_weaker weaker p [] q chain = weaker p q chain
  chain_weaker weaker p (next ∷ through) q chain = (weaker p next chain.0, chain_weaker weaker next through q chain.1)

  -- steps of the one kind to an owner that goes on are steps of the other
  pub chain_on : ((p q r : ℕ) → R p q → R q r → S p q) → (p : ℕ) (through : List ℕ) (q r : ℕ) → IsChain R p through q → R q r → IsChain S p through q
  chain_on on p [] q r chain step = on p q r chain step
  chain_on on p (next ∷ []) q r chain step = (on p next q chain.0 chain.1, on next q r chain.1 step)
  chain_on on p (next ∷ after ∷ through) q r chain step =
      (on p next after chain.0 chain.1.0, chain_on on next (after ∷ through) q r chain.1 step)

-- p is q, or is led to it
abbrev pub IsOrLed : (ℕ → ℕ → Type 0) → ℕ → ℕ → Type 0
IsOrLed R p q = (p ≡ q) ⊎ ((through : List ℕ) × IsChain R p through q)

pub join_led : (R : ℕ → ℕ → Type 0) (p q r : ℕ) → IsOrLed R p q → IsOrLed R q r → IsOrLed R p r
join_led R p q r (inl same) more = subst (λ (n : ℕ). IsOrLed R n r) (sym same) more
join_led R p q r (inr (through, chain)) (inl same) = inr (through, subst (λ (n : ℕ). IsChain R p through n) same chain)
join_led R p q r (inr (through, chain)) (inr (more, rest)) = inr (through ++ q ∷ more, chain_append R p through q more r chain rest)

-- no owner is led to itself
abbrev pub IsFree : (ℕ → ℕ → Type 0) → Type 0
IsFree R = (p : ℕ) → ¬ ((through : List ℕ) × IsChain R p through p)

module _ (R S : ℕ → ℕ → Type 0) (from : ℕ) (Added : ℕ → Type 0) (cases : (p q : ℕ) → S p q → R p q ⊎ ((p ≡ from) × Added q)) where
  -- a chain with a new step: it comes to where the step begins, and goes on from an end of it
  record Uses (p q : ℕ) : Type 0 where
    comes : IsOrLed R p from
    next : ℕ
    added : Added next
    goes : IsOrLed R next q

  -- a chain of steps of the old kind and new ones: of old ones alone, or with a last new one
  last_added : (p : ℕ) (through : List ℕ) (q : ℕ) → IsChain S p through q → ((old : List ℕ) × IsChain R p old q) ⊎ Uses p q
  last_added p [] q chain = elim (cases p q chain) [
    | inl step ↦ inl ([], step)
    | inr new ↦ inr (record { comes = inl new.0; next = q; added = new.1; goes = inl refl })
  ]
  last_added p (n ∷ through) q chain = elim (last_added n through q chain.1) [
    | inl (old, rest) ↦ elim (cases p n chain.0) [
      | inl step ↦ inl (n ∷ old, (step, rest))
      | inr new ↦ inr (record { comes = inl new.0; next = n; added = new.1; goes = inr (old, rest) })
    ]
    | inr uses ↦ inr (record {
      comes = elim (cases p n chain.0) [ inl step ↦ join_led R p n from (inr ([], step)) uses.comes | inr new ↦ inl new.0 ];
      next = uses.next;
      added = uses.added;
      goes = uses.goes;
    })
  ]

  -- without a cycle of old steps, and no way from an end of a new step to its beginning, there is no cycle: so a wait that joins closes none, where
  -- none that blocks it is its own owner or led to it
  pub free_joined : ((next : ℕ) → Added next → ¬ IsOrLed R next from) → IsFree R → IsFree S
  free_joined closes free p (through, chain) = elim (last_added p through p chain) [
    | inl old ↦ free p old
    | inr uses ↦ closes uses.next uses.added (join_led R uses.next p from uses.goes uses.comes)
  ]

-- a chain begins with a step
pub first_step : (S : ℕ → ℕ → Type 0) (p : ℕ) (through : List ℕ) (q : ℕ) → IsChain S p through q → (next : ℕ) × S p next
first_step S p [] q chain = (q, chain)
first_step S p (next ∷ through) q chain = (next, chain.0)

-- steps to owners that go no further close no cycle: so a lock that is given to an owner without a step closes none
pub free_on : (R S : ℕ → ℕ → Type 0) → ((p q r : ℕ) → S p q → S q r → R p q) → IsFree R → IsFree S
free_on R S on free p (through, chain) =
    let more = first_step S p through p chain in
    free p (through, chain_on S R on p through p more.0 chain more.1)
