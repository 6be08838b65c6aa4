-- A search in depth for a cycle (the words are this project's choice).
use Rattle.std.specs.Prelude.{◌≡◌, ℕ, ◌+◌, ◌*◌, ◌≤◌, ◌⊎◌, ◌↔◌, IsTrue, List, [], ◌∷◌, ◌++◌, Contains, AllPairs, vec_len}
use Rattle.std.specs.BTreeSet.{btree_set_len, contains}
use Rattle.std.specs.Ordering.{nat_cmp}
use Rattle.wait_core.specs.Cycles.{IsReachable}
use Rattle.wait_core.specs.declared.Policy.{Policy}
use Rattle.lock_server.specs.declared.table.cycles.Search.{Search}
use Rattle.lock_server.specs.declared.table.cycles.Turn.{Turn}
use Rattle.lock_server.specs.declared.table.cycles.Turn.TheVariants.{Closed, On, Back}
use Rattle.lock_server.specs.Deadlock.{WaitsUncrossed}
use Rattle.lock_server.specs.Restoring.{IsOnCycle}
use Rattle.lock_server.specs.States.{State}

-- the owner is untried, or on the path
abbrev pub IsAhead : Search → ℕ → Type 0
IsAhead search owner = IsTrue (contains nat_cmp search.untried owner) ⊎ Contains search.path.items owner

-- how much there is to do at most: each untried owner comes onto the path, and then leaves it
abbrev pub steps_left : Search → ℕ
steps_left search = 2 * btree_set_len search.untried + vec_len search.path

-- the owner is the last on the path, which is as it was or begins with it; the same owners are ahead
pub record ComesTo (old new : Search) (owner : ℕ) : Type 0 where
  pub before : List ℕ
  pub path : new.path.items ≡ before ++ owner ∷ []
  pub begins : (new.path.items ≡ old.path.items) ⊎ (before ≡ [])
  pub ahead : (other : ℕ) → IsAhead new other ↔ IsAhead old other
  pub left : steps_left new ≤ steps_left old

-- the owner, which was untried, comes behind those on the path
pub record GoesOn (old new : Search) (owner : ℕ) : Type 0 where
  pub path : new.path.items ≡ old.path.items ++ owner ∷ []
  pub ahead : (other : ℕ) → IsAhead new other ↔ IsAhead old other
  pub left : steps_left new + 1 ≡ steps_left old

-- how the search goes on from an owner that waits for these
abbrev pub IsTurn : Search → List ℕ → Turn → Type 0
IsTurn search owners (Closed owner) = Contains owners owner × Contains search.path.items owner
IsTurn search owners (On owner) = Contains owners owner × IsTrue (contains nat_cmp search.untried owner)
IsTurn search owners Back = (owner : ℕ) → Contains owners owner → ¬ IsAhead search owner

-- each on the path is led to each behind it; those that are ahead aren't crossed; and all others are on no cycle
pub record IsSearchedInDepth (policy : Policy) (S : State) (search : Search) : Type 0 where
  pub path : AllPairs (IsReachable (WaitsUncrossed policy S)) search.path.items
  pub uncrossed : (owner : ℕ) → IsAhead search owner → ¬ IsTrue (S.crossed owner)
  pub others : (owner : ℕ) → (¬ IsAhead search owner) → ¬ IsOnCycle policy S owner
