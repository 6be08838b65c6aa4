-- What a wait's blockers lead to: soundness and completeness of the search for a cycle; for `Waits::all_waited_for`, `Waits::is_led_back` and
-- `Waits::would_cycle`.
use Rattle.wait_core.proofs.Common.{common_steps, ℕ, ◌≡◌, ◌≤◌, ◌⊎◌, inl, inr, sym, subst, refl, arith, List, [], ◌∷◌, ◌++◌, All, length, IsTrue, Policy, Wait, ProcessSet, Locks, IsTraditional, IsBlockedByProcess, WaitsFor, is_member, IsWellFormed}
use Rattle.wait_core.specs.Cycles.{IsChain, LeadsTo, ClosesCycle}
use Rattle.wait_core.proofs.AnyLemmas.{split_within, split_is}

-- q blocks the wait, or a process that does is led to q
pub record IsReached (policy : Policy) (locks : Locks) (waits : List Wait) (wait : Wait) (q : ℕ) : Type 0 where
  pub blocker : ℕ
  pub blocked : IsBlockedByProcess policy locks waits wait blocker
  pub led : (blocker ≡ q) ⊎ LeadsTo policy locks waits blocker q

-- one step more at the end of a chain
pub chain_push : (R : ℕ → ℕ → Type 0) (p : ℕ) (through : List ℕ) (q r : ℕ) → IsChain R p through q → R q r → IsChain R p (through ++ q ∷ []) r
chain_push R p [] q r chain step = (chain, step)
chain_push R p (next ∷ through) q r chain step = (chain.0, chain_push R next through q r chain.1 step)

-- two chains, one behind the other
pub chain_append : (R : ℕ → ℕ → Type 0) (p : ℕ) (through : List ℕ) (q : ℕ) (more : List ℕ) (r : ℕ) → IsChain R p through q → IsChain R q more r
    → IsChain R p (through ++ q ∷ more) r
chain_append R p [] q more r chain rest = (chain, rest)
chain_append R p (next ∷ through) q more r chain rest = (chain.0, chain_append R next through q more r chain.1 rest)

-- a chain begins with a step
pub chain_start : (R : ℕ → ℕ → Type 0) (P : ℕ → Type 0) → ((p q : ℕ) → R p q → P p) → (p : ℕ) (through : List ℕ) (q : ℕ) → IsChain R p through q → P p
chain_start R P start p [] q chain = start p q chain
chain_start R P start p (next ∷ through) q chain = start p next chain.0

-- and ends with one
pub chain_end : (R : ℕ → ℕ → Type 0) (p : ℕ) (through : List ℕ) (q : ℕ) → IsChain R p through q → (r : ℕ) × R r q
chain_end R p [] q chain = (p, chain)
chain_end R p (next ∷ through) q chain = chain_end R next through q chain.1

-- a process that waits is one of the processes that there are
pub waiting_known : (policy : Policy) (locks : Locks) (waits : List Wait) (processes p q : ℕ) → All (IsWellFormed processes) waits
    → WaitsFor policy locks waits p q → (1 ≤ p) × (p ≤ processes)
waiting_known policy locks waits processes p q each for =
    let known : IsWellFormed processes for.wait =
    subst (IsWellFormed processes) (split_is waits for.before for.wait for.after for.place)
    (each (length for.before) for.wait (split_within waits for.before for.wait for.after for.place)) in
    subst (λ (n : ℕ). (1 ≤ n) × (n ≤ processes)) for.of_one (known.from_one, known.process)

-- no traditional wait is blocked by its own process
pub not_own_blocker : (policy : Policy) (locks : Locks) (waits : List Wait) (wait : Wait) → IsTraditional wait
    → ¬ IsBlockedByProcess policy locks waits wait wait.p
not_own_blocker policy locks waits wait h h2 = grind (arith, common_steps)

-- who blocks the wait is reached
pub blocked_reached : (policy : Policy) (locks : Locks) (waits : List Wait) (wait : Wait) (q : ℕ) → IsBlockedByProcess policy locks waits wait q
    → IsReached policy locks waits wait q
blocked_reached policy locks waits wait q blocked = record { blocker = q; blocked = blocked; led = inl refl }

-- a number more that is reached
pub reach_step : (policy : Policy) (locks : Locks) (waits : List Wait) (wait : Wait) (p q : ℕ) → IsReached policy locks waits wait p
    → WaitsFor policy locks waits p q → IsReached policy locks waits wait q
reach_step policy locks waits wait p q reached step = record {
  blocker = reached.blocker;
  blocked = reached.blocked;
  led = elim reached.led [
    | inl same ↦ inr ([], subst (λ (n : ℕ). WaitsFor policy locks waits n q) (sym same) step)
    | inr (through, chain) ↦ inr (through ++ p ∷ [], chain_push (WaitsFor policy locks waits) reached.blocker through p q chain step)
  ];
}

-- what is reached closes a cycle where it is the process that would wait
pub reached_closes : (policy : Policy) (locks : Locks) (waits : List Wait) (wait : Wait) → IsTraditional wait
    → IsReached policy locks waits wait wait.p → ClosesCycle policy locks waits wait
reached_closes policy locks waits wait own reached = grind (arith, common_steps, not_own_blocker)

-- each process that p leads to is in the set
abbrev pub LeadsInside : (ℕ → ℕ → Type 0) → ProcessSet → ℕ → Type 0
LeadsInside Leads reached p = (q : ℕ) → 1 ≤ q → q ≤ 64 → Leads p q → IsTrue (is_member reached q)

-- each process that one in the set leads to is in the set
abbrev pub IsClosed : (ℕ → ℕ → Type 0) → ProcessSet → Type 0
IsClosed Leads reached = (p : ℕ) → p ≤ 64 → IsTrue (is_member reached p) → LeadsInside Leads reached p

-- a closed set has the end of each chain from one of its processes
pub closed_chain : (R : ℕ → ℕ → Type 0) (set : ProcessSet) → ((p q : ℕ) → R p q → (1 ≤ p) × (p ≤ 64)) → IsClosed R set
    → (p : ℕ) (through : List ℕ) (q : ℕ) → 1 ≤ q → q ≤ 64 → IsTrue (is_member set p) → IsChain R p through q → IsTrue (is_member set q)
closed_chain R set known closed p [] q q_one q_few member chain = closed p (known p q chain).1 member q q_one q_few chain
closed_chain R set known closed p (next ∷ through) q q_one q_few member chain =
    let there = chain_start R (λ n. (1 ≤ n) × (n ≤ 64)) known next through q chain.1 in
    closed_chain R set known closed next through q q_one q_few
    (closed p (known p next chain.0).1 member next there.0 there.1 chain.0) chain.1

-- so a wait that closes a cycle has its process in the set
pub closes_reached : (policy : Policy) (locks : Locks) (waits : List Wait) (wait : Wait) (reached : ProcessSet) (processes : ℕ) → processes ≤ 64
    → All (IsWellFormed processes) waits → 1 ≤ wait.p → wait.p ≤ processes
    → ((q : ℕ) → 1 ≤ q → q ≤ 64 → IsBlockedByProcess policy locks waits wait q → IsTrue (is_member reached q))
    → IsClosed (WaitsFor policy locks waits) reached → ClosesCycle policy locks waits wait → IsTrue (is_member reached wait.p)
closes_reached policy locks waits wait reached processes few each from_one one blockers closed cycle =
    let known = λ (p q : ℕ) (for : WaitsFor policy locks waits p q). (let there = waiting_known policy locks waits processes p q each for in
    let h : (1 ≤ p) × (p ≤ 64) = (there.0, omega (arith, there.1)) in h) in
    let start : (1 ≤ cycle.blocker) × (cycle.blocker ≤ 64) =
    chain_start (WaitsFor policy locks waits) (λ n. (1 ≤ n) × (n ≤ 64)) known cycle.blocker cycle.led.0 wait.p cycle.led.1 in
    closed_chain (WaitsFor policy locks waits) reached known closed
    cycle.blocker cycle.led.0 wait.p from_one (omega arith) (blockers cycle.blocker start.0 start.1 cycle.blocked) cycle.led.1
