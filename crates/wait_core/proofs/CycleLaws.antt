-- A list of waits that is free of cycles stays so: for `stay_free_of_cycles`.
use Rattle.wait_core.proofs.Common.{common_steps, ℕ, ◌≡◌, ◌≢◌, ◌∙◌, ◌⊎◌, inl, inr, sym, ap, subst, refl, arith, Bool, true, not, List, [], ◌∷◌, ◌++◌, All, length, ◌==◌, filter, cases_Bool, Mode, Span, Owner, Process, ByteModes, ProcessBlocks, Policy, Held, Queue, Wait, Locks, IsTraditional, IsBlockedByProcess, WaitsFor, IsConflictOf}
use Rattle.wait_core.specs.Cycles.{IsChain, ClosesCycle}
use Rattle.wait_core.specs.FreeOfCycles.{FreeWhenOneJoins, FreeWhenOneLeaves, FreeWhenLocksChange, FreeWhenDescriptionLocksChange}
use Rattle.wait_core.proofs.AnyLemmas.{Any-weaker, Any-unfilter, split_within, split_is}
use Rattle.wait_core.proofs.ReachLemmas.{chain_append, chain_start, not_own_blocker}

module _ (R S : ℕ → ℕ → Type 0) where
  -- steps of the one kind are steps of the other
  pub chain_weaker : ((p q : ℕ) → R p q → S p q) → (p : ℕ) (through : List ℕ) (q : ℕ) → IsChain R p through q → IsChain S p through q
  chain_weaker weaker p [] q chain = weaker p q chain
  chain_weaker weaker p (next ∷ through) q chain = (weaker p next chain.0, chain_weaker weaker next through q chain.1)

  -- steps of the one kind to a process that goes on are steps of the other
  pub chain_on : ((p q r : ℕ) → R p q → R q r → S p q) → (p : ℕ) (through : List ℕ) (q r : ℕ) → IsChain R p through q → R q r → IsChain S p through q
  chain_on on p [] q r chain step = on p q r chain step
  chain_on on p (next ∷ []) q r chain step = (on p next q chain.0 chain.1, on next q r chain.1 step)
  chain_on on p (next ∷ after ∷ through) q r chain step =
      (on p next after chain.0 chain.1.0, chain_on on next (after ∷ through) q r chain.1 step)

-- p is q, or is led to it
AtOrLed : (ℕ → ℕ → Type 0) → ℕ → ℕ → Type 0
AtOrLed R p q = (p ≡ q) ⊎ ((through : List ℕ) × IsChain R p through q)

module _ (R S : ℕ → ℕ → Type 0) (from : ℕ) (Added : ℕ → Type 0) (cases : (p q : ℕ) → S p q → R p q ⊎ ((p ≡ from) × Added q)) where
  -- a chain with a new step: it comes to where the step begins, and goes on from an end of it
  record Uses (p q : ℕ) : Type 0 where
    comes : AtOrLed R p from
    next : ℕ
    added : Added next
    goes : AtOrLed R next q

  comes_first : (p next : ℕ) → R p next → AtOrLed R next from → AtOrLed R p from
  unfolding AtOrLed
  comes_first p next step (inl same) = inr ([], subst (λ (n : ℕ). R p n) same step)
  comes_first p next step (inr (through, chain)) = inr (next ∷ through, (step, chain))

  -- a chain of steps of the old kind and new ones: of old ones alone, or with a last new one
  last_added : (p : ℕ) (through : List ℕ) (q : ℕ) → IsChain S p through q → ((old : List ℕ) × IsChain R p old q) ⊎ Uses p q
  unfolding AtOrLed
  last_added p [] q chain = elim (cases p q chain) [
    | inl step ↦ inl ([], step)
    | inr new ↦ inr (record { comes = inl new.0; next = q; added = new.1; goes = inl refl })
  ]
  last_added p (n ∷ through) q chain = elim (last_added n through q chain.1) [
    | inl (old, rest) ↦ elim (cases p n chain.0) [
      | inl step ↦ inl (n ∷ old, (step, rest))
      | inr new ↦ inr (record { comes = inl new.0; next = n; added = new.1; goes = inr (old, rest) })
    ]
    | inr uses ↦ elim (cases p n chain.0) [
      | inl step ↦ inr (record { comes = comes_first p n step uses.comes; next = uses.next; added = uses.added; goes = uses.goes })
      | inr new ↦ inr (record { comes = inl new.0; next = uses.next; added = uses.added; goes = uses.goes })
    ]
  ]

  join_led : (p q r : ℕ) → AtOrLed R p q → AtOrLed R q r → AtOrLed R p r
  unfolding AtOrLed
  join_led p q r (inl same) more = subst (λ (n : ℕ). (n ≡ r) ⊎ ((through : List ℕ) × IsChain R n through r)) (sym same) more
  join_led p q r (inr (through, chain)) (inl same) = inr (through, subst (λ (n : ℕ). IsChain R p through n) same chain)
  join_led p q r (inr (through, chain)) (inr (more, rest)) = inr (through ++ q ∷ more, chain_append R p through q more r chain rest)

  -- without a cycle of old steps, and no way from an end of a new step to its beginning, there is no cycle
  free_with_added : ((p : ℕ) → ¬ ((through : List ℕ) × IsChain R p through p)) → ((next : ℕ) → Added next → ¬ AtOrLed R next from) → (p : ℕ)
      → ¬ ((through : List ℕ) × IsChain S p through p)
  free_with_added free closes p (through, chain) = elim (last_added p through p chain) [
    | inl old ↦ free p old
    | inr uses ↦ closes uses.next uses.added (join_led uses.next p from uses.goes uses.comes)
  ]

cons_same : (x y : Wait) (xs ys : List Wait) → x ≡ y → xs ≡ ys → x ∷ xs ≡ y ∷ ys
cons_same x y xs ys e f = cc

-- a place in a list with one more at its end is a place in the list, or that end
place_in_push : (waits before : List Wait) (wait v : Wait) (after : List Wait) → waits ++ wait ∷ [] ≡ before ++ v ∷ after
    → ((rest : List Wait) × (waits ≡ before ++ v ∷ rest)) ⊎ ((before ≡ waits) × (v ≡ wait))
place_in_push [] [] wait v after e = inr (refl, cc)
place_in_push [] (x ∷ before) wait v after e =
    absurd (let rest : [] ≡ before ++ v ∷ after = cc in let none = split_within [] before v after rest in omega (arith, none))
place_in_push (y ∷ waits) [] wait v after e = inl (waits, (let same : y ≡ v = cc in cons_same y v waits waits same refl))
place_in_push (y ∷ waits) (x ∷ before) wait v after e =
    let same : y ≡ x = cc in
    let rest : waits ++ wait ∷ [] ≡ before ++ v ∷ after = cc in
    elim (place_in_push waits before wait v after rest) [
      | inl (more, place) ↦ inl (more, cons_same y x waits (before ++ v ∷ more) same place)
      | inr (all, last) ↦ inr (cons_same x y before waits (sym same) all, last)
    ]

-- a step in a list with one more wait is a step in the list, or of that wait
step_in_push : (policy : Policy) (locks : Locks) (waits : List Wait) (wait : Wait) (p q : ℕ) → WaitsFor policy locks (waits ++ wait ∷ []) p q
    → WaitsFor policy locks waits p q ⊎ ((p ≡ wait.p) × (IsTraditional wait × IsBlockedByProcess policy locks waits wait q))
step_in_push policy locks waits wait p q for = grind (arith, common_steps, place_in_push)

-- the process that would wait isn't led to from one that blocks it
not_led : (policy : Policy) (locks : Locks) (waits : List Wait) (wait : Wait) → (IsTraditional wait → ¬ ClosesCycle policy locks waits wait)
    → (next : ℕ) → IsTraditional wait × IsBlockedByProcess policy locks waits wait next → ¬ AtOrLed (WaitsFor policy locks waits) next wait.p
unfolding AtOrLed
not_led policy locks waits wait h next h2 h3 = grind (arith, common_steps, not_own_blocker)

pub free_when_one_joins : FreeWhenOneJoins
free_when_one_joins policy locks waits wait free closes =
    free_with_added (WaitsFor policy locks waits) (WaitsFor policy locks (waits ++ wait ∷ [])) wait.p
    (λ q. IsTraditional wait × IsBlockedByProcess policy locks waits wait q)
    (step_in_push policy locks waits wait) free (not_led policy locks waits wait closes)

-- the wait's place in a list, where these stand before it that a filter leaves of those before it
record PlaceBefore (f : Wait → Bool) (waits before : List Wait) (w : Wait) : Type 0 where
  earlier : List Wait
  later : List Wait
  place : waits ≡ earlier ++ w ∷ later
  kept : before ≡ filter f earlier

-- a place behind a wait that the filter keeps
place_behind_kept : (f : Wait → Bool) (x : Wait) (waits before : List Wait) (w : Wait) (after : List Wait) → f x ≡ true
    → x ∷ filter f waits ≡ before ++ w ∷ after → ((rest : List Wait) → filter f waits ≡ rest ++ w ∷ after → PlaceBefore f waits rest w)
    → PlaceBefore f (x ∷ waits) before w
place_behind_kept f x waits [] w after passes e again =
    record { earlier = []; later = waits; place = (let same : x ≡ w = cc in cons_same x w waits waits same refl); kept = refl }
place_behind_kept f x waits (y ∷ before) w after passes e again =
    let same : y ≡ x = cc in
    let e' : filter f waits ≡ before ++ w ∷ after = cc in
    let rest = again before e' in record {
      earlier = x ∷ rest.earlier;
      later = rest.later;
      place = cons_same x x waits (rest.earlier ++ w ∷ rest.later) refl rest.place;
      kept = rw passes (cons_same y x before (filter f rest.earlier) same rest.kept);
    }

-- a place among those that a filter keeps is a place in the list
place_in_filter : (f : Wait → Bool) (waits before : List Wait) (w : Wait) (after : List Wait) → filter f waits ≡ before ++ w ∷ after
    → PlaceBefore f waits before w
place_in_filter f [] before w after e = absurd (let none = split_within [] before w after e in omega (arith, none))
place_in_filter f (x ∷ waits) before w after e = elim (cases_Bool (f x)) [
  | inl passes ↦ place_behind_kept f x waits before w after passes (rw passes at e) (λ rest e'. place_in_filter f waits rest w after e')
  | inr fails ↦
      let rest = place_in_filter f waits before w after (rw fails at e) in record {
        earlier = x ∷ rest.earlier;
        later = rest.later;
        place = cons_same x x waits (rest.earlier ++ w ∷ rest.later) refl rest.place;
        kept = rw fails rest.kept;
      }
]

-- what blocks behind the waits that are kept blocks behind all
blocked_by_more : (policy : Policy) (locks : Locks) (f : Wait → Bool) (earlier : List Wait) (w : Wait) (q : ℕ)
    → IsBlockedByProcess policy locks (filter f earlier) w q → IsBlockedByProcess policy locks earlier w q
blocked_by_more Held locks f earlier w q blocked = blocked
blocked_by_more Queue locks f earlier w q (inl blocked) = inl blocked
blocked_by_more Queue locks f earlier w q (inr behind) =
    inr (Any-weaker (λ v. IsConflictOf q w v × (f v ≡ true)) (IsConflictOf q w) (λ v h. h.0) earlier (Any-unfilter (IsConflictOf q w) f earlier behind))

step_in_rest : (policy : Policy) (locks : Locks) (f : Wait → Bool) (waits : List Wait) (p q : ℕ) → WaitsFor policy locks (filter f waits) p q
    → WaitsFor policy locks waits p q
step_in_rest policy locks f waits p q for =
    let there = place_in_filter f waits for.before for.wait for.after for.place in record {
      before = there.earlier;
      wait = for.wait;
      after = there.later;
      place = there.place;
      detected = for.detected;
      of_one = for.of_one;
      blocked = blocked_by_more policy locks f there.earlier for.wait q
          (subst (λ (ws : List Wait). IsBlockedByProcess policy locks ws for.wait q) there.kept for.blocked);
    }

pub free_when_one_leaves : FreeWhenOneLeaves
free_when_one_leaves policy locks waits p free r (through, chain) =
    let f : Wait → Bool = λ (wait : Wait). not (wait.p == p) in
    free r (through, chain_weaker (WaitsFor policy locks (filter f waits)) (WaitsFor policy locks waits) (step_in_rest policy locks f waits) r through r chain)

blocks_kept : (modes modes' : ByteModes) (q : ℕ) (owner : Owner) (span : Span) (mode : Mode)
    → ((byte : ℕ) → modes' (Process q) byte ≡ modes (Process q) byte) → ProcessBlocks modes' q owner span mode → ProcessBlocks modes q owner span mode
blocks_kept modes modes' q owner span mode agree blocks = grind (arith, common_steps)

blocked_kept : (policy : Policy) (old new : Locks) (earlier : List Wait) (w : Wait) (q : ℕ)
    → ((byte : ℕ) → new.bytes w.file (Process q) byte ≡ old.bytes w.file (Process q) byte) → IsBlockedByProcess policy new earlier w q
    → IsBlockedByProcess policy old earlier w q
blocked_kept policy old new earlier w q h h2 = grind (arith, common_steps, blocks_kept)

-- a process that waits is the owner of its wait
waiting_owner : (policy : Policy) (locks : Locks) (waits : List Wait) (owner : Owner) (p q : ℕ) → All (λ wait. wait.owner ≢ owner) waits
    → WaitsFor policy locks waits p q → Process p ≢ owner
waiting_owner policy locks waits owner p q others for same =
    let other : for.wait.owner ≢ owner =
    subst (λ (w : Wait). w.owner ≢ owner) (split_is waits for.before for.wait for.after for.place)
    (others (length for.before) for.wait (split_within waits for.before for.wait for.after for.place)) in
    other (for.detected ∙ ap (λ (n : ℕ). Process n) for.of_one ∙ same)

pub free_when_locks_change : FreeWhenLocksChange
free_when_locks_change policy old new waits owner free agree others p (through, chain) =
    let Step : ℕ → ℕ → Type 0 = WaitsFor policy new waits in
    let on = λ (a b c : ℕ) (step : Step a b) (more : Step b c). (let kept : WaitsFor policy old waits a b = record {
      before = step.before;
      wait = step.wait;
      after = step.after;
      place = step.place;
      detected = step.detected;
      of_one = step.of_one;
      blocked = blocked_kept policy old new step.before step.wait b
          (λ byte. agree step.wait.file (Process b) byte (waiting_owner policy new waits owner b c others more)) step.blocked;
    } in kept) in
    let first : (r : ℕ) × Step p r = chain_start Step (λ n. (r : ℕ) × Step n r) (λ a b step. (b, step)) p through p chain in
    free p (through, chain_on Step (WaitsFor policy old waits) on p through p first.0 chain first.1)

-- a step by other locks of descriptions alone was a step before
step_kept : (policy : Policy) (old new : Locks) (waits : List Wait) (p q : ℕ)
    → ((file r byte : ℕ) → new.bytes file (Process r) byte ≡ old.bytes file (Process r) byte) → WaitsFor policy new waits p q → WaitsFor policy old waits p q
step_kept policy old new waits p q agree step = grind (arith, common_steps, blocked_kept)

pub free_when_description_locks_change : FreeWhenDescriptionLocksChange
free_when_description_locks_change policy old new waits free agree p (through, chain) =
    free p (through, chain_weaker (WaitsFor policy new waits) (WaitsFor policy old waits) (λ a b step. step_kept policy old new waits a b agree step) p through p chain)
