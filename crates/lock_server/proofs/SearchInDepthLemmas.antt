-- The search in depth for a cycle: for `owner_on_cycle`.
use Rattle.lock_server.proofs.Common.{arith, ℕ, ◌≡◌, ◌≢◌, ◌∙◌, ◌==◌, ◌<◌, ◌≤◌, ◌+◌, inl, inr, sym, ap, subst, refl, true, false, List, [], ◌∷◌, ◌++◌, Contains, length, get_or, take, Option, Some, None, common_steps, ◌↔◌, AllPairs, IsSome, IsTrue, contains, nat_cmp, cases_Bool, cases_eq, eq-eqb, list_any, get_or_append_left, length-append, take_at, Contains-append_left, Contains-push, Contains-push_cases, all_pairs_push}
use Rattle.lock_server.proofs.Common.{IsChain, Policy, IsFreeOfCycles, WaitsFor, WaitsUncrossed, IsAhead, IsSearchedInDepth, State, Table, table_state, crossed_of, files_of}
use Rattle.std.specs.Prelude.{vec_len}
use Rattle.std.specs.BTreeSet.{BTreeSet, Updates, btree_set_len}
use Rattle.std.proofs.lemmas.List.Folds.{list_any-from_Any}
use Rattle.std.specs.Option.{option_to_list}
use Rattle.std.proofs.lemmas.List.{get_or_push}
use Rattle.lock_server.specs.declared.table.cycles.Search.{Search}
use Rattle.lock_server.specs.Restoring.{IsOnCycle}
use Rattle.lock_server.specs.Searching.{ComesTo, GoesOn}
use Rattle.lock_server.proofs.ChainLemmas.{chain_append}
use Rattle.lock_server.proofs.ReachedLemmas.{step_goes_on}
use Rattle.lock_server.proofs.TicketLemmas.{is_at-other}

-- an untried owner begins the path
pub begun : (old new : Search) (owner : ℕ) → old.path.items ≡ [] → Updates nat_cmp old.untried new.untried owner false
    → IsTrue (contains nat_cmp old.untried owner) → btree_set_len new.untried + 1 ≡ btree_set_len old.untried
    → new.path.items ≡ old.path.items ++ owner ∷ [] → vec_len new.path ≡ 1 → ComesTo old new owner
begun old new owner empty updates member fewer path one = record {
  before = [];
  path = alone;
  begins = inr refl;
  ahead = λ other. (
    λ h. elim h [
      | inl untried ↦ elim (cases_eq other owner) [
        | inl is ↦ inl (subst (λ (n : ℕ). IsTrue (contains nat_cmp old.untried n)) (sym is) member)
        | inr differs ↦ inl (sym (updates.2 other (is_at-other owner other differs)) ∙ untried)
      ]
      | inr among ↦ elim (Contains-push_cases [] owner other (subst (λ (l : List ℕ). Contains l other) alone among)) [
        | inl none ↦ absurd (no_member other none)
        | inr is ↦ inl (subst (λ (n : ℕ). IsTrue (contains nat_cmp old.untried n)) is member)
      ]
    ],
    λ h. elim h [
      | inl untried ↦ elim (cases_eq other owner) [
        | inl is ↦ inr (subst (λ (l : List ℕ). Contains l other) (sym alone) (subst (λ (n : ℕ). Contains (owner ∷ []) n) (sym is) (Contains-push [] owner)))
        | inr differs ↦ inl (updates.2 other (is_at-other owner other differs) ∙ untried)
      ]
      | inr among ↦ absurd (no_member other (subst (λ (l : List ℕ). Contains l other) empty among))
    ],
  );
  left = omega (arith, fewer, one);
}
  where
    alone : new.path.items ≡ [] ++ owner ∷ []
    alone = path ∙ ap (λ (l : List ℕ). l ++ owner ∷ []) empty

    no_member : (other : ℕ) → ¬ Contains [] other
    no_member other (k, within, is) = omega (arith, within)

module _ (policy : Policy) (S : State) where
  -- an owner on a cycle waits for one on a cycle
  cycle_on : (owner : ℕ) → IsOnCycle policy S owner → (next : ℕ) × WaitsUncrossed policy S owner next × IsOnCycle policy S next
  cycle_on owner ([], chain) = (owner, chain, ([], chain))
  cycle_on owner (next ∷ through, chain) =
      (next, chain.0, (through ++ owner ∷ [], chain_append (WaitsUncrossed policy S) next through owner [] next chain.1 chain.0))

  abbrev Leads : ℕ → ℕ → Type 0
  Leads one other = (through : List ℕ) × IsChain (WaitsUncrossed policy S) one through other

  -- each on the path is led to the last
  led_to_last : (before : List ℕ) (owner other : ℕ) → AllPairs Leads (before ++ owner ∷ []) → Contains before other → Leads other owner
  led_to_last before owner other pairs (k, within, is) =
      let path = before ++ owner ∷ [] in
      let long : length path ≡ length before + 1 = length-append before (owner ∷ []) in
      let first : get_or path k other ≡ other = get_or_append_left before (owner ∷ []) other k within ∙ is in
      let last : get_or path (length before) other ≡ owner = get_or_push before owner other (length before) refl in
      let led = pairs k (length before) other within (omega (arith, long)) in
      subst (λ (n : ℕ). Leads n owner) first (subst (λ (n : ℕ). Leads (get_or path k other) n) last led)

  -- the path comes to an owner
  pub searched_come : (old new : Search) (owner : ℕ) → IsSearchedInDepth policy S old → ComesTo old new owner → IsSearchedInDepth policy S new
  searched_come old new owner so_far comes = record {
    path = elim comes.begins [
      | inl same ↦ subst (λ (l : List ℕ). AllPairs Leads l) (sym same) so_far.path
      | inr none ↦
          subst (λ (l : List ℕ). AllPairs Leads l) (sym (comes.path ∙ ap (λ (l : List ℕ). l ++ owner ∷ []) none))
          (λ i j d before within. absurd (omega (arith, before, within)))
    ];
    uncrossed = λ other ahead. so_far.uncrossed other ((comes.ahead other).0 ahead);
    others = λ other past. so_far.others other (λ ahead. past ((comes.ahead other).1 ahead));
  }

  module _ (search : Search) (before : List ℕ) (owner : ℕ) (so_far : IsSearchedInDepth policy S search) (path : search.path.items ≡ before ++ owner ∷ []) where
    last_ahead : IsAhead search owner
    last_ahead = inr (subst (λ (l : List ℕ). Contains l owner) (sym path) (Contains-push before owner))

    pairs : AllPairs Leads (before ++ owner ∷ [])
    pairs = subst (λ (l : List ℕ). AllPairs Leads l) path so_far.path

    uncrossed_step : (next : ℕ) → WaitsFor policy S owner next → WaitsUncrossed policy S owner next
    uncrossed_step next step = (step, so_far.uncrossed owner last_ahead)

    -- it waits for one on the path
    pub searched_closed : (next : ℕ) → WaitsFor policy S owner next → Contains search.path.items next → IsOnCycle policy S next
    searched_closed next step among = elim (Contains-push_cases before owner next (subst (λ (l : List ℕ). Contains l next) path among)) [
      | inl earlier ↦
          (let led = led_to_last before owner next pairs earlier in
          (led.0 ++ owner ∷ [], chain_append (WaitsUncrossed policy S) next led.0 owner [] next led.1 (uncrossed_step next step)))
      | inr is ↦ ([], subst (λ (n : ℕ). WaitsUncrossed policy S n next) is (uncrossed_step next step))
    ]

    -- it waits for an untried one, which comes behind it
    pub searched_on : (new : Search) (next : ℕ) → WaitsFor policy S owner next → GoesOn search new next → IsSearchedInDepth policy S new
    searched_on new next step goes = record {
      path =
          subst (λ (l : List ℕ). AllPairs Leads l) (sym goes.path)
          (all_pairs_push Leads search.path.items next so_far.path
          (λ k d within. led_on (get_or search.path.items k d) (k, within, get_or_same k d within)));
      uncrossed = λ other ahead. so_far.uncrossed other ((goes.ahead other).0 ahead);
      others = λ other past. so_far.others other (λ ahead. past ((goes.ahead other).1 ahead));
    }
      where
        get_or_same : (k d : ℕ) → k < length search.path.items → get_or search.path.items k (get_or search.path.items k d) ≡ get_or search.path.items k d
        get_or_same k d within = grind (arith, common_steps)

        led_on : (other : ℕ) → Contains search.path.items other → Leads other next
        led_on other among = elim (Contains-push_cases before owner other (subst (λ (l : List ℕ). Contains l other) path among)) [
          | inl earlier ↦
              (let led = led_to_last before owner other pairs earlier in
              (led.0 ++ owner ∷ [], chain_append (WaitsUncrossed policy S) other led.0 owner [] next led.1 (uncrossed_step next step)))
          | inr is ↦ ([], subst (λ (n : ℕ). WaitsUncrossed policy S n next) is (uncrossed_step next step))
        ]

    -- it waits for none that is ahead, and leaves the path
    pub searched_back : (new : Search) → ((next : ℕ) → WaitsFor policy S owner next → ¬ IsAhead search next) → new.untried ≡ search.untried
        → new.path.items ≡ before → IsSearchedInDepth policy S new
    searched_back new none same left = record {
      path = subst (λ (l : List ℕ). AllPairs Leads l) (sym left) (shorter pairs);
      uncrossed = λ other ahead. so_far.uncrossed other (still other ahead);
      others = λ other past cycle. elim (cases_eq other owner) [
        | inl is ↦
            (let on = cycle_on owner (subst (λ (n : ℕ). IsOnCycle policy S n) is cycle) in
            so_far.others on.0 (none on.0 on.1.0) on.2)
        | inr differs ↦ so_far.others other (λ ahead. past (again other differs ahead)) cycle
      ];
    }
      where
        shorter : AllPairs Leads (before ++ owner ∷ []) → AllPairs Leads before
        shorter all i j d earlier within =
            let long : length (before ++ owner ∷ []) ≡ length before + 1 = length-append before (owner ∷ []) in
            let first = get_or_append_left before (owner ∷ []) d i (omega (arith, earlier, within)) in
            let second = get_or_append_left before (owner ∷ []) d j within in
            subst (λ (n : ℕ). Leads n (get_or before j d)) first
            (subst (λ (n : ℕ). Leads (get_or (before ++ owner ∷ []) i d) n) second (all i j d earlier (omega (arith, long, within))))

        still : (other : ℕ) → IsAhead new other → IsAhead search other
        still other (inl untried) = inl (subst (λ (s : BTreeSet ℕ). IsTrue (contains nat_cmp s other)) same untried)
        still other (inr among) = inr (subst (λ (l : List ℕ). Contains l other) (sym path) (Contains-append_left before (owner ∷ []) other (subst (λ (l : List ℕ). Contains l other) left among)))

        again : (other : ℕ) → other ≢ owner → IsAhead search other → IsAhead new other
        again other differs (inl untried) = inl (subst (λ (s : BTreeSet ℕ). IsTrue (contains nat_cmp s other)) (sym same) untried)
        again other differs (inr among) = elim (Contains-push_cases before owner other (subst (λ (l : List ℕ). Contains l other) path among)) [
          | inl earlier ↦ inr (subst (λ (l : List ℕ). Contains l other) (sym left) earlier)
          | inr is ↦ absurd (differs (sym is))
        ]

  -- none is ahead
  pub searched_through : (search : Search) → IsSearchedInDepth policy S search → ((owner : ℕ) → ¬ IsAhead search owner) → IsFreeOfCycles policy S
  searched_through search so_far none owner cycle = so_far.others owner (none owner) cycle

  -- at first each owner from which a step leads is untried
  pub searched_none : (search : Search) → search.path.items ≡ [] → ((owner : ℕ) → IsTrue (contains nat_cmp search.untried owner) → ¬ IsTrue (S.crossed owner))
      → ((owner next : ℕ) → WaitsUncrossed policy S owner next → IsTrue (contains nat_cmp search.untried owner)) → IsSearchedInDepth policy S search
  searched_none search empty uncrossed waiting = record {
    path = subst (λ (l : List ℕ). AllPairs Leads l) (sym empty) (λ i j d earlier within. absurd (omega (arith, earlier, within)));
    uncrossed = λ owner ahead. elim ahead [
      | inl untried ↦ uncrossed owner untried
      | inr among ↦ absurd (let here = subst (λ (l : List ℕ). Contains l owner) empty among in omega (arith, here.1))
    ];
    others = λ owner past cycle. (let on = cycle_on owner cycle in past (inl (waiting owner on.0 on.1)));
  }

-- whether an owner is on a list, by the test
pub among_found : (xs : List ℕ) (x : ℕ) → Contains xs x → list_any (λ y. y == x) xs ≡ true
among_found xs x (k, within, is) = list_any-from_Any (λ (y : ℕ). y == x) xs (k, x, within, is, eq-eqb x x refl)

pub no_items : (xs : List ℕ) → length xs ≤ 0 → xs ≡ []
no_items [] none = refl
no_items (x ∷ xs) none = absurd (omega (arith, none))

-- an owner with a step has a detected wait, and isn't crossed
pub step_from : (policy : Policy) (table : Table) (owner next : ℕ) → WaitsUncrossed policy (table_state table) owner next
    → (files_of table.waiters owner ≢ []) × (crossed_of table.waiters owner ≡ false)
unfolding table_state
step_from policy table owner next step = (
  elim (step_goes_on policy table (owner + 1) owner next step.0) [ inl is ↦ absurd (omega (arith, is)) | inr some ↦ some ],
  elim (cases_Bool (crossed_of table.waiters owner)) [ inl crossed ↦ absurd (step.1 crossed) | inr none ↦ none ],
)

-- the last owner left the path
pub popped : (old new before : List ℕ) (owner : ℕ) (last : Option ℕ) (n : ℕ) → old ≡ before ++ owner ∷ [] → old ≡ new ++ option_to_list last
    → IsSome last ↔ (0 < n) → n ≡ length old → new ≡ before
popped old new before owner None n is left some count =
    let long = length-append before (owner ∷ []) in
    let same = ap (λ (l : List ℕ). length l) is in
    let there : false ≡ true = some.1 (omega (arith, long, same, count)) in cc
popped old new before owner (Some other) n is left some count = front new before other owner (sym left ∙ is)
  where
    front : (xs ys : List ℕ) (x y : ℕ) → xs ++ x ∷ [] ≡ ys ++ y ∷ [] → xs ≡ ys
    front xs ys x y same =
        let long : length xs ≡ length ys = (let a = length-append xs (x ∷ []) in let b = length-append ys (y ∷ []) in let e = ap (λ (l : List ℕ). length l) same in omega (arith, a, b, e)) in
        sym (take_at xs (x ∷ []) (length xs) refl) ∙ ap (take (length xs)) same ∙ take_at ys (y ∷ []) (length xs) (sym long)
