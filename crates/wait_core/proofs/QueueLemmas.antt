-- Which process stands behind which in the queue, and what a wait more or less makes of that: for `Waits::all_waited_for`, `Waits::leave`,
-- `Waits::push` and `Waits::waited_for`.
use Rattle.wait_core.proofs.Common.{common_steps, ℕ, ◌≡◌, ◌≢◌, ◌≤◌, ◌↔◌, ◌∙◌, ◌⊎◌, inl, inr, sym, ap, subst, refl, arith, Bool, true, false, not, List, [], ◌∷◌, ◌++◌, All, Any, append_assoc, IsTrue, ◌==◌, ◌||◌, if◌then◌else◌, filter, ∥∥₁_elim, cases_eq, cases_Bool, eq-eqb, or_left, or_right, nat_tests, All-nil, All-head, All-tail, All-push, Process, Held, Queue, Wait, ProcessSet, Waits, Locks, IsTraditional, WaitsFor, IsConflictOf, pair_in, TellsQueue, is_member, waits_of, has_pair, AreTold}
use Rattle.std.proofs.lemmas.List.{append-nil}
use Rattle.std.proofs.lemmas.List.Elements.{filter-append}
use Rattle.wait_core.specs.declared.pairs.Pairs.{Pairs}
use Rattle.wait_core.specs.Pairs.{IsBehind, StandsBehind}
use Rattle.wait_core.proofs.AnyLemmas.{Any-filter, Any-unfilter, Any-weaker}
use Rattle.wait_core.proofs.DecideLemmas.{any_or_not, same_or_other, waits_conflict_or_not}
use Rattle.wait_core.proofs.PairLemmas.{keeps_other, other_kept}
use Rattle.wait_core.proofs.ProcessLemmas.{or_cases}

-- whether a wait is one of the process that conflicts
conflict_of_or_not : (q : ℕ) (wait v : Wait) → IsConflictOf q wait v ⊎ ¬ IsConflictOf q wait v
conflict_of_or_not q wait v = grind (arith, common_steps, cases_eq, same_or_other, waits_conflict_or_not)

-- whether a wait is one of the process p behind one of the process q
behind_or_not : (earlier : List Wait) (p q : ℕ) (wait : Wait) → IsBehind earlier p q wait ⊎ ¬ IsBehind earlier p q wait
behind_or_not earlier p q wait = elim (cases_eq wait.p p) [
  | inr differs ↦ inr (λ is. differs is.of_p)
  | inl of_p ↦ elim (same_or_other wait.owner (Process wait.p)) [
    | inr differs ↦ inr (λ is. differs is.traditional)
    | inl own ↦ elim (any_or_not (IsConflictOf q wait) (conflict_of_or_not q wait) earlier) [
      | inr none ↦ inr (λ is. none is.behind)
      | inl behind ↦ inl (record { of_p = of_p; traditional = own; behind = behind })
    ]
  ]
]

stands_or_not : (earlier waits : List Wait) (p q : ℕ) → StandsBehind earlier waits p q ⊎ ¬ StandsBehind earlier waits p q
stands_or_not earlier [] p q = inr (λ none. none)
stands_or_not earlier (wait ∷ waits) p q = elim (behind_or_not earlier p q wait) [
  | inl here ↦ inl (inl here)
  | inr not_here ↦ elim (stands_or_not (earlier ++ wait ∷ []) waits p q) [
    | inl later ↦ inl (inr later)
    | inr none ↦ inr (λ stands. elim stands [ inl here ↦ not_here here | inr later ↦ none later ])
  ]
]

-- rows that are known to tell the queue tell it
pub queue_known : (pairs : Pairs) (waits : List Wait) → ∥ TellsQueue pairs waits ∥₁ → TellsQueue pairs waits
queue_known pairs waits merely = record {
  stands = λ p q p_few q_one q_few. elim (stands_or_not [] waits p q) [
    | inl stands ↦ (
      λ has. stands,
      λ again. elim (cases_Bool (pair_in pairs p q)) [
        | inl has ↦ has
        | inr missing ↦ absurd (∥∥₁_elim merely (λ x y. absurd x) (λ told. (let has = (told.stands p q p_few q_one q_few).1 stands in cc)))
      ],
    )
    | inr none ↦ (
      λ has. absurd (∥∥₁_elim merely (λ x y. absurd x) (λ told. none ((told.stands p q p_few q_one q_few).0 has))),
      λ stands. absurd (none stands),
    )
  ];
}

-- where a wait joins, it may stand behind one, and those before it stand as they did
stands_joined : (earlier waits : List Wait) (wait : Wait) (p q : ℕ) → StandsBehind earlier (waits ++ wait ∷ []) p q
    → StandsBehind earlier waits p q ⊎ IsBehind (earlier ++ waits) p q wait
stands_joined earlier [] wait p q (inl here) = inr (subst (λ (es : List Wait). IsBehind es p q wait) (sym (append-nil earlier)) here)
stands_joined earlier [] wait p q (inr later) = absurd later
stands_joined earlier (v ∷ waits) wait p q (inl here) = inl (inl here)
stands_joined earlier (v ∷ waits) wait p q (inr later) = elim (stands_joined (earlier ++ v ∷ []) waits wait p q later) [
  | inl stands ↦ inl (inr stands)
  | inr last ↦ inr (subst (λ (es : List Wait). IsBehind es p q wait) (append_assoc earlier (v ∷ []) waits) last)
]

-- and the way back
stands_more : (earlier waits : List Wait) (wait : Wait) (p q : ℕ) → StandsBehind earlier waits p q ⊎ IsBehind (earlier ++ waits) p q wait
    → StandsBehind earlier (waits ++ wait ∷ []) p q
stands_more earlier [] wait p q (inl none) = absurd none
stands_more earlier [] wait p q (inr last) = inl (subst (λ (es : List Wait). IsBehind es p q wait) (append-nil earlier) last)
stands_more earlier (v ∷ waits) wait p q (inl (inl here)) = inl here
stands_more earlier (v ∷ waits) wait p q (inl (inr later)) = inr (stands_more (earlier ++ v ∷ []) waits wait p q (inl later))
stands_more earlier (v ∷ waits) wait p q (inr last) =
    inr (stands_more (earlier ++ v ∷ []) waits wait p q (inr (subst (λ (es : List Wait). IsBehind es p q wait) (sym (append_assoc earlier (v ∷ []) waits)) last)))

-- a process without a wait stands behind none
none_stands : (earlier waits : List Wait) (p q : ℕ) → All (λ w. w.p ≢ p) waits → ¬ StandsBehind earlier waits p q
none_stands earlier [] p q none stands = stands
none_stands earlier (v ∷ waits) p q none (inl here) = All-head (λ (w : Wait). w.p ≢ p) v waits none here.of_p
none_stands earlier (v ∷ waits) p q none (inr later) = none_stands (earlier ++ v ∷ []) waits p q (All-tail (λ (w : Wait). w.p ≢ p) v waits none) later

-- one wait more, and its process' row
pub queue_joined : (old new : Pairs) (waits : List Wait) (wait : Wait) (row : ProcessSet) → All (λ w. w.p ≢ wait.p) waits
    → ((q : ℕ) → IsTrue (is_member row q) ↔ IsTraditional wait × Any (IsConflictOf q wait) waits)
    → ((q : ℕ) → pair_in new wait.p q ≡ is_member row q) → ((p q : ℕ) → p ≢ wait.p → pair_in new p q ≡ pair_in old p q)
    → TellsQueue old waits → TellsQueue new (waits ++ wait ∷ [])
queue_joined old new waits wait row none members own others told = grind (arith, common_steps, cases_eq, stands_more, stands_joined, none_stands)

module _ (x p q : ℕ) (p_other : p ≢ x) (q_other : q ≢ x) where
  behind_kept : (earlier : List Wait) (wait : Wait) → IsBehind earlier p q wait → IsBehind (filter (λ w. not (w.p == x)) earlier) p q wait
  behind_kept earlier wait is = record {
    of_p = is.of_p;
    traditional = is.traditional;
    behind = Any-filter (IsConflictOf q wait) (λ w. not (w.p == x)) (λ v conflict. keeps_other v x (λ e. q_other (sym conflict.0 ∙ e))) earlier is.behind;
  }

  behind_back : (earlier : List Wait) (wait : Wait) → IsBehind (filter (λ w. not (w.p == x)) earlier) p q wait → IsBehind earlier p q wait
  behind_back earlier wait is = record {
    of_p = is.of_p;
    traditional = is.traditional;
    behind = Any-weaker (λ v. IsConflictOf q wait v × (not (v.p == x) ≡ true)) (IsConflictOf q wait) (λ v h. h.0) earlier
        (Any-unfilter (IsConflictOf q wait) (λ w. not (w.p == x)) earlier is.behind);
  }

  -- two other processes stand as they did where one leaves
  stands_without : (earlier waits : List Wait)
      → StandsBehind (filter (λ w. not (w.p == x)) earlier) (filter (λ w. not (w.p == x)) waits) p q ↔ StandsBehind earlier waits p q
  stands_without earlier [] = (λ none. none, λ none. none)
  stands_without earlier (wait ∷ waits) =
      let stay : Wait → Bool = λ w. not (w.p == x) in
      let rest = stands_without (earlier ++ wait ∷ []) waits in
      elim (cases_Bool (not (wait.p == x))) [
        | inl kept ↦
            let one : filter stay (wait ∷ []) ≡ wait ∷ [] = rw kept refl in
            let more : filter stay (earlier ++ wait ∷ []) ≡ filter stay earlier ++ wait ∷ [] =
            filter-append stay earlier (wait ∷ []) ∙ ap (λ (l : List Wait). filter stay earlier ++ l) one in
            let whole : filter stay (wait ∷ waits) ≡ wait ∷ filter stay waits = rw kept refl in
            let later = subst (λ (l : List Wait). StandsBehind l (filter stay waits) p q ↔ StandsBehind (earlier ++ wait ∷ []) waits p q) more rest in
            subst (λ (l : List Wait). StandsBehind (filter stay earlier) l p q ↔ StandsBehind earlier (wait ∷ waits) p q) (sym whole) (
              λ stands. elim stands [ inl here ↦ inl (behind_back earlier wait here) | inr there ↦ inr (later.0 there) ],
              λ stands. elim stands [ inl here ↦ inl (behind_kept earlier wait here) | inr there ↦ inr (later.1 there) ],
            )
        | inr gone ↦
            let none : filter stay (wait ∷ []) ≡ [] = rw gone refl in
            let same : filter stay (earlier ++ wait ∷ []) ≡ filter stay earlier =
            filter-append stay earlier (wait ∷ []) ∙ ap (λ (l : List Wait). filter stay earlier ++ l) none ∙ append-nil (filter stay earlier) in
            let whole : filter stay (wait ∷ waits) ≡ filter stay waits = rw gone refl in
            let later = subst (λ (l : List Wait). StandsBehind l (filter stay waits) p q ↔ StandsBehind (earlier ++ wait ∷ []) waits p q) same rest in
            subst (λ (l : List Wait). StandsBehind (filter stay earlier) l p q ↔ StandsBehind earlier (wait ∷ waits) p q) (sym whole) (
              λ stands. inr (later.0 stands),
              λ stands. elim stands [
                | inl here ↦ absurd (let stays = keeps_other wait x (λ e. p_other (sym here.of_p ∙ e)) in cc)
                | inr there ↦ later.1 there
              ],
            )
      ]

-- who left stands behind none
none_of_left : (x q : ℕ) (earlier waits : List Wait) → ¬ StandsBehind earlier (filter (λ w. not (w.p == x)) waits) x q
none_of_left x q earlier [] stands = stands
none_of_left x q earlier (wait ∷ waits) stands =
    let stay : Wait → Bool = λ w. not (w.p == x) in
    elim (cases_Bool (not (wait.p == x))) [
      | inl kept ↦
          let whole : filter stay (wait ∷ waits) ≡ wait ∷ filter stay waits = rw kept refl in
          elim (subst (λ (l : List Wait). StandsBehind earlier l x q) whole stands) [
            | inl here ↦ other_kept wait x kept here.of_p
            | inr there ↦ none_of_left x q (earlier ++ wait ∷ []) waits there
          ]
      | inr gone ↦
          let whole : filter stay (wait ∷ waits) ≡ filter stay waits = rw gone refl in
          none_of_left x q earlier waits (subst (λ (l : List Wait). StandsBehind earlier l x q) whole stands)
    ]

-- and none stands behind it
none_behind_left : (x p : ℕ) (earlier waits : List Wait) → All (λ v. v.p ≢ x) earlier → ¬ StandsBehind earlier (filter (λ w. not (w.p == x)) waits) p x
none_behind_left x p earlier [] none stands = stands
none_behind_left x p earlier (wait ∷ waits) none stands =
    let stay : Wait → Bool = λ w. not (w.p == x) in
    elim (cases_Bool (not (wait.p == x))) [
      | inl kept ↦
          let whole : filter stay (wait ∷ waits) ≡ wait ∷ filter stay waits = rw kept refl in
          elim (subst (λ (l : List Wait). StandsBehind earlier l p x) whole stands) [
            | inl here ↦ (let (k, v, within, is, conflict) = here.behind in none k v within (ap (λ (w : Wait). w.p) is ∙ conflict.0))
            | inr there ↦ none_behind_left x p (earlier ++ wait ∷ []) waits (All-push (λ (v : Wait). v.p ≢ x) earlier wait none (other_kept wait x kept)) there
          ]
      | inr gone ↦
          let whole : filter stay (wait ∷ waits) ≡ filter stay waits = rw gone refl in
          none_behind_left x p earlier waits none (subst (λ (l : List Wait). StandsBehind earlier l p x) whole stands)
    ]

-- one wait less, its process' row forgotten, and its place in the others' rows
pub queue_left : (old middle new : Pairs) (x : ℕ) (waits rest : List Wait) → rest ≡ filter (λ w. not (w.p == x)) waits
    → ((q : ℕ) → ¬ IsTrue (pair_in middle x q)) → ((p q : ℕ) → p ≢ x → pair_in middle p q ≡ pair_in old p q)
    → ((p q : ℕ) → 1 ≤ q → q ≤ 64 → pair_in new p q ≡ (if q == x then false else pair_in middle p q)) → TellsQueue old waits → TellsQueue new rest
queue_left old middle new x waits rest is forgotten others cleared told = record {
  stands = λ p q p_few q_one q_few.
      let stay : Wait → Bool = λ w. not (w.p == x) in
      subst (λ (l : List Wait). IsTrue (pair_in new p q) ↔ StandsBehind [] l p q) (sym is) (elim (cases_eq q x) [
        | inl q_same ↦ (
          λ has. absurd (let here : (q == x) ≡ true = eq-eqb q x q_same in let no : pair_in new p q ≡ false = cleared p q q_one q_few ∙ rw here refl in cc),
          λ stands. absurd (none_behind_left x p [] waits (All-nil (λ (v : Wait). v.p ≢ x)) (subst (λ (n : ℕ). StandsBehind [] (filter stay waits) p n) q_same stands)),
        )
        | inr q_other ↦
            let no : (q == x) ≡ false = grind (arith, nat_tests) in
            let same : pair_in new p q ≡ pair_in middle p q = cleared p q q_one q_few ∙ rw no refl in
            elim (cases_eq p x) [
              | inl p_same ↦ (
                λ has. absurd (forgotten q (subst (λ (n : ℕ). IsTrue (pair_in middle n q)) p_same (sym same ∙ has))),
                λ stands. absurd (none_of_left x q [] waits (subst (λ (n : ℕ). StandsBehind [] (filter stay waits) n q) p_same stands)),
              )
              | inr p_other ↦
                  let both = stands_without x p q p_other q_other [] waits in
                  let still : pair_in new p q ≡ pair_in old p q = same ∙ others p q p_other in (
                    λ has. both.1 ((told.stands p q p_few q_one q_few).0 (sym still ∙ has)),
                    λ stands. still ∙ (told.stands p q p_few q_one q_few).1 (both.0 stands),
                  )
            ]
      ]);
}

-- who stands behind waits, under the queue policy
stands_for : (locks : Locks) (earlier waits : List Wait) (p q : ℕ) → StandsBehind earlier waits p q → WaitsFor Queue locks (earlier ++ waits) p q
stands_for locks earlier [] p q none = absurd none
stands_for locks earlier (wait ∷ waits) p q (inl here) = record {
  before = earlier;
  wait = wait;
  after = waits;
  place = refl;
  detected = here.traditional;
  of_one = here.of_p;
  blocked = inr here.behind;
}
stands_for locks earlier (wait ∷ waits) p q (inr later) =
    subst (λ (l : List Wait). WaitsFor Queue locks l p q) (append_assoc earlier (wait ∷ []) waits) (stands_for locks (earlier ++ wait ∷ []) waits p q later)

-- and the way back, by the wait's place
stands_at : (earlier before : List Wait) (wait : Wait) (after : List Wait) (p q : ℕ) → IsBehind (earlier ++ before) p q wait
    → StandsBehind earlier (before ++ wait ∷ after) p q
stands_at earlier [] wait after p q is = inl (subst (λ (es : List Wait). IsBehind es p q wait) (append-nil earlier) is)
stands_at earlier (v ∷ before) wait after p q is =
    inr (stands_at (earlier ++ v ∷ []) before wait after p q (subst (λ (es : List Wait). IsBehind es p q wait) (sym (append_assoc earlier (v ∷ []) before)) is))

-- under the queue policy a process waits by a lock or behind a wait
waits_in_queue : (locks : Locks) (waits : List Wait) (p q : ℕ) → WaitsFor Held locks waits p q ⊎ StandsBehind [] waits p q → WaitsFor Queue locks waits p q
waits_in_queue locks waits p q (inl for) = record {
  before = for.before;
  wait = for.wait;
  after = for.after;
  place = for.place;
  detected = for.detected;
  of_one = for.of_one;
  blocked = inl for.blocked;
}
waits_in_queue locks waits p q (inr stands) = stands_for locks [] waits p q stands

pub queue_cases : (locks : Locks) (waits : List Wait) (p q : ℕ) → WaitsFor Queue locks waits p q → WaitsFor Held locks waits p q ⊎ StandsBehind [] waits p q
queue_cases locks waits p q for = grind (arith, common_steps, stands_at)

-- as it is told
pub told_in_queue : (waits : Waits) (locks : Locks) (p q : ℕ) (behind : Bool) → p ≤ 64 → 1 ≤ q → q ≤ 64
    → IsTrue behind ↔ StandsBehind [] (waits_of waits) p q → AreTold waits locks
    → IsTrue (has_pair waits p q || behind) ↔ WaitsFor Queue locks (waits_of waits) p q
told_in_queue waits locks p q behind p_few q_one q_few list told = grind (arith, common_steps, or_cases, waits_in_queue, queue_cases, or_left, or_right)
