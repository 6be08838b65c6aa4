-- The shortest cycle that a wait would close: for `cycle_of`.
use Rattle.script_core.proofs.Common.{common_steps, ℕ, zero, suc, ◌≡◌, ◌+◌, ◌-◌, ◌<◌, ◌≤◌, ◌⊎◌, inl, inr, Bool, true, false, not, Option, Some, List, [], ◌∷◌, ◌++◌, Any, length, get_or, set, take, drop, refl, sym, ap, subst, ◌∙◌, arith, is_some, IsFalse, IsTrue, MatchOption, slice_get, drop-cons, take-append-drop, length-take, cases_lt, get_or_from_slice_get, slice_get-get_or, slice_get_within}
use Rattle.script_core.proofs.Common.{Held, Policy, Wait, IsTraditional, InTheWay, Link, Wanted, IsLockAgainst, IsWaitAgainst, IsCycle, TellsCycleIfAny, LeadsInReport}
use Rattle.std.proofs.Common.{replicate, count_by}
use Rattle.std.proofs.Math.Seq.{get_or-append_seam}
use Rattle.std.proofs.lemmas.List.{get_or-take, get_or-set_other, get_or-set_same, get_or_past, get_or-replicate, length-replicate, length-set, get_or_append_left, length-append}
use Rattle.std.proofs.lemmas.List.Sums.{sum_by-set}
use Rattle.wait_core.specs.declared.Policy.TheVariants as policies
use Rattle.wait_core.specs.Cycles.{IsChain}
use Rattle.lock_manager.specs.declared.request.InTheWay.TheVariants as obstacles
use Rattle.lock_manager.specs.Asking.{IsFirstOf}
use Rattle.script_core.specs.declared.deadlock.Start.{Start}
use Rattle.script_core.specs.declared.deadlock.Start.TheVariants.{Waiting}
use Rattle.script_core.specs.Deadlocks.{IsBlockedInReport, IsStepTo, IsLink, AreLinks, IsLess, WaitsInReport, IsLeastLink, IsNear, IsLayer, LeadsNear, IsTight, IsLayersTo}

-- an item of which it holds is the first, where it holds of none before it
pub first_at : {X : Type 0} (Holds : X → Type 0) (xs : List X) (i : ℕ) (x : X) → i < length xs
    → ((k : ℕ) (d : X) → k < i → ¬ Holds (get_or xs k d)) → Holds (get_or xs i x) → IsFirstOf Holds xs (get_or xs i x)
first_at Holds xs i x within none holds = record {
  before = take i xs;
  after = drop (suc i) xs;
  place = sym (take-append-drop i xs) ∙ ap (λ (l : List _). take i xs ++ l) (drop-cons xs i x within);
  holds = holds;
  none = grind (arith, common_steps, length-take, get_or-take);
}

-- of the first it holds
pub first_any : {X : Type 0} (P : X → Type 0) (xs : List X) (x : X) → IsFirstOf P xs x → Any P xs
first_any P xs x h =
    let whole = ap length h.place in
    let sum = length-append h.before (x ∷ h.after) in
    (length h.before, x, omega arith, ap (λ (l : List _). get_or l (length h.before) x) h.place ∙ get_or-append_seam h.before x h.after x, h.holds)

-- what makes a step blocks the wait
step_blocks : (policy : Policy) (report : List Held) (earlier : List Wait) (wait : Wait) (q : ℕ) (by : InTheWay) → IsStepTo policy report earlier wait q by
    → IsBlockedInReport policy report earlier wait q
step_blocks policies.Held report earlier wait q (obstacles.Lock held) first = first_any (IsLockAgainst q wait) report held first
step_blocks policies.Queue report earlier wait q (obstacles.Lock held) first = inl (first_any (IsLockAgainst q wait) report held first)
step_blocks policies.Held report earlier wait q (obstacles.Wait other) h = absurd (let no = h.0 in cc)
step_blocks policies.Queue report earlier wait q (obstacles.Wait other) h = inr (first_any (IsWaitAgainst q wait) earlier other h.2)

-- a link tells a step
pub link_leads : (policy : Policy) (report : List Held) (waits : List Wait) (start : Start) (link : Link) → IsLink policy report waits start link
    → LeadsInReport policy report waits start link.process
link_leads policy report waits start link h = grind (arith, common_steps, step_blocks)

-- no traditional wait is blocked by its own process
own_free : (policy : Policy) (report : List Held) (waits : List Wait) (wait : Wait) → IsTraditional wait → ¬ IsBlockedInReport policy report waits wait wait.p
own_free policy report waits wait h h2 = grind (arith, common_steps)

-- more steps lead no fewer
near_more : (R : ℕ → ℕ → Type 0) (a q d k : ℕ) → IsNear R a k q → IsNear R a (d + k) q
near_more R a q zero k h = let same : k ≡ 0 + k = omega arith in subst (λ (n : ℕ). IsNear R a n q) same h
near_more R a q (suc d) k h = let same : suc (d + k) ≡ suc d + k = omega arith in subst (λ (n : ℕ). IsNear R a n q) same (inl (near_more R a q d k h))

near_up : (R : ℕ → ℕ → Type 0) (a q k n : ℕ) → k ≤ n → IsNear R a k q → IsNear R a n q
near_up R a q k n le h = let same : n - k + k ≡ n = omega arith in subst (λ (m : ℕ). IsNear R a m q) same (near_more R a q (n - k) k h)

-- a chain has its steps
chain_near : (R : ℕ → ℕ → Type 0) (a p : ℕ) (through : List ℕ) → IsChain R p through a → IsNear R a (suc (length through)) p
chain_near R a p [] step = inr (a, step, refl)
chain_near R a p (next ∷ through) chain = inr (next, chain.0, chain_near R a next through chain.1)

-- from a closed set no chain leads in that doesn't begin in it
closed_chain : (R : ℕ → ℕ → Type 0) (In : ℕ → Type 0) (a : ℕ) → In a → ((p q : ℕ) → R p q → In q → In p) → (p : ℕ) (through : List ℕ)
    → IsChain R p through a → In p
closed_chain R In a here closed p [] step = closed p a step here
closed_chain R In a here closed p (next ∷ through) chain = closed p next chain.0 (closed_chain R In a here closed next through chain.1)

-- the link tells a step that goes as near as it can, to the least process
pub record IsNextLink (policy : Policy) (report : List Held) (waits : List Wait) (a k : ℕ) (start : Start) (link : Link) : Type 0 where
  pub is_link : IsLink policy report waits start link
  pub near : IsNear (WaitsInReport policy report waits) a k link.process
  pub least : (q : ℕ) → LeadsInReport policy report waits start q → IsNear (WaitsInReport policy report waits) a k q → link.process ≤ q

-- the links lead on from there, where so many sets were left, to here, where so many are
abbrev pub GoOn : Policy → List Held → List Wait → ℕ → ℕ → Start → List Link → Start → ℕ → Type 0
GoOn policy report waits a i start [] end j = (start ≡ end) × (i ≡ j)
GoOn policy report waits a i start (link ∷ links) end j =
    (m : ℕ) × (i ≡ suc m) × IsNextLink policy report waits a m start link × GoOn policy report waits a m (Waiting link.process) links end j

-- one link more
go_on : (policy : Policy) (report : List Held) (waits : List Wait) (a i : ℕ) (start : Start) (links : List Link) (end : Start) (j : ℕ) (link : Link)
    → GoOn policy report waits a i start links end (suc j) → IsNextLink policy report waits a j end link
    → GoOn policy report waits a i start (links ++ link ∷ []) (Waiting link.process) j
go_on policy report waits a i start [] end j link h next = grind (arith, common_steps)
go_on policy report waits a i start (first ∷ links) end j link h next =
    (h.0, h.1, h.2, go_on policy report waits a h.0 (Waiting first.process) links end j link h.3 next)

-- what the links tell from a process that waits on
pub record TellOn (policy : Policy) (report : List Held) (waits : List Wait) (a i p : ℕ) (links : List Link) : Type 0 where
  pub through : List ℕ
  pub chain : IsChain (WaitsInReport policy report waits) p through a
  pub long : suc (length through) ≡ i
  pub told : AreLinks policy report waits (Waiting p) (through ++ a ∷ []) links
  pub least : (by : List ℕ) → IsChain (WaitsInReport policy report waits) p by a → length by ≡ length through → ¬ IsLess by through

tell_on : (policy : Policy) (report : List Held) (waits : List Wait) (a i p : ℕ) (links : List Link) (end : Start)
    → GoOn policy report waits a (suc i) (Waiting p) links end zero → TellOn policy report waits a (suc i) p links
tell_on policy report waits a i p [] end h = absurd (let no = h.1 in omega (arith, no))
tell_on policy report waits a i p (link ∷ []) end (m, is, next, (last, none)) =
    let same : link.process ≡ a = subst (λ (k : ℕ). IsNear (WaitsInReport policy report waits) a k link.process) none next.near in
    record {
      through = [];
      chain = subst (WaitsInReport policy report waits p) same (link_leads policy report waits (Waiting p) link next.is_link);
      long = ap (λ (k : ℕ). suc k) (sym none) ∙ sym is;
      told = (link, [], refl, same, next.is_link, refl);
      least = nothing_less;
    }
  where
    nothing_less : (by : List ℕ) → IsChain (WaitsInReport policy report waits) p by a → length by ≡ 0 → ¬ IsLess by []
    nothing_less [] chain long less = less
    nothing_less (q ∷ by) chain long less = less
tell_on policy report waits a i p (link ∷ second ∷ links) end (zero, is, next, rest) = absurd (let no = rest.1 in omega (arith, no))
tell_on policy report waits a i p (link ∷ second ∷ links) end (suc m, is, next, rest) =
    let R = WaitsInReport policy report waits in
    let behind = tell_on policy report waits a m link.process (second ∷ links) end rest in
    record {
      through = link.process ∷ behind.through;
      chain = (link_leads policy report waits (Waiting p) link next.is_link, behind.chain);
      long = ap (λ (k : ℕ). suc k) behind.long ∙ sym is;
      told = (link, second ∷ links, refl, refl, next.is_link, behind.told);
      least = least_on behind next;
    }
  where
    least_on : (behind : TellOn policy report waits a (suc m) link.process (second ∷ links)) → IsNextLink policy report waits a (suc m) (Waiting p) link
        → (by : List ℕ) → IsChain (WaitsInReport policy report waits) p by a → length by ≡ suc (length behind.through)
        → ¬ IsLess by (link.process ∷ behind.through)
    least_on behind next [] chain long less = less
    least_on behind next (q ∷ by) chain long (inl less) =
        let near = chain_near (WaitsInReport policy report waits) a q by chain.1 in
        let count : suc (length by) ≤ suc m = let e = behind.long in omega arith in
        let le = next.least q chain.0 (near_up (WaitsInReport policy report waits) a q (suc (length by)) (suc m) count near) in
        omega (arith, le, less)
    least_on behind next (q ∷ by) chain long (inr (same, less)) =
        let count : length by ≡ length behind.through = omega arith in
        behind.least by (subst (λ (n : ℕ). IsChain (WaitsInReport policy report waits) n by a) same chain.1) count less

-- the links that were made, with the sets that are left: each leads as near as it can, and from where they end a step leads into the
-- last set that is left, and none into one before
pub record HaveGoneOn (policy : Policy) (report : List Held) (waits : List Wait) (wait : Wait) (layers : List (List Bool))
    (links : List Link) (start : Start) : Type 0 where
  pub last : ℕ
  pub each : (k : ℕ) (layer : List Bool) → slice_get layers k ≡ Some layer → IsLayer (WaitsInReport policy report waits) wait.p k layer
  pub go_on : GoOn policy report waits wait.p (suc last) (Wanted wait) links start (length layers)
  pub tight : (k : ℕ) → length layers ≡ suc k → IsTight (LeadsInReport policy report waits start) (WaitsInReport policy report waits) wait.p k
  pub first : IsTight (LeadsInReport policy report waits (Wanted wait)) (WaitsInReport policy report waits) wait.p last

-- a step leads into the last set, so there is a link
pub never_none : (policy : Policy) (report : List Held) (waits : List Wait) (a k : ℕ) (start : Start) (layer : List Bool)
    → IsLayer (WaitsInReport policy report waits) a k layer → IsTight (LeadsInReport policy report waits start) (WaitsInReport policy report waits) a k
    → ¬ ((q : ℕ) → LeadsInReport policy report waits start q → IsFalse (get_or layer q false))
never_none policy report waits a k start layer is tight none = grind (arith, common_steps)

next_tight : (policy : Policy) (report : List Held) (waits : List Wait) (a k : ℕ) (start : Start) (q : ℕ) → LeadsInReport policy report waits start q
    → IsTight (LeadsInReport policy report waits start) (WaitsInReport policy report waits) a (suc k) → IsNear (WaitsInReport policy report waits) a (suc k) q
    → IsTight (WaitsInReport policy report waits q) (WaitsInReport policy report waits) a k
next_tight policy report waits a k start q leads tight (inl nearer) = absurd (tight.1 (q, leads, nearer))
next_tight policy report waits a zero start q leads tight (inr next) = next
next_tight policy report waits a (suc k) start q leads tight (inr next) = (next, λ nearer. tight.1 (q, leads, inr nearer))

next_of : (policy : Policy) (report : List Held) (waits : List Wait) (a k : ℕ) (start : Start) (layer : List Bool) (link : Link)
    → IsLayer (WaitsInReport policy report waits) a k layer → IsLeastLink policy report waits start layer link → IsNextLink policy report waits a k start link
next_of policy report waits a k start layer link is least = grind (arith, common_steps)

-- the last of the sets
last_at : (rest : List (List Bool)) (layer : List Bool) (layers : List (List Bool)) → layers ≡ rest ++ layer ∷ []
    → slice_get layers (length rest) ≡ Some layer
last_at rest layer layers is =
    let sum = length-append rest (layer ∷ []) in
    let whole = ap length is in
    let within : length rest < length layers = omega arith in
    slice_get-get_or layers (length rest) layer within
    ∙ ap (λ (x : List Bool). Some x) (ap (λ (l : List (List Bool)). get_or l (length rest) layer) is ∙ get_or-append_seam rest layer [] layer)

pub none_left : (policy : Policy) (report : List Held) (waits : List Wait) (wait : Wait) (layers rest : List (List Bool)) (layer : List Bool)
    → (links : List Link) (start : Start)
    → HaveGoneOn policy report waits wait layers links start → layers ≡ rest ++ layer ∷ []
    → ¬ ((q : ℕ) → LeadsInReport policy report waits start q → IsFalse (get_or layer q false))
none_left policy report waits wait layers rest layer links start h is none =
    let count : length layers ≡ suc (length rest) = let sum = length-append rest (layer ∷ []) in let whole = ap length is in omega arith in
    never_none policy report waits wait.p (length rest) start layer (h.each (length rest) layer (last_at rest layer layers is)) (h.tight (length rest) count) none

-- one link more
pub gone_more : (policy : Policy) (report : List Held) (waits : List Wait) (wait : Wait) (layers rest : List (List Bool)) (layer : List Bool)
    → (links : List Link) (start : Start) (link : Link)
    → HaveGoneOn policy report waits wait layers links start → layers ≡ rest ++ layer ∷ [] → IsLeastLink policy report waits start layer link
    → HaveGoneOn policy report waits wait rest (links ++ link ∷ []) (Waiting link.process)
gone_more policy report waits wait layers rest layer links start link h is least =
    let R = WaitsInReport policy report waits in
    let count : length layers ≡ suc (length rest) = let sum = length-append rest (layer ∷ []) in let whole = ap length is in omega arith in
    let here : IsLayer R wait.p (length rest) layer = h.each (length rest) layer (last_at rest layer layers is) in
    let next = next_of policy report waits wait.p (length rest) start layer link here least in
    record {
      last = h.last;
      each = λ k other at. h.each k other (front_at rest layer layers is k other at);
      go_on = grind (arith, common_steps, go_on);
      tight = λ k fewer.
          next_tight policy report waits wait.p k start link.process (link_leads policy report waits start link least.is_link)
          (subst (IsTight (LeadsInReport policy report waits start) R wait.p) fewer (h.tight (length rest) count))
          (subst (λ (n : ℕ). IsNear R wait.p n link.process) fewer next.near);
      first = h.first;
    }
  where
    front_at : (rest : List (List Bool)) (layer : List Bool) (layers : List (List Bool)) → layers ≡ rest ++ layer ∷ [] → (k : ℕ) (other : List Bool)
        → slice_get rest k ≡ Some other → slice_get layers k ≡ Some other
    front_at rest layer layers is k other at =
        let within : k < length rest = slice_get_within rest k other at in
        let sum = length-append rest (layer ∷ []) in
        let whole = ap length is in
        let longer : k < length layers = omega arith in
        slice_get-get_or layers k other longer
        ∙ ap (λ (x : List Bool). Some x) (ap (λ (l : List (List Bool)). get_or l k other) is ∙ get_or_append_left rest (layer ∷ []) other k within ∙ get_or_from_slice_get rest k other other at)

-- what all of them tell
pub all_told : (policy : Policy) (report : List Held) (waits : List Wait) (wait : Wait) (layers : List (List Bool)) (links : List Link) (start : Start)
    → IsTraditional wait
    → HaveGoneOn policy report waits wait layers links start → length layers ≡ 0 → TellsCycleIfAny policy report waits wait links
all_told policy report waits wait layers links start own h empty =
    by_links links h.last (subst (GoOn policy report waits wait.p (suc h.last) (Wanted wait) links start) empty h.go_on) h.first
  where
    by_links : (links : List Link) (last : ℕ) → GoOn policy report waits wait.p (suc last) (Wanted wait) links start zero
        → IsTight (LeadsInReport policy report waits (Wanted wait)) (WaitsInReport policy report waits) wait.p last
        → TellsCycleIfAny policy report waits wait links
    by_links [] last goes tight = absurd (let no = goes.1 in omega (arith, no))
    by_links (link ∷ links) zero (m, is, next, rest) tight = grind (arith, common_steps, own_free, link_leads)
    by_links (link ∷ links) (suc last) (m, is, next, rest) tight =
        let count : m ≡ suc last = omega (arith, is) in
        let goes = subst (λ (k : ℕ). GoOn policy report waits wait.p k (Waiting link.process) links start zero) count rest in
        let behind = tell_on policy report waits wait.p last link.process links start goes in
        let near = subst (λ (k : ℕ). IsNextLink policy report waits wait.p k (Wanted wait) link) count next in
        record {
          blocker = link.process;
          through = behind.through;
          closes = (link_leads policy report waits (Wanted wait) link next.is_link, behind.chain);
          shortest = no_shorter link links last behind tight;
          least = least_of link links last behind near;
          told = (link, links, refl, refl, next.is_link, behind.told);
        }
      where
        no_shorter : (link : Link) (links : List Link) (last : ℕ) → (behind : TellOn policy report waits wait.p (suc last) link.process links)
            → IsTight (LeadsInReport policy report waits (Wanted wait)) (WaitsInReport policy report waits) wait.p (suc last)
            → (other : ℕ) (by : List ℕ) → IsCycle (LeadsInReport policy report waits (Wanted wait)) (WaitsInReport policy report waits) wait.p other by
            → length behind.through ≤ length by
        no_shorter link links last behind tight other by cycle =
            elim (cases_lt (length by) (length behind.through)) [
              | inl shorter ↦
                  let count : suc (length by) ≤ last = let e = behind.long in omega arith in
                  absurd (tight.1 (
                    other,
                    cycle.0,
                    near_up (WaitsInReport policy report waits) wait.p other (suc (length by)) last count
                        (chain_near (WaitsInReport policy report waits) wait.p other by cycle.1),
                  ))
              | inr le ↦ le
            ]

        least_of : (link : Link) (links : List Link) (last : ℕ) → (behind : TellOn policy report waits wait.p (suc last) link.process links)
            → IsNextLink policy report waits wait.p (suc last) (Wanted wait) link
            → (other : ℕ) (by : List ℕ) → IsCycle (LeadsInReport policy report waits (Wanted wait)) (WaitsInReport policy report waits) wait.p other by
            → length by ≡ length behind.through → ¬ IsLess (other ∷ by) (link.process ∷ behind.through)
        least_of link links last behind near other by cycle long (inl less) =
            let R = WaitsInReport policy report waits in
            let close = chain_near R wait.p other by cycle.1 in
            let count : suc (length by) ≤ suc last = let e = behind.long in omega arith in
            let le = near.least other cycle.0 (near_up R wait.p other (suc (length by)) (suc last) count close) in
            omega (arith, le, less)
        least_of link links last behind near other by cycle long (inr (same, less)) = grind (arith, common_steps)

-- one more place is false no longer
pub fewer_left : (xs : List Bool) (i : ℕ) → i < length xs → get_or xs i false ≡ false → count_by not (set xs i true) < count_by not xs
fewer_left xs i within none = grind (arith, common_steps, sum_by-set)

some_one : {x y : Wait} → Some x ≡ Some y → x ≡ y
some_one e = cc

-- the set so far, once so many waits were looked at: it has what the layer has and only what waits for one of it besides, and each
-- process of these waits that does; where it has grown, fewer processes are left
pub record HasGrown (policy : Policy) (report : List Held) (waits : List Wait) (layer next : List Bool) (index : ℕ) (has_grown : Bool) : Type 0 where
  pub sound : (p : ℕ) → IsTrue (get_or next p false)
      → IsTrue (get_or layer p false) ⊎ ((q : ℕ) × WaitsInReport policy report waits p q × IsTrue (get_or layer q false))
  pub kept : (p : ℕ) → IsTrue (get_or layer p false) → IsTrue (get_or next p false)
  pub covered : (place : ℕ) (wait : Wait) → place < index → slice_get waits place ≡ Some wait → (q : ℕ) → WaitsInReport policy report waits wait.p q
      → IsTrue (get_or layer q false) → IsTrue (get_or next wait.p false)
  pub same : has_grown ≡ false → next ≡ layer
  pub fewer : has_grown ≡ true → count_by not next < count_by not layer
  pub bounded : count_by not next ≤ count_by not layer
  pub long : length next ≡ length layer

-- the next wait, whose process joins the set
pub process_joins : (policy : Policy) (report : List Held) (waits : List Wait) (layer next after : List Bool) (index : ℕ)
    → (has_grown grown : Bool) (d : Wait) (p : ℕ)
    → HasGrown policy report waits layer next index has_grown → index < length waits → p < length layer → p ≡ (get_or waits index d).p
    → get_or next p false ≡ false
    → (q : ℕ) × WaitsInReport policy report waits (get_or waits index d).p q × IsTrue (get_or layer q false) → after ≡ set next p true → grown ≡ true
    → HasGrown policy report waits layer after (index + 1) grown
process_joins policy report waits layer next after index has_grown grown d p h within few same none leads is grows =
    grind (arith, common_steps, fewer_left, length-set, get_or-set_same, get_or-set_other, cases_lt, some_one, slice_get-get_or)

-- the next wait, whose process doesn't
pub process_stays : (policy : Policy) (report : List Held) (waits : List Wait) (layer next after : List Bool) (index : ℕ)
    → (has_grown grown : Bool) (d : Wait) (p : ℕ)
    → HasGrown policy report waits layer next index has_grown → index < length waits → p ≡ (get_or waits index d).p
    → (get_or next p false ≡ true) ⊎ ((q : ℕ) → WaitsInReport policy report waits (get_or waits index d).p q → IsFalse (get_or layer q false))
    → after ≡ next → grown ≡ has_grown → HasGrown policy report waits layer after (index + 1) grown
process_stays policy report waits layer next after index has_grown grown d p h within same why is grows =
    grind (arith, common_steps, cases_lt, some_one, slice_get-get_or)

-- each process that waits for one of the layer is in the set
pub all_covered : (policy : Policy) (report : List Held) (waits : List Wait) (layer next : List Bool) (index : ℕ) (has_grown : Bool)
    → HasGrown policy report waits layer next index has_grown → length waits ≤ index → (p q : ℕ) → WaitsInReport policy report waits p q
    → IsTrue (get_or layer q false) → IsTrue (get_or next p false)
all_covered policy report waits layer next index has_grown h h2 p q h3 h4 = grind (arith, common_steps, slice_get_within)

-- the set of one process
pub only_one : (n p q : ℕ) → p < n
    → (IsTrue (get_or (set (replicate n false) p true) q false) → q ≡ p) × (q ≡ p → IsTrue (get_or (set (replicate n false) p true) q false))
only_one n p q within = grind (arith, common_steps, get_or-set_same, length-replicate, cases_lt, get_or-replicate, get_or_past, get_or-set_other)

-- the sets so far, of which this is the last: no step leads into one before it
pub record AreLayersSoFar (policy : Policy) (report : List Held) (waits : List Wait) (wait : Wait) (layers : List (List Bool)) (layer : List Bool)
    : Type 0 where
  pub last : ℕ
  pub count : length layers ≡ suc last
  pub each : (k : ℕ) (one : List Bool) → slice_get layers k ≡ Some one → IsLayer (WaitsInReport policy report waits) wait.p k one
  pub here : IsLayer (WaitsInReport policy report waits) wait.p last layer
  pub none : (k : ℕ) → last ≡ suc k → ¬ LeadsNear (LeadsInReport policy report waits (Wanted wait)) (WaitsInReport policy report waits) wait.p k

-- a set more, where no step leads into the last
pub layers_more : (policy : Policy) (report : List Held) (waits : List Wait) (wait : Wait) (layers after : List (List Bool)) (layer next : List Bool)
    → AreLayersSoFar policy report waits wait layers layer
    → ((q : ℕ) → LeadsInReport policy report waits (Wanted wait) q → IsFalse (get_or layer q false))
    → ((p : ℕ) → (IsTrue (get_or next p false)
    → IsTrue (get_or layer p false) ⊎ ((q : ℕ) × WaitsInReport policy report waits p q × IsTrue (get_or layer q false)))
    × (IsTrue (get_or layer p false) ⊎ ((q : ℕ) × WaitsInReport policy report waits p q × IsTrue (get_or layer q false)) → IsTrue (get_or next p false)))
    → after ≡ layers ++ next ∷ [] → AreLayersSoFar policy report waits wait after next
layers_more policy report waits wait layers after layer next h none members is = record {
  last = suc h.last;
  count = let sum = length-append layers (next ∷ []) in let whole = ap length is in let e = h.count in omega arith;
  each = each_of;
  here = here_of;
  none = grind (arith, common_steps);
}
  where
    layer_one : {x y : List Bool} → Some x ≡ Some y → x ≡ y
    layer_one e = cc

    here_of : IsLayer (WaitsInReport policy report waits) wait.p (suc h.last) next
    here_of q = (
      λ is_in. elim ((members q).0 is_in) [
        | inl old ↦ inl ((h.here q).0 old)
        | inr new ↦ inr (new.0, new.1, (h.here new.0).0 new.2)
      ],
      λ near. elim near [
        | inl old ↦ (members q).1 (inl ((h.here q).1 old))
        | inr new ↦ (members q).1 (inr (new.0, new.1, (h.here new.0).1 new.2))
      ],
    )

    each_of : (k : ℕ) (one : List Bool) → slice_get after k ≡ Some one → IsLayer (WaitsInReport policy report waits) wait.p k one
    each_of k one at =
        let within : k < length after = slice_get_within after k one at in
        let sum = length-append layers (next ∷ []) in
        let whole = ap length is in
        let found : get_or (layers ++ next ∷ []) k one ≡ one = ap (λ (l : List (List Bool)). get_or l k one) (sym is) ∙ get_or_from_slice_get after k one one at in
        elim (cases_lt k (length layers)) [
          | inl below ↦
              h.each k one (slice_get-get_or layers k one below ∙ ap (λ (x : List Bool). Some x) (sym (get_or_append_left layers (next ∷ []) one k below) ∙ found))
          | inr from ↦
              let now : length layers ≡ k = omega arith in
              let same : next ≡ one = sym (get_or-append_seam layers next [] one) ∙ ap (λ (n : ℕ). get_or (layers ++ next ∷ []) n one) now ∙ found in
              let place : suc h.last ≡ k = let e = h.count in omega arith in
              subst (λ (n : ℕ). IsLayer (WaitsInReport policy report waits) wait.p n one) place
              (subst (IsLayer (WaitsInReport policy report waits) wait.p (suc h.last)) same here_of)
        ]

-- where a step leads into the last, these are the sets
pub layers_end : (policy : Policy) (report : List Held) (waits : List Wait) (wait : Wait) (layers : List (List Bool)) (layer : List Bool) (link : Link)
    → AreLayersSoFar policy report waits wait layers layer → IsLeastLink policy report waits (Wanted wait) layer link
    → IsLayersTo policy report waits wait layers
layers_end policy report waits wait layers layer link h least = record {
  last = h.last;
  count = h.count;
  each = h.each;
  tight = grind (arith, common_steps, link_leads, tight_at);
}
  where
    tight_at : (last : ℕ)
        → ((k : ℕ) → last ≡ suc k → ¬ LeadsNear (LeadsInReport policy report waits (Wanted wait)) (WaitsInReport policy report waits) wait.p k)
        → LeadsNear (LeadsInReport policy report waits (Wanted wait)) (WaitsInReport policy report waits) wait.p last
        → IsTight (LeadsInReport policy report waits (Wanted wait)) (WaitsInReport policy report waits) wait.p last
    tight_at zero none near = near
    tight_at (suc k) none near = (near, none k refl)

-- where none leads into the last, which is closed, there is no cycle
pub no_cycle : (policy : Policy) (report : List Held) (waits : List Wait) (wait : Wait) (layers : List (List Bool)) (layer : List Bool)
    → AreLayersSoFar policy report waits wait layers layer
    → ((q : ℕ) → LeadsInReport policy report waits (Wanted wait) q → IsFalse (get_or layer q false))
    → ((p q : ℕ) → WaitsInReport policy report waits p q → IsTrue (get_or layer q false) → IsTrue (get_or layer p false))
    → TellsCycleIfAny policy report waits wait []
no_cycle policy report waits wait layers layer h none closed blocker through cycle =
    let R = WaitsInReport policy report waits in
    let own : IsNear R wait.p h.last wait.p = near_up R wait.p wait.p 0 h.last (omega arith) refl in
    let is_in : get_or layer blocker false ≡ true =
    closed_chain R (λ (n : ℕ). IsTrue (get_or layer n false)) wait.p ((h.here wait.p).1 own) closed blocker through cycle.1 in
    let no : get_or layer blocker false ≡ false = none blocker cycle.0 in
    let differ : true ≡ false = sym is_in ∙ no in
    absurd (cc)

-- the steps into the set, where a link was found, and where none was
abbrev pub FindsLink : Policy → List Held → List Wait → Start → List Bool → Option Link → Type 0
FindsLink policy report waits start layer found =
    MatchOption found ((q : ℕ) → LeadsInReport policy report waits start q → IsFalse (get_or layer q false)) (IsLeastLink policy report waits start layer)

pub no_link : (policy : Policy) (report : List Held) (waits : List Wait) (start : Start) (layer : List Bool) (found : Option Link)
    → FindsLink policy report waits start layer found → is_some found ≡ false → (q : ℕ) → LeadsInReport policy report waits start q
    → IsFalse (get_or layer q false)
no_link policy report waits start layer found h is = grind (arith, common_steps)

pub some_link : (policy : Policy) (report : List Held) (waits : List Wait) (start : Start) (layer : List Bool) (found : Option Link)
    → FindsLink policy report waits start layer found → is_some found ≡ true → (link : Link) × IsLeastLink policy report waits start layer link
some_link policy report waits start layer found h is = grind (arith, common_steps)

-- a link that was found leads into the set
pub leads_some : (policy : Policy) (report : List Held) (waits : List Wait) (p : ℕ) (layer : List Bool) (found : Option Link)
    → FindsLink policy report waits (Waiting p) layer found → is_some found ≡ true
    → (q : ℕ) × WaitsInReport policy report waits p q × IsTrue (get_or layer q false)
leads_some policy report waits p layer found h is =
    let some = some_link policy report waits (Waiting p) layer found h is in
    (some.0.process, link_leads policy report waits (Waiting p) some.0 some.1.is_link, some.1.member)
