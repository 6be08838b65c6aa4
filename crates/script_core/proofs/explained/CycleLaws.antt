-- The steps that tell a cycle are determined, where no two waits are of one process.
use Rattle.script_core.proofs.Common.{arith, ◌≡◌, ◌≢◌, ℕ, zero, suc, ◌⊎◌, inl, inr, Some, None, List, [], ◌∷◌, ◌++◌, All, length, take, slice_get, refl, sym, ap, ◌∙◌, subst, common_steps, All-head, All-tail, Held, LocksHaveOneReport, mode_in, flock_mode_in, Policy, Wait, InTheWay, State, locks_held, Event, Link, Wanted, IsLockAgainst, IsWaitAgainst}
use Rattle.std.proofs.lemmas.Bool.{cases_order}
use Rattle.std.specs.List.{AllByRecursion as Each}
use Rattle.lock_manager.specs.declared.request.InTheWay.TheVariants as obstacles
use Rattle.wait_core.specs.Cycles.{IsBlockedByProcess, WaitsFor}
use Rattle.lock_manager.specs.Asking.{IsFirstOf}
use Rattle.script_core.specs.declared.deadlock.Start.{Start}
use Rattle.script_core.specs.declared.deadlock.Start.TheVariants.{Waiting}
use Rattle.script_core.specs.Deadlocks.{IsStepTo, IsLinkAt, IsLink, AreLinks, IsLess, TellsCycle}
use Rattle.script_core.specs.Explaining.{TellsDeadlock}
use Rattle.script_core.proofs.FitLemmas.{AreApart}
use Rattle.script_core.proofs.DeadlockLemmas.{first_any}
use Rattle.script_core.proofs.ExplainLemmas.{asks_once}

-- ---- the first of a list

first_of_both : {X : Type 0} (P : X → Type 0) (before : List X) (x : X) (after before' : List X) (y : X) (after' : List X)
    → before ++ x ∷ after ≡ before' ++ y ∷ after' → P x → All (λ z. ¬ P z) before → P y → All (λ z. ¬ P z) before' → x ≡ y
first_of_both P [] x after [] y after' e here none here' none' = cc
first_of_both P [] x after (z ∷ before') y after' e here none here' none' =
    let same : z ≡ x = cc in absurd (All-head (λ w. ¬ P w) z before' none' (subst P (sym same) here))
first_of_both P (z ∷ before) x after [] y after' e here none here' none' =
    let same : z ≡ y = cc in absurd (All-head (λ w. ¬ P w) z before none (subst P (sym same) here'))
first_of_both P (z ∷ before) x after (z' ∷ before') y after' e here none here' none' =
    let rest : before ++ x ∷ after ≡ before' ++ y ∷ after' = cc in
    first_of_both P before x after before' y after' rest here (All-tail (λ w. ¬ P w) z before none) here' (All-tail (λ w. ¬ P w) z' before' none')

-- the first of which it holds is one
pub IsFirstOf-unique : {X : Type 0} (P : X → Type 0) (xs : List X) (x y : X) → IsFirstOf P xs x → IsFirstOf P xs y → x ≡ y
IsFirstOf-unique P xs x y h k = first_of_both P h.before x h.after k.before y k.after (sym h.place ∙ k.place) h.holds h.none k.holds k.none

-- and there is none where it holds of none
none_first : {X : Type 0} (P : X → Type 0) (xs : List X) (x : X) → All (λ y. ¬ P y) xs → ¬ IsFirstOf P xs x
none_first P xs x none h =
    let found = first_any P xs x h in
    none found.0 found.1 found.2 (subst P (sym found.3) found.4)

-- ---- a step

IsStepTo-unique : (policy : Policy) (report : List Held) (earlier : List Wait) (wait : Wait) (q : ℕ) (one other : InTheWay)
    → IsStepTo policy report earlier wait q one → IsStepTo policy report earlier wait q other → one ≡ other
IsStepTo-unique policy report earlier wait q (obstacles.Lock held) (obstacles.Lock other) h k =
    ap obstacles.Lock (IsFirstOf-unique (IsLockAgainst q wait) report held other h k)
IsStepTo-unique policy report earlier wait q (obstacles.Wait v) (obstacles.Wait w) h k =
    ap obstacles.Wait (IsFirstOf-unique (IsWaitAgainst q wait) earlier v w h.2 k.2)
IsStepTo-unique policy report earlier wait q (obstacles.Lock held) (obstacles.Wait w) h k = absurd (none_first (IsLockAgainst q wait) report held k.1 h)
IsStepTo-unique policy report earlier wait q (obstacles.Wait v) (obstacles.Lock held) h k = absurd (none_first (IsLockAgainst q wait) report held h.1 k)

each_place : {X : Type 0} (P : X → Type 0) (xs : List X) (k : ℕ) (x : X) → Each P xs → slice_get xs k ≡ Some x → P x
each_place P [] k x all is = absurd (let bad : None ≡ Some x = is in cc)
each_place P (first ∷ xs) zero x all is = let same : first ≡ x = cc in subst P same all.0
each_place P (first ∷ xs) (suc k) x all is = each_place P xs k x all.1 is

-- a process has one place in the list
one_place : (waits : List Wait) (i k : ℕ) (v w : Wait) → AreApart waits → slice_get waits i ≡ Some v → slice_get waits k ≡ Some w → v.p ≡ w.p → i ≡ k
one_place [] i k v w apart at there same = absurd (let bad : None ≡ Some v = at in cc)
one_place (first ∷ waits) zero zero v w apart at there same = refl
one_place (first ∷ waits) zero (suc k) v w apart at there same =
    let here : first ≡ v = cc in
    absurd (each_place (λ (other : Wait). other.p ≢ first.p) waits k w apart.0 there (sym same ∙ ap (λ (x : Wait). x.p) (sym here)))
one_place (first ∷ waits) (suc i) zero v w apart at there same =
    let here : first ≡ w = cc in
    absurd (each_place (λ (other : Wait). other.p ≢ first.p) waits i v apart.0 at (same ∙ ap (λ (x : Wait). x.p) (sym here)))
one_place (first ∷ waits) (suc i) (suc k) v w apart at there same = ap suc (one_place waits i k v w apart.1 at there same)

-- a link by its parts
link_of : Wait → ℕ → InTheWay → Link
link_of wait process step = record { wait = wait; process = process; step = step }

same_link : (one other : Link) → one.wait ≡ other.wait → one.process ≡ other.process → one.step ≡ other.step → one ≡ other
unfolding link_of
same_link one other wait process step =
    let e : link_of one.wait one.process one.step ≡ link_of other.wait other.process other.step = cc in e

IsLinkAt-unique : (policy : Policy) (report : List Held) (waits : List Wait) (p : ℕ) (one other : Link) (i k : ℕ) → AreApart waits
    → one.process ≡ other.process → IsLinkAt policy report waits p one i → IsLinkAt policy report waits p other k → one ≡ other
IsLinkAt-unique policy report waits p one other i k apart process h l =
    let place : i ≡ k = one_place waits i k one.wait other.wait apart h.wait l.wait (h.of_p ∙ sym l.of_p) in
    let at : slice_get waits i ≡ Some other.wait = ap (slice_get waits) place ∙ l.wait in
    let wait : one.wait ≡ other.wait = (let both : Some one.wait ≡ Some other.wait = sym h.wait ∙ at in cc) in
    let moved : IsStepTo policy report (take i waits) one.wait one.process other.step =
    subst (λ (n : ℕ). IsStepTo policy report (take n waits) one.wait one.process other.step) (sym place)
    (subst (λ (w : Wait). IsStepTo policy report (take k waits) w one.process other.step) (sym wait)
    (subst (λ (q : ℕ). IsStepTo policy report (take k waits) other.wait q other.step) (sym process) l.step)) in
    same_link one other wait process (IsStepTo-unique policy report (take i waits) one.wait one.process one.step other.step h.step moved)

IsLink-unique : (policy : Policy) (report : List Held) (waits : List Wait) (start : Start) (one other : Link) → AreApart waits
    → one.process ≡ other.process → IsLink policy report waits start one → IsLink policy report waits start other → one ≡ other
IsLink-unique policy report waits (Wanted wait) one other apart process h k =
    let moved : IsStepTo policy report waits wait one.process other.step =
    subst (λ (q : ℕ). IsStepTo policy report waits wait q other.step) (sym process) k.1 in
    same_link one other (h.0 ∙ sym k.0) process (IsStepTo-unique policy report waits wait one.process one.step other.step h.1 moved)
IsLink-unique policy report waits (Waiting p) one other apart process h k = IsLinkAt-unique policy report waits p one other h.0 k.0 apart process h.1 k.1

-- the links through the same processes
AreLinks-unique : (policy : Policy) (report : List Held) (waits : List Wait) (start : Start) (through : List ℕ) (links others : List Link) → AreApart waits
    → AreLinks policy report waits start through links → AreLinks policy report waits start through others → links ≡ others
AreLinks-unique policy report waits start [] links others apart h k = h ∙ sym k
AreLinks-unique policy report waits start (q ∷ through) links others apart h k =
    let first : h.0 ≡ k.0 = IsLink-unique policy report waits start h.0 k.0 apart (h.3 ∙ sym k.3) h.4 k.4 in
    let rest : h.1 ≡ k.1 = AreLinks-unique policy report waits (Waiting q) through h.1 k.1 apart h.5 k.5 in
    h.2 ∙ ap (λ (l : Link). l ∷ h.1) first ∙ ap (λ (ls : List Link). k.0 ∷ ls) rest ∙ sym k.2

-- ---- a cycle

-- of two lists of one length one is less, or they are equal
cases_less : (xs ys : List ℕ) → length xs ≡ length ys → (xs ≡ ys) ⊎ (IsLess xs ys ⊎ IsLess ys xs)
cases_less [] [] long = inl refl
cases_less [] (y ∷ ys) long = absurd (omega (arith, long))
cases_less (x ∷ xs) [] long = absurd (omega (arith, long))
cases_less (x ∷ xs) (y ∷ ys) long =
    let rest : length xs ≡ length ys = omega (arith, long) in
    grind (arith, common_steps, cases_order, cases_less xs ys rest)

-- the processes of the shortest and least cycle
one_cycle : (policy : Policy) (report : List Held) (waits : List Wait) (wait : Wait) (Blocks : ℕ → Type 0) (Waits : ℕ → ℕ → Type 0) (links others : List Link)
    → (h : TellsCycle policy report waits wait Blocks Waits links) → (k : TellsCycle policy report waits wait Blocks Waits others)
    → h.blocker ∷ h.through ≡ k.blocker ∷ k.through
one_cycle policy report waits wait Blocks Waits links others h k =
    let up = h.shortest k.blocker k.through k.closes in
    let down = k.shortest h.blocker h.through h.closes in
    let long : length h.through ≡ length k.through = omega (arith, up, down) in
    by_order (cases_less (h.blocker ∷ h.through) (k.blocker ∷ k.through) (ap suc long)) long
  where
    by_order : ((h.blocker ∷ h.through ≡ k.blocker ∷ k.through)
        ⊎ (IsLess (h.blocker ∷ h.through) (k.blocker ∷ k.through) ⊎ IsLess (k.blocker ∷ k.through) (h.blocker ∷ h.through)))
        → length h.through ≡ length k.through → h.blocker ∷ h.through ≡ k.blocker ∷ k.through
    by_order (inl same) long = same
    by_order (inr (inl less)) long = absurd (k.least h.blocker h.through h.closes long less)
    by_order (inr (inr less)) long = absurd (h.least k.blocker k.through k.closes (sym long) less)

TellsCycle-unique : (policy : Policy) (report : List Held) (waits : List Wait) (wait : Wait) (Blocks : ℕ → Type 0) (Waits : ℕ → ℕ → Type 0)
    (links others : List Link) → AreApart waits
    → TellsCycle policy report waits wait Blocks Waits links → TellsCycle policy report waits wait Blocks Waits others → links ≡ others
TellsCycle-unique policy report waits wait Blocks Waits links others apart h k =
    let same = one_cycle policy report waits wait Blocks Waits links others h k in
    AreLinks-unique policy report waits (Wanted wait) (k.blocker ∷ k.through ++ wait.p ∷ []) links others apart
    (subst (λ (l : List ℕ). AreLinks policy report waits (Wanted wait) (l ++ wait.p ∷ []) links) same h.told) k.told

-- the steps that are told of an event
pub TellsDeadlock-unique : LocksHaveOneReport → (policy : Policy) (T : State) (event : Event) (links others : List Link) → AreApart T.waits
    → TellsDeadlock policy T event links → TellsDeadlock policy T event others → links ≡ others
TellsDeadlock-unique one policy T event [] [] apart h k = refl
TellsDeadlock-unique one policy T event [] (other ∷ others) apart h k = grind (arith, common_steps)
TellsDeadlock-unique one policy T event (link ∷ links) [] apart h k = grind (arith, common_steps)
TellsDeadlock-unique one policy T event (link ∷ links) (other ∷ others) apart h k =
    let reports : h.1 ≡ k.1 = one (mode_in T.changes) (flock_mode_in T.flock_changes) h.1 k.1 h.2 k.2 in
    let waits : h.3 ≡ k.3 = asks_once T event.p event.n event.request h.3 k.3 h.4 k.4 in
    let by_report = subst (λ (report : List Held). TellsCycle policy report T.waits h.3 (IsBlockedByProcess policy (locks_held T) T.waits h.3)
    (WaitsFor policy (locks_held T) T.waits) (link ∷ links)) reports h.5 in
    let by_wait = subst (λ (wait : Wait). TellsCycle policy k.1 T.waits wait (IsBlockedByProcess policy (locks_held T) T.waits wait)
    (WaitsFor policy (locks_held T) T.waits) (link ∷ links)) waits by_report in
    TellsCycle-unique policy k.1 T.waits k.3 (IsBlockedByProcess policy (locks_held T) T.waits k.3) (WaitsFor policy (locks_held T) T.waits)
    (link ∷ links) (other ∷ others) apart by_wait k.5
