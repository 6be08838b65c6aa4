-- The same HELLOs come to one decision: for `same_hellos_same_decision`.
use Rattle.std.proofs.Common.{◌≡◌, ◌⊎◌, ◌∙◌, ◌^◌, ◌<◌, ◌≤◌, ℕ, List, All, arith, ap, get_or, inl, inr, length, refl, subst, sym}
use Rattle.std.specs.Prelude.{Any, IsTrue}
use Rattle.std.specs.List.Sorted.{IsPermutation}
use Rattle.std.proofs.lemmas.List.{get_or_default}
use Rattle.std.proofs.lemmas.List.Elements.{All-contains}
use Rattle.cluster_view.specs.declared.base.Base.{Base}
use Rattle.cluster_view.specs.declared.decision.Decision.{Decision}
use Rattle.cluster_view.specs.declared.decision.Decision.TheVariants.{NoView, Begins, GoesOn}
use Rattle.cluster_view.specs.declared.decision.Reason.{Reason}
use Rattle.cluster_view.specs.declared.decision.Reason.TheVariants.{NodeTwice, VersionsDiffer, VotesDiffer, TooFewVotes, RingNotRisen, Diverged}
use Rattle.cluster_view.specs.declared.hello.Hello.{Hello}
use Rattle.cluster_view.specs.declared.part.Part.{Part}
use Rattle.cluster_view.specs.declared.view.View.{View}
use Rattle.cluster_view.specs.Bases.{base_at, IsBase, IsBehind}
use Rattle.cluster_view.specs.Decisions.{AgreeOnState, CanDecide, ComesTo, Decides, GoesFrom, HasNoNext, IsGround, IsNext, IsUnfit}
use Rattle.cluster_view.specs.Hellos.{AreOneEach, IsLatest, known_of, Tells}
use Rattle.cluster_view.specs.Laws.{SameHellos}
use Rattle.cluster_view.specs.Parts.{IsPart}
use Rattle.cluster_view.specs.Views.{IsAtEnd, IsBefore, IsUpTo}
use Rattle.cluster_view.proofs.OrderLaws.{can_perm, comes_perm, no_next_perm, versions_perm, electorates_perm, majority_perm, withdrawn_perm}
use Rattle.cluster_view.specs.Votes.{everyone}
use Rattle.cluster_view.proofs.StepLemmas.{same_view}

-- of the element of which the one holds, the other holds
pub at_some : (P Q : Hello → Type 0) (xs : List Hello) → All P xs → (some : Any Q xs) → P some.1
at_some P Q xs all some = All-contains P xs some.1 all (some.0, some.2, some.3)

up_to_both : (a b : View) → IsUpTo a b → IsUpTo b a → a ≡ b
up_to_both a b there back =
    let rings : a.ring ≡ b.ring = grind arith in
    let counts : a.count ≡ b.count = grind arith in
    same_view a b rings counts

-- one view is the latest
pub latest_one : (xs : List Hello) (a b : View) → IsLatest xs a → IsLatest xs b → a ≡ b
latest_one xs a b p q =
    let there : IsUpTo a b = subst (λ (view : View). IsUpTo view b) p.told.4.1
    (at_some (λ (hello : Hello). IsTrue hello.has_state → IsUpTo hello.state.view b) (Tells a) xs q.latest p.told p.told.4.0) in
    let back : IsUpTo b a = subst (λ (view : View). IsUpTo view a) q.told.4.1
    (at_some (λ (hello : Hello). IsTrue hello.has_state → IsUpTo hello.state.view a) (Tells b) xs p.latest q.told q.told.4.0) in
    up_to_both a b there back

-- one view is the next
pub next_one : (ring : ℕ) (xs : List Hello) (a b : View) → IsNext ring xs a → IsNext ring xs b → a ≡ b
next_one ring xs a b p q =
    let there : a.count ≤ b.count = p.least b.count q.after in
    let back : b.count ≤ a.count = q.least a.count p.after in
    let counts : a.count ≡ b.count = omega arith in
    same_view a b (p.ring_is ∙ sym q.ring_is) counts

at_end_not : (ring : ℕ) (known : View) (count : ℕ) → IsAtEnd ring known → IsBefore known (record { ring = ring; count = count }) → count < 2 ^ 64 → ⊥
at_end_not ring known count end before fits = grind arith

-- there is a next view or there is none
pub next_or_none : (ring : ℕ) (xs : List Hello) (view : View) → HasNoNext ring xs → IsNext ring xs view → ⊥
next_or_none ring xs view none next =
    at_end_not ring (known_of none.1) view.count none.4
    (at_some (λ (hello : Hello). IsBefore (known_of hello) (record { ring = ring; count = view.count })) (λ (hello : Hello). IsAtEnd ring (known_of hello)) xs next.after none)
    next.fits

-- HELLOs of one node are one
one_of_node : (xs : List Hello) → AreOneEach xs → (a b : Hello) (i j : ℕ) → i < length xs → j < length xs → get_or xs i a ≡ a → get_or xs j b ≡ b
    → a.node ≡ b.node → (i < j) ⊎ ((i ≡ j) ⊎ (j < i)) → a ≡ b
one_of_node xs each a b i j li lj at_i at_j nodes (inl lt) =
    let at : get_or xs j a ≡ b = get_or_default xs j a b lj ∙ at_j in
    absurd (each.apart i j a lt lj (ap (λ (h : Hello). h.node) at_i ∙ nodes ∙ sym (ap (λ (h : Hello). h.node) at)))
one_of_node xs each a b i j li lj at_i at_j nodes (inr (inl same)) =
    sym at_i ∙ get_or_default xs i a b li ∙ ap (λ (k : ℕ). get_or xs k b) same ∙ at_j
one_of_node xs each a b i j li lj at_i at_j nodes (inr (inr lt)) =
    let at : get_or xs i b ≡ a = get_or_default xs i b a li ∙ at_i in
    absurd (each.apart j i b lt li (ap (λ (h : Hello). h.node) at_j ∙ sym nodes ∙ sym (ap (λ (h : Hello). h.node) at)))

apart_or_same : (i j : ℕ) → (i < j) ⊎ ((i ≡ j) ⊎ (j < i))
apart_or_same i j = grind arith

behind_both : (a b : Hello) → IsBehind a (base_at b.state.view b) → IsBehind b (base_at a.state.view a) → a.node ≡ b.node
behind_both a b there back = grind arith

-- one state is the base of a view
pub base_one : (view : View) (xs : List Hello) (a b : Base) → AreOneEach xs → IsBase view xs a → IsBase view xs b → a ≡ b
base_one view xs a b each p q =
    let x : Hello = p.told.1 in
    let y : Hello = q.told.1 in
    let there : IsBehind x (base_at view y) = subst (λ (base : Base). IsBehind x base) q.told.4.1
    (at_some (λ (hello : Hello). Tells view hello → IsBehind hello b) (λ (hello : Hello). Tells view hello × (a ≡ base_at view hello)) xs q.best p.told p.told.4.0) in
    let back : IsBehind y (base_at view x) = subst (λ (base : Base). IsBehind y base) p.told.4.1
    (at_some (λ (hello : Hello). Tells view hello → IsBehind hello a) (λ (hello : Hello). Tells view hello × (b ≡ base_at view hello)) xs p.best q.told q.told.4.0) in
    let nodes : x.node ≡ y.node = behind_both x y there back in
    let one : x ≡ y = one_of_node xs each x y p.told.0 q.told.0 p.told.2 q.told.2 p.told.3 q.told.3 nodes (apart_or_same p.told.0 q.told.0) in
    p.told.4.1 ∙ ap (λ (hello : Hello). base_at view hello) one ∙ sym q.told.4.1

-- where there is no view behind the checks, members that have the latest state differ
abbrev Differs : List Hello → Reason → Type 0
Differs xs reason = (latest : View) × (reason ≡ Diverged latest) × IsGround xs latest × (¬ AgreeOnState latest xs)

differs_of : (next : View) (xs : List Hello) (reason : Reason) → GoesFrom next xs (NoView reason) → Differs xs reason
differs_of next xs (Diverged latest) from = (latest, refl, from.0, from.1)
differs_of next xs NodeTwice from = absurd from
differs_of next xs VersionsDiffer from = absurd from
differs_of next xs VotesDiffer from = absurd from
differs_of next xs TooFewVotes from = absurd from
differs_of next xs RingNotRisen from = absurd from

from_one : (next : View) (xs : List Hello) → AreOneEach xs → (d e : Decision) → GoesFrom next xs d → GoesFrom next xs e → d ≡ e
from_one next xs each (Begins v) (Begins w) p q = ap (λ (view : View). Begins view) (p.0 ∙ sym q.0)
from_one next xs each (Begins v) (GoesOn w base) p q = absurd (p.1 base.view q.1)
from_one next xs each (Begins v) (NoView reason) p q = let not = differs_of next xs reason q in absurd (p.1 not.0 not.2)
from_one next xs each (GoesOn v base) (Begins w) p q = absurd (q.1 base.view p.1)
from_one next xs each (GoesOn v base) (GoesOn w other) p q =
    let views : base.view ≡ other.view = latest_one xs base.view other.view p.1.is_latest q.1.is_latest in
    let bases : base ≡ other = base_one other.view xs base other each (subst (λ (view : View). IsBase view xs base) views p.3) q.3 in
    ap (λ (view : View). GoesOn view base) (p.0 ∙ sym q.0) ∙ ap (λ (state : Base). GoesOn w state) bases
from_one next xs each (GoesOn v base) (NoView reason) p q =
    let not = differs_of next xs reason q in
    absurd (not.3 (subst (λ (view : View). AgreeOnState view xs) (latest_one xs base.view not.0 p.1.is_latest not.2.is_latest) p.2))
from_one next xs each (NoView reason) (Begins w) p q = let not = differs_of next xs reason p in absurd (q.1 not.0 not.2)
from_one next xs each (NoView reason) (GoesOn w base) p q =
    let not = differs_of next xs reason p in
    absurd (not.3 (subst (λ (view : View). AgreeOnState view xs) (latest_one xs base.view not.0 q.1.is_latest not.2.is_latest) q.2))
from_one next xs each (NoView reason) (NoView other) p q =
    let a = differs_of next xs reason p in
    let b = differs_of next xs other q in
    ap (λ (why : Reason). NoView why)
    (a.1 ∙ ap (λ (view : View). Diverged view) (latest_one xs a.0 b.0 a.2.is_latest b.2.is_latest) ∙ sym b.1)

comes_one : (ring : ℕ) (xs : List Hello) (d e : Decision) → ComesTo ring xs d → ComesTo ring xs e → d ≡ e
comes_one ring xs d e p q =
    from_one q.next xs p.can.one_each d e (subst (λ (view : View). GoesFrom view xs d) (next_one ring xs p.next q.next p.is_next q.is_next) p.from) q.from

-- of what kind a decision is: the members can't decide; or the ring has no next view; or it comes to the decision

pub record Unfit (xs : List Hello) (d : Decision) : Type 0 where
  pub reason : Reason
  pub is : d ≡ NoView reason
  pub unfit : IsUnfit xs reason

pub record AtEnd (ring : ℕ) (xs : List Hello) (d : Decision) : Type 0 where
  pub is : d ≡ NoView RingNotRisen
  pub can : CanDecide xs
  pub none : HasNoNext ring xs

abbrev Kind : ℕ → List Hello → Decision → Type 0
Kind ring xs d = Unfit xs d ⊎ (AtEnd ring xs d ⊎ ComesTo ring xs d)

kind_of : (ring : ℕ) (xs : List Hello) (d : Decision) → Decides ring xs d → Kind ring xs d
kind_of ring xs (NoView NodeTwice) p = inl (record { reason = NodeTwice; is = refl; unfit = p })
kind_of ring xs (NoView VersionsDiffer) p = inl (record { reason = VersionsDiffer; is = refl; unfit = p })
kind_of ring xs (NoView VotesDiffer) p = inl (record { reason = VotesDiffer; is = refl; unfit = p })
kind_of ring xs (NoView TooFewVotes) p = inl (record { reason = TooFewVotes; is = refl; unfit = p })
kind_of ring xs (NoView RingNotRisen) p = inr (inl (record { is = refl; can = p.0; none = p.1 }))
kind_of ring xs (NoView (Diverged view)) p = inr (inr p)
kind_of ring xs (Begins view) p = inr (inr p)
kind_of ring xs (GoesOn view base) p = inr (inr p)

unfit_not_can : (xs : List Hello) (reason : Reason) → IsUnfit xs reason → CanDecide xs → ⊥
unfit_not_can xs NodeTwice p can = p can.one_each
unfit_not_can xs VersionsDiffer p can = p.1 can.versions
unfit_not_can xs VotesDiffer p can = p.2 can.votes
unfit_not_can xs TooFewVotes p can = p.3 can.majority
unfit_not_can xs RingNotRisen p can = p
unfit_not_can xs (Diverged view) p can = p

unfit_one : (xs : List Hello) (r s : Reason) → IsUnfit xs r → IsUnfit xs s → r ≡ s
unfit_one xs NodeTwice NodeTwice p q = refl
unfit_one xs NodeTwice VersionsDiffer p q = absurd (p q.0)
unfit_one xs NodeTwice VotesDiffer p q = absurd (p q.0)
unfit_one xs NodeTwice TooFewVotes p q = absurd (p q.0)
unfit_one xs VersionsDiffer NodeTwice p q = absurd (q p.0)
unfit_one xs VersionsDiffer VersionsDiffer p q = refl
unfit_one xs VersionsDiffer VotesDiffer p q = absurd (p.1 q.1)
unfit_one xs VersionsDiffer TooFewVotes p q = absurd (p.1 q.1)
unfit_one xs VotesDiffer NodeTwice p q = absurd (q p.0)
unfit_one xs VotesDiffer VersionsDiffer p q = absurd (q.1 p.1)
unfit_one xs VotesDiffer VotesDiffer p q = refl
unfit_one xs VotesDiffer TooFewVotes p q = absurd (p.2 q.2)
unfit_one xs TooFewVotes NodeTwice p q = absurd (q p.0)
unfit_one xs TooFewVotes VersionsDiffer p q = absurd (q.1 p.1)
unfit_one xs TooFewVotes VotesDiffer p q = absurd (q.2 p.2)
unfit_one xs TooFewVotes TooFewVotes p q = refl
unfit_one xs NodeTwice RingNotRisen p q = absurd q
unfit_one xs NodeTwice (Diverged view) p q = absurd q
unfit_one xs VersionsDiffer RingNotRisen p q = absurd q
unfit_one xs VersionsDiffer (Diverged view) p q = absurd q
unfit_one xs VotesDiffer RingNotRisen p q = absurd q
unfit_one xs VotesDiffer (Diverged view) p q = absurd q
unfit_one xs TooFewVotes RingNotRisen p q = absurd q
unfit_one xs TooFewVotes (Diverged view) p q = absurd q
unfit_one xs RingNotRisen s p q = absurd p
unfit_one xs (Diverged view) s p q = absurd p

kinds_one : (ring : ℕ) (xs : List Hello) (d e : Decision) → Kind ring xs d → Kind ring xs e → d ≡ e
kinds_one ring xs d e (inl p) (inl q) = p.is ∙ ap (λ (why : Reason). NoView why) (unfit_one xs p.reason q.reason p.unfit q.unfit) ∙ sym q.is
kinds_one ring xs d e (inl p) (inr (inl q)) = absurd (unfit_not_can xs p.reason p.unfit q.can)
kinds_one ring xs d e (inl p) (inr (inr q)) = absurd (unfit_not_can xs p.reason p.unfit q.can)
kinds_one ring xs d e (inr (inl p)) (inl q) = absurd (unfit_not_can xs q.reason q.unfit p.can)
kinds_one ring xs d e (inr (inl p)) (inr (inl q)) = p.is ∙ sym q.is
kinds_one ring xs d e (inr (inl p)) (inr (inr q)) = absurd (next_or_none ring xs q.next p.none q.is_next)
kinds_one ring xs d e (inr (inr p)) (inl q) = absurd (unfit_not_can xs q.reason q.unfit p.can)
kinds_one ring xs d e (inr (inr p)) (inr (inl q)) = absurd (next_or_none ring xs p.next q.none p.is_next)
kinds_one ring xs d e (inr (inr p)) (inr (inr q)) = comes_one ring xs d e p q

-- the HELLOs of one list come to one decision
pub decision_one : (ring : ℕ) (xs : List Hello) (d e : Decision) → Decides ring xs d → Decides ring xs e → d ≡ e
decision_one ring xs d e p q = kinds_one ring xs d e (kind_of ring xs d p) (kind_of ring xs e q)

-- what one list comes to the same HELLOs come to in another order

unfit_perm : (xs ys : List Hello) (reason : Reason) → IsPermutation xs ys → IsPermutation ys xs → AreOneEach xs → AreOneEach ys → IsUnfit xs reason
    → IsUnfit ys reason
unfit_perm xs ys NodeTwice there back one each p = absurd (p one)
unfit_perm xs ys VersionsDiffer there back one each p = (each, λ agree. p.1 (versions_perm ys xs back agree))
unfit_perm xs ys VotesDiffer there back one each p = (each, versions_perm xs ys there p.1, λ agree. p.2 (electorates_perm ys xs back agree))
unfit_perm xs ys TooFewVotes there back one each p =
    (each, versions_perm xs ys there p.1, electorates_perm xs ys there p.2, λ most. p.3 (majority_perm everyone ys xs back most))
unfit_perm xs ys RingNotRisen there back one each p = p
unfit_perm xs ys (Diverged view) there back one each p = p

decides_perm : (ring : ℕ) (xs ys : List Hello) (d : Decision) → IsPermutation xs ys → IsPermutation ys xs → AreOneEach xs → AreOneEach ys
    → Decides ring xs d → Decides ring ys d
decides_perm ring xs ys (NoView NodeTwice) there back one each p = unfit_perm xs ys NodeTwice there back one each p
decides_perm ring xs ys (NoView VersionsDiffer) there back one each p = unfit_perm xs ys VersionsDiffer there back one each p
decides_perm ring xs ys (NoView VotesDiffer) there back one each p = unfit_perm xs ys VotesDiffer there back one each p
decides_perm ring xs ys (NoView TooFewVotes) there back one each p = unfit_perm xs ys TooFewVotes there back one each p
decides_perm ring xs ys (NoView RingNotRisen) there back one each p = (can_perm xs ys there each p.0, no_next_perm ring xs ys there p.1)
decides_perm ring xs ys (NoView (Diverged view)) there back one each p = comes_perm ring xs ys (NoView (Diverged view)) there back each p
decides_perm ring xs ys (Begins view) there back one each p = comes_perm ring xs ys (Begins view) there back each p
decides_perm ring xs ys (GoesOn view base) there back one each p = comes_perm ring xs ys (GoesOn view base) there back each p

pub same_decision : (ring : ℕ) (xs ys : List Hello) (d e : Decision) → SameHellos xs ys → Decides ring xs d → Decides ring ys e → d ≡ e
same_decision ring xs ys d e same p q =
    decision_one ring ys d e (decides_perm ring xs ys d same.there same.back same.one_each same.others_one_each p) q

-- the parts

withdrawn_one : (view : View) (xs ys : List Hello) (member : Hello) (p q : Part) → IsPermutation xs ys → IsPermutation ys xs
    → IsPart (NoView (Diverged view)) xs member p → IsPart (NoView (Diverged view)) ys member q → p ≡ q
withdrawn_one view xs ys member p q there back (inl a) (inl b) = a.0 ∙ sym b.0
withdrawn_one view xs ys member p q there back (inl a) (inr b) = absurd (b.1 (withdrawn_perm view xs ys member there back a.1))
withdrawn_one view xs ys member p q there back (inr a) (inl b) = absurd (a.1 (withdrawn_perm view ys xs member back there b.1))
withdrawn_one view xs ys member p q there back (inr a) (inr b) = a.0 ∙ sym b.0

pub same_part : (xs ys : List Hello) (decision : Decision) (member : Hello) (p q : Part) → SameHellos xs ys → IsPart decision xs member p
    → IsPart decision ys member q → p ≡ q
same_part xs ys (NoView (Diverged view)) member p q same a b = withdrawn_one view xs ys member p q same.there same.back a b
same_part xs ys (NoView NodeTwice) member p q same a b = a ∙ sym b
same_part xs ys (NoView VersionsDiffer) member p q same a b = a ∙ sym b
same_part xs ys (NoView VotesDiffer) member p q same a b = a ∙ sym b
same_part xs ys (NoView TooFewVotes) member p q same a b = a ∙ sym b
same_part xs ys (NoView RingNotRisen) member p q same a b = a ∙ sym b
same_part xs ys (Begins view) member p q same a b = a ∙ sym b
same_part xs ys (GoesOn view base) member p q same a b = a ∙ sym b
