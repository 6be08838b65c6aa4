-- What a decision rests on is the same in whatever order the HELLOs are: for `same_hellos_same_decision`.
use Rattle.std.proofs.Common.{◌≡◌, ◌*◌, ℕ, ◌<◌, ◌≤◌, Bool, List, false, All, if◌then◌else◌, inl, inr, subst, sym}
use Rattle.std.specs.Prelude.{Any, IsTrue}
use Rattle.std.specs.List.Sorted.{IsPermutation}
use Rattle.std.proofs.lemmas.List.Elements.{All-weaker}
use Rattle.std.proofs.lemmas.List.Sorted.{All-permutation, Contains-permutation, sum_by-IsPermutation}
use Rattle.cluster_view.specs.declared.base.Base.{Base}
use Rattle.cluster_view.specs.declared.decision.Decision.{Decision}
use Rattle.cluster_view.specs.declared.decision.Decision.TheVariants.{NoView, Begins, GoesOn}
use Rattle.cluster_view.specs.declared.decision.Reason.TheVariants.{NodeTwice, VersionsDiffer, VotesDiffer, TooFewVotes, RingNotRisen, Diverged}
use Rattle.cluster_view.specs.declared.hello.Hello.{Hello}
use Rattle.cluster_view.specs.declared.hello.Mark.{Mark}
use Rattle.cluster_view.specs.declared.tables.Trace.{Trace}
use Rattle.cluster_view.specs.declared.tables.Trace.TheVariants.{Log, Applied}
use Rattle.cluster_view.specs.declared.view.View.{View}
use Rattle.cluster_view.specs.Bases.{base_at, IsBase, IsBehind}
use Rattle.cluster_view.specs.Decisions.{AgreeOnState, CanDecide, ComesAfter, ComesTo, GoesFrom, HasNoNext, IsGround, IsNext}
use Rattle.cluster_view.specs.Hellos.{AgreeOnVersions, AgreeOnVotes, AreOneEach, HasElectorate, known_of, Tells, tells}
use Rattle.cluster_view.specs.Parts.{Withdrawn}
use Rattle.cluster_view.specs.Tables.{AgreeWith, AreAlike, has_other, has_same, IsOutvoted, mark_of}
use Rattle.cluster_view.specs.Views.{IsAtEnd, IsBefore, IsUpTo}
use Rattle.cluster_view.specs.Votes.{everyone, IsMajority, votes_of}

pub any_perm : (P : Hello → Type 0) (xs ys : List Hello) → IsPermutation xs ys → Any P xs → Any P ys
any_perm P xs ys same some =
    let there = Contains-permutation xs ys some.1 same (some.0, some.2, some.3) in (there.0, some.1, there.1, there.2, some.4)

pub votes_perm : (counts : Hello → Bool) (xs ys : List Hello) → IsPermutation xs ys → votes_of counts ys ≡ votes_of counts xs
votes_perm counts xs ys same = sum_by-IsPermutation (λ (hello : Hello). if counts hello then hello.votes else 0) xs ys same

-- what holds of each of all holds of each of all in another order
all_all_perm : (P : Hello → Hello → Type 0) (xs ys : List Hello) → IsPermutation xs ys → All (λ (hello : Hello). All (P hello) xs) xs
    → All (λ (hello : Hello). All (P hello) ys) ys
all_all_perm P xs ys same all =
    All-permutation (λ (hello : Hello). All (P hello) ys) xs ys same
    (All-weaker (λ (hello : Hello). All (P hello) xs) (λ (hello : Hello). All (P hello) ys) (λ hello each. All-permutation (P hello) xs ys same each) xs all)

pub versions_perm : (xs ys : List Hello) → IsPermutation xs ys → AgreeOnVersions xs → AgreeOnVersions ys
versions_perm xs ys same all = all_all_perm (λ (hello : Hello) (other : Hello). other.versions ≡ hello.versions) xs ys same all

pub electorates_perm : (xs ys : List Hello) → IsPermutation xs ys → AgreeOnVotes xs → AgreeOnVotes ys
electorates_perm xs ys same all = all_all_perm (λ (hello : Hello) (other : Hello). HasElectorate hello.electorate other) xs ys same all

pub majority_perm : (counts : Hello → Bool) (xs ys : List Hello) → IsPermutation xs ys → IsMajority xs (votes_of counts xs)
    → IsMajority ys (votes_of counts ys)
majority_perm counts xs ys same most =
    subst (λ (votes : ℕ). IsMajority ys votes) (sym (votes_perm counts xs ys same))
    (any_perm (λ (hello : Hello). hello.electorate.expected < 2 * votes_of counts xs) xs ys same most)

pub can_perm : (xs ys : List Hello) → IsPermutation xs ys → AreOneEach ys → CanDecide xs → CanDecide ys
can_perm xs ys same each can = record {
  one_each = each;
  versions = versions_perm xs ys same can.versions;
  votes = electorates_perm xs ys same can.votes;
  majority = majority_perm everyone xs ys same can.majority;
}

pub after_perm : (ring : ℕ) (xs ys : List Hello) (count : ℕ) → IsPermutation xs ys → ComesAfter ring xs count → ComesAfter ring ys count
after_perm ring xs ys count same after = All-permutation (λ (hello : Hello). IsBefore (known_of hello) (record { ring = ring; count = count })) xs ys same after

pub next_perm : (ring : ℕ) (xs ys : List Hello) (view : View) → IsPermutation xs ys → IsPermutation ys xs → IsNext ring xs view → IsNext ring ys view
next_perm ring xs ys view there back next = record {
  ring_is = next.ring_is;
  fits = next.fits;
  after = after_perm ring xs ys view.count there next.after;
  least = λ count after. next.least count (after_perm ring ys xs count back after);
}

pub no_next_perm : (ring : ℕ) (xs ys : List Hello) → IsPermutation xs ys → HasNoNext ring xs → HasNoNext ring ys
no_next_perm ring xs ys same none = any_perm (λ (hello : Hello). IsAtEnd ring (known_of hello)) xs ys same none

pub ground_perm : (xs ys : List Hello) (view : View) → IsPermutation xs ys → IsGround xs view → IsGround ys view
ground_perm xs ys view same ground = record {
  is_latest = record {
    told = any_perm (Tells view) xs ys same ground.is_latest.told;
    latest = All-permutation (λ (hello : Hello). IsTrue hello.has_state → IsUpTo hello.state.view view) xs ys same ground.is_latest.latest;
  };
  majority = majority_perm (tells view) xs ys same ground.majority;
}

agree_perm : (trace : Trace) (view : View) (mark : Mark) (xs ys : List Hello) → IsPermutation xs ys → AgreeWith trace view mark xs
    → AgreeWith trace view mark ys
agree_perm trace view mark xs ys same agree = All-permutation (λ (hello : Hello). has_other trace view mark hello ≡ false) xs ys same agree

alike_perm : (trace : Trace) (view : View) (xs ys : List Hello) → IsPermutation xs ys → AreAlike trace view xs → AreAlike trace view ys
alike_perm trace view xs ys same alike =
    All-permutation (λ (hello : Hello). Tells view hello → AgreeWith trace view (mark_of trace hello) ys) xs ys same
    (All-weaker (λ (hello : Hello). Tells view hello → AgreeWith trace view (mark_of trace hello) xs)
    (λ (hello : Hello). Tells view hello → AgreeWith trace view (mark_of trace hello) ys)
    (λ hello each told. agree_perm trace view (mark_of trace hello) xs ys same (each told)) xs alike)

pub state_perm : (view : View) (xs ys : List Hello) → IsPermutation xs ys → AgreeOnState view xs → AgreeOnState view ys
state_perm view xs ys same agree = (alike_perm Log view xs ys same agree.0, alike_perm Applied view xs ys same agree.1)

pub base_perm : (view : View) (xs ys : List Hello) (base : Base) → IsPermutation xs ys → IsBase view xs base → IsBase view ys base
base_perm view xs ys base same is = record {
  told = any_perm (λ (hello : Hello). Tells view hello × (base ≡ base_at view hello)) xs ys same is.told;
  best = All-permutation (λ (hello : Hello). Tells view hello → IsBehind hello base) xs ys same is.best;
}

pub from_perm : (next : View) (xs ys : List Hello) (decision : Decision) → IsPermutation xs ys → IsPermutation ys xs → GoesFrom next xs decision
    → GoesFrom next ys decision
from_perm next xs ys (Begins view) there back from = (from.0, λ latest ground. from.1 latest (ground_perm ys xs latest back ground))
from_perm next xs ys (GoesOn view base) there back from =
    (from.0, ground_perm xs ys base.view there from.1, state_perm base.view xs ys there from.2, base_perm base.view xs ys base there from.3)
from_perm next xs ys (NoView (Diverged latest)) there back from =
    (ground_perm xs ys latest there from.0, λ agree. from.1 (state_perm latest ys xs back agree))
from_perm next xs ys (NoView NodeTwice) there back from = from
from_perm next xs ys (NoView VersionsDiffer) there back from = from
from_perm next xs ys (NoView VotesDiffer) there back from = from
from_perm next xs ys (NoView TooFewVotes) there back from = from
from_perm next xs ys (NoView RingNotRisen) there back from = from

pub comes_perm : (ring : ℕ) (xs ys : List Hello) (decision : Decision) → IsPermutation xs ys → IsPermutation ys xs → AreOneEach ys
    → ComesTo ring xs decision → ComesTo ring ys decision
comes_perm ring xs ys decision there back each comes = record {
  next = comes.next;
  can = can_perm xs ys there each comes.can;
  is_next = next_perm ring xs ys comes.next there back comes.is_next;
  from = from_perm comes.next xs ys decision there back comes.from;
}

outvoted_perm : (trace : Trace) (view : View) (mark : Mark) (xs ys : List Hello) → IsPermutation xs ys → IsPermutation ys xs
    → IsOutvoted trace view mark xs → IsOutvoted trace view mark ys
outvoted_perm trace view mark xs ys there back out = record {
  differ = λ agree. out.differ (agree_perm trace view mark ys xs back agree);
  no_more = subst (λ (votes : ℕ). votes ≤ votes_of (has_other trace view mark) ys) (sym (votes_perm (has_same trace view mark) xs ys there))
      (subst (λ (votes : ℕ). votes_of (has_same trace view mark) xs ≤ votes) (sym (votes_perm (has_other trace view mark) xs ys there)) out.no_more);
}

pub withdrawn_perm : (view : View) (xs ys : List Hello) (member : Hello) → IsPermutation xs ys → IsPermutation ys xs → Withdrawn view xs member
    → Withdrawn view ys member
withdrawn_perm view xs ys member there back out = record {
  of_view = out.of_view;
  outvoted = elim out.outvoted [
    | inl log ↦ inl (outvoted_perm Log view member.state.log xs ys there back log)
    | inr applied ↦ inr (outvoted_perm Applied view member.state.applied xs ys there back applied)
  ];
}
