-- What a ring comes to (the words are this project's choice).
use Rattle.std.specs.Prelude.{◌≡◌, ◌<◌, ◌≤◌, ◌^◌, ℕ, List, All, Any}
use Rattle.cluster_view.specs.declared.decision.Decision.{Decision}
use Rattle.cluster_view.specs.declared.decision.Decision.TheVariants.{NoView, Begins, GoesOn}
use Rattle.cluster_view.specs.declared.decision.Reason.{Reason}
use Rattle.cluster_view.specs.declared.decision.Reason.TheVariants.{NodeTwice, VersionsDiffer, VotesDiffer, TooFewVotes, RingNotRisen, Diverged}
use Rattle.cluster_view.specs.declared.hello.Hello.{Hello}
use Rattle.cluster_view.specs.declared.tables.Trace.TheVariants.{Log, Applied}
use Rattle.cluster_view.specs.declared.view.View.{View}
use Rattle.cluster_view.specs.Bases.{IsBase}
use Rattle.cluster_view.specs.Hellos.{AgreeOnVersions, AgreeOnVotes, AreOneEach, IsLatest, known_of, tells}
use Rattle.cluster_view.specs.Tables.{AreAlike}
use Rattle.cluster_view.specs.Views.{IsAtEnd, IsBefore}
use Rattle.cluster_view.specs.Votes.{everyone, IsMajority, votes_of}

-- the members can decide: each is another node, they agree on versions and votes, and have a majority of these
pub record CanDecide (hellos : List Hello) : Type 0 where
  pub one_each : AreOneEach hellos
  pub versions : AgreeOnVersions hellos
  pub votes : AgreeOnVotes hellos
  pub majority : IsMajority hellos (votes_of everyone hellos)

-- why they can't: the first of the four that fails
abbrev pub IsUnfit : List Hello → Reason → Type 0
IsUnfit hellos NodeTwice = ¬ AreOneEach hellos
IsUnfit hellos VersionsDiffer = AreOneEach hellos × (¬ AgreeOnVersions hellos)
IsUnfit hellos VotesDiffer = AreOneEach hellos × AgreeOnVersions hellos × (¬ AgreeOnVotes hellos)
IsUnfit hellos TooFewVotes = AreOneEach hellos × AgreeOnVersions hellos × AgreeOnVotes hellos × (¬ IsMajority hellos (votes_of everyone hellos))
IsUnfit hellos RingNotRisen = ⊥
IsUnfit hellos (Diverged view) = ⊥

-- the view with this count of the ring comes after each that a member knows of
abbrev pub ComesAfter : ℕ → List Hello → ℕ → Type 0
ComesAfter ring hellos count = All (λ hello. IsBefore (known_of hello) (record { ring = ring; count = count })) hellos

-- the view is the least of the ring that comes after each that a member knows of
pub record IsNext (ring : ℕ) (hellos : List Hello) (view : View) : Type 0 where
  pub ring_is : view.ring ≡ ring
  pub fits : view.count < 2 ^ 64
  pub after : ComesAfter ring hellos view.count
  pub least : (count : ℕ) → ComesAfter ring hellos count → view.count ≤ count

-- there is none: a member knows of a view of a later ring, or of the last that this ring can count
abbrev pub HasNoNext : ℕ → List Hello → Type 0
HasNoNext ring hellos = Any (λ hello. IsAtEnd ring (known_of hello)) hellos

-- the latest view of which a state is told, by members with a majority
pub record IsGround (hellos : List Hello) (latest : View) : Type 0 where
  pub is_latest : IsLatest hellos latest
  pub majority : IsMajority hellos (votes_of (tells latest) hellos)

-- logs and tables agree of those that tell a state of the view
abbrev pub AgreeOnState : View → List Hello → Type 0
AgreeOnState view hellos = AreAlike Log view hellos × AreAlike Applied view hellos

-- what members that can decide come to, with this view as the next
abbrev pub GoesFrom : View → List Hello → Decision → Type 0
GoesFrom next hellos (Begins view) = (view ≡ next) × ((latest : View) → ¬ IsGround hellos latest)
GoesFrom next hellos (GoesOn view base) =
    (view ≡ next) × IsGround hellos base.view × AgreeOnState base.view hellos × IsBase base.view hellos base
GoesFrom next hellos (NoView (Diverged latest)) = IsGround hellos latest × (¬ AgreeOnState latest hellos)
GoesFrom next hellos (NoView NodeTwice) = ⊥
GoesFrom next hellos (NoView VersionsDiffer) = ⊥
GoesFrom next hellos (NoView VotesDiffer) = ⊥
GoesFrom next hellos (NoView TooFewVotes) = ⊥
GoesFrom next hellos (NoView RingNotRisen) = ⊥

-- the members can decide, there is a next view, and they come to this
pub record ComesTo (ring : ℕ) (hellos : List Hello) (decision : Decision) : Type 0 where
  pub next : View
  pub can : CanDecide hellos
  pub is_next : IsNext ring hellos next
  pub from : GoesFrom next hellos decision

-- what the HELLOs of the ring come to
abbrev pub Decides : ℕ → List Hello → Decision → Type 0
Decides ring hellos (NoView NodeTwice) = IsUnfit hellos NodeTwice
Decides ring hellos (NoView VersionsDiffer) = IsUnfit hellos VersionsDiffer
Decides ring hellos (NoView VotesDiffer) = IsUnfit hellos VotesDiffer
Decides ring hellos (NoView TooFewVotes) = IsUnfit hellos TooFewVotes
Decides ring hellos (NoView RingNotRisen) = CanDecide hellos × HasNoNext ring hellos
Decides ring hellos (NoView (Diverged view)) = ComesTo ring hellos (NoView (Diverged view))
Decides ring hellos (Begins view) = ComesTo ring hellos (Begins view)
Decides ring hellos (GoesOn view base) = ComesTo ring hellos (GoesOn view base)
