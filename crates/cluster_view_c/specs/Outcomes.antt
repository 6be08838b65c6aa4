-- What C is told (this project's choice).
use Rattle.std.specs.Prelude.{◌≡◌, ◌<◌, ◌≤◌, ◌^◌, ℕ, Bool, List, length, slice_index, slice_index_or}
use Rattle.cluster_view.specs.declared.absence.Presence.{Presence}
use Rattle.cluster_view.specs.declared.absence.Presence.TheVariants.{Away, Awaited, Dead, Member}
use Rattle.cluster_view.specs.declared.absence.Seat.{Seat}
use Rattle.cluster_view.specs.declared.decision.Decision.{Decision}
use Rattle.cluster_view.specs.declared.decision.Decision.TheVariants.{NoView, Begins, GoesOn}
use Rattle.cluster_view.specs.declared.decision.Reason.{Reason}
use Rattle.cluster_view.specs.declared.decision.Reason.TheVariants.{NodeTwice, VersionsDiffer, VotesDiffer, TooFewVotes, RingNotRisen, Diverged}
use Rattle.cluster_view.specs.declared.hello.Hello.{Hello}
use Rattle.cluster_view.specs.declared.part.Part.{Part}
use Rattle.cluster_view.specs.declared.part.Part.TheVariants.{BeginsAnew, CatchesUp, Gives, HasAll, Suspended, Takes, Withdraws}
use Rattle.cluster_view.specs.declared.view.View.{View}
use Rattle.cluster_view.specs.Decisions.{Decides}
use Rattle.cluster_view.specs.Parts.{IsPart, IsPresence}

-- the number of a reason (`enum cluster_view_outcome`)
abbrev pub reason_number : Reason → ℕ
reason_number NodeTwice = 3
reason_number VersionsDiffer = 4
reason_number VotesDiffer = 5
reason_number TooFewVotes = 6
reason_number RingNotRisen = 7
reason_number (Diverged view) = 8

-- the number of what the ring comes to
abbrev pub outcome_of : Decision → ℕ
outcome_of (GoesOn view base) = 0
outcome_of (Begins view) = 1
outcome_of (NoView reason) = reason_number reason

-- the view and its giver are written where there is one, with 0 as the giver of one that begins with no state; else they stay
abbrev pub IsTold : Decision → View → View → ℕ → ℕ → Type 0
IsTold (GoesOn next base) old view before giver = (view ≡ next) × (giver ≡ base.giver)
IsTold (Begins next) old view before giver = (view ≡ next) × (giver ≡ 0)
IsTold (NoView reason) old view before giver = (view ≡ old) × (giver ≡ before)

-- the number of what a member does (`enum cluster_view_part`)
abbrev pub part_number : Part → ℕ
part_number Suspended = 0
part_number Withdraws = 1
part_number BeginsAnew = 2
part_number Takes = 3
part_number CatchesUp = 4
part_number HasAll = 5
part_number Gives = 6

-- the number of what a node is to a view (`enum cluster_view_presence`)
abbrev pub presence_number : Presence → ℕ
presence_number Member = 0
presence_number Dead = 1
presence_number Away = 2
presence_number Awaited = 3

-- the number is that of what the member does
pub record IsPartNumber (decision : Decision) (hellos : List Hello) (member : Hello) (number : ℕ) : Type 0 where
  pub part : Part
  pub is : IsPart decision hellos member part
  pub written : number ≡ part_number part

-- the number is that of what the node is to the view
pub record IsPresenceNumber (hellos : List Hello) (seat : Seat) (begins : Bool) (number : ℕ) : Type 0 where
  pub presence : Presence
  pub is : IsPresence hellos seat begins presence
  pub written : number ≡ presence_number presence

-- each member's part is written in its place
abbrev pub ArePartsOf : Decision → List Hello → List ℕ → Type 0
ArePartsOf decision hellos parts =
    (k : ℕ) (hello : Hello) → k < length hellos → IsPartNumber decision hellos (slice_index_or hellos k hello) (slice_index parts k)

-- each node's presence is written in its place
abbrev pub ArePresencesOf : List Hello → List Seat → Bool → List ℕ → Type 0
ArePresencesOf hellos seats begins presences =
    (k : ℕ) (seat : Seat) → k < length seats → IsPresenceNumber hellos (slice_index_or seats k seat) begins (slice_index presences k)

-- the HELLOs come to a decision, which is told: its number, the view and its giver, and the parts, but where there are more HELLOs than nodes
pub record DecidesTo (ring : ℕ) (hellos : List Hello) (parts : List ℕ) (view_old view : View) (giver_old giver result : ℕ) : Type 0 where
  pub decision : Decision
  pub decides : Decides ring hellos decision
  pub number : result ≡ outcome_of decision
  pub told : IsTold decision view_old view giver_old giver
  pub parts_are : length hellos ≤ 2 ^ 16 → ArePartsOf decision hellos parts
