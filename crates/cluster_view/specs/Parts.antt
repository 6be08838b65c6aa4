-- What members do, and what nodes are to a view (the words are this project's choice).
use Rattle.std.specs.Prelude.{◌≡◌, ◌⊎◌, ◌==◌, Bool, List, IsTrue, if◌then◌else◌, nat_lt}
use Rattle.cluster_view.specs.declared.base.Base.{Base}
use Rattle.cluster_view.specs.declared.decision.Decision.{Decision}
use Rattle.cluster_view.specs.declared.decision.Decision.TheVariants.{NoView, Begins, GoesOn}
use Rattle.cluster_view.specs.declared.decision.Reason.TheVariants.{NodeTwice, VersionsDiffer, VotesDiffer, TooFewVotes, RingNotRisen, Diverged}
use Rattle.cluster_view.specs.declared.hello.Hello.{Hello}
use Rattle.cluster_view.specs.declared.part.Part.{Part}
use Rattle.cluster_view.specs.declared.part.Part.TheVariants.{Suspended, Withdraws, BeginsAnew, Takes, CatchesUp, HasAll, Gives}
use Rattle.cluster_view.specs.declared.absence.Presence.{Presence}
use Rattle.cluster_view.specs.declared.absence.Presence.TheVariants.{Member, Dead, Away, Awaited}
use Rattle.cluster_view.specs.declared.absence.Seat.{Seat}
use Rattle.cluster_view.specs.declared.tables.Trace.TheVariants.{Log, Applied}
use Rattle.cluster_view.specs.declared.view.View.{View}
use Rattle.cluster_view.specs.Hellos.{SaidHello, Tells, tells}
use Rattle.cluster_view.specs.Tables.{IsOutvoted}

-- what a member does where the view goes on: who has no state of the base's view takes it, who has a shorter log catches up, one gives
abbrev pub place_in : Base → Hello → Part
place_in base member =
    if tells base.view member
    then (if nat_lt member.state.log.length base.log.length then CatchesUp else (if member.node == base.giver then Gives else HasAll))
    else Takes

-- the member's log or table is outvoted
pub record Withdrawn (view : View) (hellos : List Hello) (member : Hello) : Type 0 where
  pub of_view : Tells view member
  pub outvoted : IsOutvoted Log view member.state.log hellos ⊎ IsOutvoted Applied view member.state.applied hellos

-- what a member does
abbrev pub IsPart : Decision → List Hello → Hello → Part → Type 0
IsPart (NoView (Diverged view)) hellos member part =
    ((part ≡ Withdraws) × Withdrawn view hellos member) ⊎ ((part ≡ Suspended) × (¬ Withdrawn view hellos member))
IsPart (NoView NodeTwice) hellos member part = part ≡ Suspended
IsPart (NoView VersionsDiffer) hellos member part = part ≡ Suspended
IsPart (NoView VotesDiffer) hellos member part = part ≡ Suspended
IsPart (NoView TooFewVotes) hellos member part = part ≡ Suspended
IsPart (NoView RingNotRisen) hellos member part = part ≡ Suspended
IsPart (Begins view) hellos member part = part ≡ BeginsAnew
IsPart (GoesOn view base) hellos member part = part ≡ place_in base member

-- what a node is to a view: a member said HELLO, the process of another in the ring is dead, and who is not in the ring is waited for where
-- the view begins with none
abbrev pub IsPresence : List Hello → Seat → Bool → Presence → Type 0
IsPresence hellos seat begins Member = SaidHello seat.node hellos
IsPresence hellos seat begins Dead = (¬ SaidHello seat.node hellos) × IsTrue seat.in_ring
IsPresence hellos seat begins Away = (¬ SaidHello seat.node hellos) × (¬ IsTrue seat.in_ring) × (¬ IsTrue begins)
IsPresence hellos seat begins Awaited = (¬ SaidHello seat.node hellos) × (¬ IsTrue seat.in_ring) × IsTrue begins
