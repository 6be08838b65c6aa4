-- What may happen (the words are this project's choice).
use Rattle.std.specs.Prelude.{◌≡◌, ◌≢◌, ◌<◌, ◌≤◌, ◌*◌, ◌+◌, ◌&&◌, ◌==◌, ◌++◌, ◌∷◌, ◌⊎◌, [], ℕ, Bool, true, false, List, Option, None, Some, Contains, length, nat_le, slice_get, take}
use Rattle.std.specs.List.{list_any}
use Rattle.std.specs.Option.{option_to_list}
use Rattle.cluster_view.specs.declared.decision.Decision.{Decision}
use Rattle.cluster_view.specs.declared.decision.Decision.TheVariants.{NoView, Begins, GoesOn}
use Rattle.cluster_view.specs.declared.part.Part.{Part}
use Rattle.cluster_view.specs.declared.part.Part.TheVariants.{Suspended, Withdraws, BeginsAnew, Takes, CatchesUp, HasAll, Gives}
use Rattle.cluster_view.specs.declared.view.View.{View}
use Rattle.cluster_view.specs.Decisions.{Decides}
use Rattle.cluster_view.specs.Parts.{IsPart}
use Rattle.cluster_view.specs.Views.{IsBefore}
use Rattle.cluster_protocol.specs.Clusters.{Cluster, Entry, same_view, weight}
use Rattle.cluster_protocol.specs.Worlds.{Acknowledges, after_all, Apart, Asks, Content, Copy, Counts, History, hello_of, hellos_of, Hearing, kept_after_all, Member, Message, NoProcess, Phase, Purges, Speaking, Speaks, start_of, Taking, Word, World}

-- the node becomes this, and the other nodes stay
pub record Becomes (old new : World) (node : ℕ) (member : Member) : Type 0 where
  pub is : new.member node ≡ member
  pub others : (other : ℕ) → other ≢ node → new.member other ≡ old.member other

-- the node says this in the round, and nothing else is said
pub record Says (old new : History) (round node : ℕ) (word : Word) : Type 0 where
  pub is : new.said round node ≡ Some word
  pub others : (other member : ℕ) → (other ≡ round → member ≢ node) → new.said other member ≡ old.said other member
  pub came : (other : ℕ) → new.came other ≡ old.came other
  pub order : (other : ℕ) → new.order other ≡ old.order other

-- the round comes to this decision, and nothing else does
pub record Comes (old new : History) (round : ℕ) (decision : Decision) : Type 0 where
  pub is : new.came round ≡ Some decision
  pub others : (other : ℕ) → other ≢ round → new.came other ≡ old.came other
  pub said : (other node : ℕ) → new.said other node ≡ old.said other node
  pub order : (other : ℕ) → new.order other ≡ old.order other

-- the message is put behind the others of the round, and no other message anywhere
pub record Puts (old new : History) (round : ℕ) (message : Message) : Type 0 where
  pub is : new.order round ≡ old.order round ++ message ∷ []
  pub others : (other : ℕ) → other ≢ round → new.order other ≡ old.order other
  pub said : (other node : ℕ) → new.said other node ≡ old.said other node
  pub came : (other : ℕ) → new.came other ≡ old.came other

-- the messages at these places
abbrev pub messages_at : List Message → List ℕ → List Message
messages_at order [] = []
messages_at order (place ∷ places) = option_to_list (slice_get order place) ++ messages_at order places

-- what a node hears of the last messages of a ring that breaks: nothing, if it has no state of that ring's view
abbrev pub heard_late : Phase → List Message → List Message
heard_late Apart messages = []
heard_late Speaking messages = []
heard_late Taking messages = []
heard_late Hearing messages = messages

-- how much of the state a node keeps that heard these last messages
abbrev pub kept_of : Cluster → ℕ → Option Copy → List Message → ℕ
kept_of cluster kept None messages = kept
kept_of cluster kept (Some copy) messages = kept_after_all cluster (cluster.view copy.round) copy.log kept messages

-- the state with which a node leaves a round: if the ring breaks, what nothing vouches for is dropped
abbrev pub left_with : Cluster → ℕ → Option Copy → List Message → Bool → Option Copy
left_with cluster kept None messages breaks = None
left_with cluster kept (Some copy) messages true =
    Some (record { round = copy.round; log = take kept (after_all cluster (cluster.view copy.round) copy.log messages) })
left_with cluster kept (Some copy) messages false = Some copy

-- what a HELLO tells of the state: it, where it counts
abbrev pub IsTold : Cluster → History → Option Copy → Option Copy → Type 0
IsTold cluster history None told = told ≡ None
IsTold cluster history (Some copy) told = ((told ≡ Some copy) × Counts cluster history copy) ⊎ ((told ≡ None) × (¬ Counts cluster history copy))

-- A node's process enters a later round and says HELLO, as the ring breaks or the group alone changes. As a ring breaks, a member hears some
-- of the messages that are left, maybe with holes, but all that it sent itself; as the group changes, it heard what it sent itself before.
pub record Enters (cluster : Cluster) (old : World) (node round : ℕ) (breaks : Bool) (late : List ℕ) (new : World) : Type 0 where
  pub is_node : node < cluster.nodes
  pub of_ring : cluster.ring round node ≡ true
  pub rises : IsBefore (cluster.view (old.member node).round) (cluster.view round)
  pub own : (place : ℕ) (message : Message) → (old.member node).phase ≡ Hearing → slice_get (old.history.order (old.member node).round) place ≡ Some message
      → message.sender ≡ node → (place < (old.member node).heard) ⊎ Contains late place
  pub whole : breaks ≡ false → late ≡ []
  pub messages : List Message
  pub messages_are : messages ≡ heard_late (old.member node).phase (messages_at (old.history.order (old.member node).round) late)
  pub kept : ℕ
  pub kept_is : kept ≡ kept_of cluster (old.member node).kept (old.member node).state messages
  pub state : Option Copy
  pub state_is : state ≡ left_with cluster kept (old.member node).state messages breaks
  pub told : Option Copy
  pub told_is : IsTold cluster old.history state told
  pub says : Says old.history new.history round node (Speaks (old.member node).known told)
  pub becomes : Becomes old new node (record {
    phase = Speaking;
    round = round;
    state = state;
    kept = kept;
    heard = 0;
    told = (old.member node).told;
    known = (old.member node).known;
  })

-- A node of the ring has no process in the group.
pub record Lacks (cluster : Cluster) (old : World) (node round : ℕ) (new : World) : Type 0 where
  pub is_node : node < cluster.nodes
  pub of_ring : cluster.ring round node ≡ true
  pub rises : IsBefore (cluster.view (old.member node).round) (cluster.view round)
  pub apart : (old.member node).phase ≡ Apart
  pub says : Says old.history new.history round node NoProcess
  pub becomes : Becomes old new node (record (old.member node) { round = round })

-- the view that the decision is for has this number
abbrev pub IsOfView : Decision → View → Type 0
IsOfView (GoesOn next base) view = next ≡ view
IsOfView (Begins next) view = next ≡ view
IsOfView (NoView reason) view = ⊥

-- what a member becomes that has this part in the view
abbrev pub in_part : Member → Copy → ℕ → View → Part → Member
in_part member start count view Suspended = member
in_part member start count view Withdraws = member
in_part member start count view BeginsAnew =
    record { phase = Hearing; round = member.round; state = Some start; kept = count; heard = 0; told = None; known = view }
in_part member start count view Takes =
    record { phase = Taking; round = member.round; state = None; kept = 0; heard = 0; told = None; known = view }
in_part member start count view CatchesUp =
    record { phase = Taking; round = member.round; state = member.state; kept = member.kept; heard = 0; told = member.told; known = view }
in_part member start count view HasAll =
    record { phase = Hearing; round = member.round; state = Some start; kept = count; heard = 0; told = member.told; known = view }
in_part member start count view Gives =
    record { phase = Hearing; round = member.round; state = Some start; kept = count; heard = 0; told = member.told; known = view }

-- the state with which the round's view begins
abbrev pub start_copy : Cluster → History → ℕ → Copy
start_copy cluster history round = record { round = round; log = start_of cluster history round }

-- A member of a round in which all nodes of the ring spoke decides, and does what its part is.
pub record DecidesOn (cluster : Cluster) (old : World) (node : ℕ) (decision : Decision) (new : World) : Type 0 where
  pub speaking : (old.member node).phase ≡ Speaking
  pub all : (other : ℕ) → other < cluster.nodes → cluster.ring (old.member node).round other ≡ true
      → (word : Word) × (old.history.said (old.member node).round other ≡ Some word)
  pub decides : Decides (cluster.view (old.member node).round).ring (hellos_of cluster old.history (old.member node).round) decision
  pub of_view : IsOfView decision (cluster.view (old.member node).round)
  pub known : View
  pub state : Option Copy
  pub spoke : old.history.said (old.member node).round node ≡ Some (Speaks known state)
  pub part : Part
  pub part_is : IsPart decision (hellos_of cluster old.history (old.member node).round) (hello_of cluster node known state) part
  pub comes : Comes old.history new.history (old.member node).round decision
  pub becomes : Becomes old new node
      (in_part (old.member node) (start_copy cluster new.history (old.member node).round) (length (start_of cluster new.history (old.member node).round))
      (cluster.view (old.member node).round) part)

-- A member that takes the state has it now: that with which the view began.
pub record TakesState (cluster : Cluster) (old : World) (node : ℕ) (new : World) : Type 0 where
  pub taking : (old.member node).phase ≡ Taking
  pub history : new.history ≡ old.history
  pub becomes : Becomes old new node (record (old.member node) {
    phase = Hearing;
    state = Some (start_copy cluster old.history (old.member node).round);
    kept = length (start_of cluster old.history (old.member node).round);
    heard = 0;
  })

-- what a member may send: an acknowledgement of its log, where the state counts; or any request or purge
abbrev pub MaySend : Cluster → History → Option Copy → Content → Type 0
MaySend cluster history state (Asks what) = Unit {0}
MaySend cluster history state (Purges node) = Unit {0}
MaySend cluster history state (Acknowledges count digest) =
    (copy : Copy) × (state ≡ Some copy) × Counts cluster history copy × (count ≡ length copy.log) × (digest ≡ cluster.digest copy.log)

-- A member that has the state sends a message.
pub record Sends (cluster : Cluster) (old : World) (node : ℕ) (what : Content) (new : World) : Type 0 where
  pub hearing : (old.member node).phase ≡ Hearing
  pub may : MaySend cluster old.history (old.member node).state what
  pub puts : Puts old.history new.history (old.member node).round
      (record { sender = node; view = cluster.view (old.member node).round; what = what })
  pub members : (other : ℕ) → new.member other ≡ old.member other

-- A message that was queued over a change, with the view that its sender had, comes into the order of a round of another view.
pub record Strays (cluster : Cluster) (old : World) (round : ℕ) (message : Message) (new : World) : Type 0 where
  pub other : message.view ≢ cluster.view round
  pub puts : Puts old.history new.history round message
  pub members : (node : ℕ) → new.member node ≡ old.member node

-- A member hears the next message of its round.
pub record Hears (cluster : Cluster) (old : World) (node : ℕ) (new : World) : Type 0 where
  pub hearing : (old.member node).phase ≡ Hearing
  pub copy : Copy
  pub state : (old.member node).state ≡ Some copy
  pub message : Message
  pub is_next : slice_get (old.history.order (old.member node).round) (old.member node).heard ≡ Some message
  pub history : new.history ≡ old.history
  pub becomes : Becomes old new node (record (old.member node) {
    state = Some (record { round = copy.round; log = after_all cluster (cluster.view copy.round) copy.log (message ∷ []) });
    kept = kept_after_all cluster (cluster.view copy.round) copy.log (old.member node).kept (message ∷ []);
    heard = (old.member node).heard + 1;
  })

-- what is said vouches for so much of the log
abbrev pub is_enough : Cluster → List Entry → ℕ → Content → Bool
is_enough cluster log count (Asks what) = false
is_enough cluster log count (Purges node) = false
is_enough cluster log count (Acknowledges told digest) =
    nat_le count told && (nat_le told (length log) && (cluster.digest (take told log) == digest))

-- the message vouches for so much of the log of the view, in the name of the node
abbrev pub vouches : Cluster → View → List Entry → ℕ → ℕ → Message → Bool
vouches cluster view log count node message =
    (message.sender == node) && (same_view message.view view && is_enough cluster log count message.what)

-- A node's program is told a lock: so much of the log gave it, and members with a majority of the expected votes vouch for that.
pub record Tells (cluster : Cluster) (old : World) (node count : ℕ) (new : World) : Type 0 where
  pub is_node : node < cluster.nodes
  pub hearing : (old.member node).phase ≡ Hearing
  pub copy : Copy
  pub state : (old.member node).state ≡ Some copy
  pub counts : Counts cluster old.history copy
  pub within : count ≤ length copy.log
  pub majority : cluster.expected < 2 * weight cluster.votes
      (λ other. list_any (vouches cluster (cluster.view copy.round) copy.log count other) (take (old.member node).heard (old.history.order copy.round)))
      cluster.nodes
  pub history : new.history ≡ old.history
  pub becomes : Becomes old new node (record (old.member node) { told = Some (record { round = copy.round; log = take count copy.log }) })

-- A node's program lets its lock go.
pub record LetsGo (old : World) (node : ℕ) (new : World) : Type 0 where
  pub history : new.history ≡ old.history
  pub becomes : Becomes old new node (record (old.member node) { told = None })

-- A node's process dies, or the node does: what starts later knows nothing.
pub record Dies (old : World) (node : ℕ) (new : World) : Type 0 where
  pub history : new.history ≡ old.history
  pub becomes : Becomes old new node (record {
    phase = Apart;
    round = (old.member node).round;
    state = None;
    kept = 0;
    heard = 0;
    told = None;
    known = record { ring = 0; count = 0 };
  })

-- one of these happens
pub data Step (cluster : Cluster) (old new : World) : Type 0 where
  Entry_to : (node round : ℕ) (breaks : Bool) (late : List ℕ) → Enters cluster old node round breaks late new → Step cluster old new
  Lack : (node round : ℕ) → Lacks cluster old node round new → Step cluster old new
  Decided : (node : ℕ) (decision : Decision) → DecidesOn cluster old node decision new → Step cluster old new
  Taken : (node : ℕ) → TakesState cluster old node new → Step cluster old new
  Sent : (node : ℕ) (what : Content) → Sends cluster old node what new → Step cluster old new
  Strayed : (round : ℕ) (message : Message) → Strays cluster old round message new → Step cluster old new
  Heard : (node : ℕ) → Hears cluster old node new → Step cluster old new
  Told : (node count : ℕ) → Tells cluster old node count new → Step cluster old new
  Released : (node : ℕ) → LetsGo old node new → Step cluster old new
  Dead : (node : ℕ) → Dies old node new → Step cluster old new

-- at first nothing was said, and no process runs
pub record IsOpening (world : World) : Type 0 where
  pub said : (round node : ℕ) → world.history.said round node ≡ None
  pub came : (round : ℕ) → world.history.came round ≡ None
  pub order : (round : ℕ) → world.history.order round ≡ []
  pub member : (node : ℕ) → world.member node ≡ record {
    phase = Apart;
    round = 0;
    state = None;
    kept = 0;
    heard = 0;
    told = None;
    known = record { ring = 0; count = 0 };
  }

-- the world may be reached
pub data IsReached (cluster : Cluster) : World → Type 0 where
  At_first : (world : World) → IsOpening world → IsReached cluster world
  By_step : (old new : World) → IsReached cluster old → Step cluster old new → IsReached cluster new
