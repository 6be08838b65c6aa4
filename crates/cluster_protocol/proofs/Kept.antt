-- What holds at each moment: for `told_locks_outlive_views`.
use Rattle.cluster_protocol.proofs.Common.{slice_get, Decision, View, Decides, IsBefore, Cluster, Entry, IsBeginning, weight, IsOfView, Acknowledges, Apart, Copy, Counts, hellos_of, Hearing, History, log_at, Member, Message, NoProcess, Speaks, start_of, Taking, Word, World}
use Rattle.std.specs.Prelude.{◌≡◌, ◌≢◌, ◌<◌, ◌≤◌, ◌*◌, ◌⊎◌, ◌++◌, ℕ, Bool, true, List, Option, None, Some, length}
use Rattle.cluster_protocol.specs.Worlds.{Phase}

-- the log is a beginning of the round's log after so many messages without a hole
pub record InOrder (cluster : Cluster) (history : History) (round : ℕ) (log : List Entry) : Type 0 where
  pub count : ℕ
  pub within : count ≤ length (history.order round)
  pub begins : IsBeginning log (log_at cluster history round count)

-- the acknowledgement of a log by a node in a round
abbrev pub ack : Cluster → ℕ → ℕ → ℕ → ℕ → Message
ack cluster round node count digest = record { sender = node; view = cluster.view round; what = Acknowledges count digest }

-- it stands at the place
abbrev pub IsAckAt : Cluster → History → ℕ → ℕ → ℕ → ℕ → ℕ → Type 0
IsAckAt cluster history round place node count digest = slice_get (history.order round) place ≡ Some (ack cluster round node count digest)

-- the state is of a later view, or of the round's view and has so much
abbrev pub Reaches : Cluster → ℕ → ℕ → Copy → Type 0
Reaches cluster round count copy = IsBefore (cluster.view round) (cluster.view copy.round) ⊎ ((copy.round ≡ round) × (count ≤ length copy.log))

-- an acknowledgement is of the round's log without a hole, and whatever state its node tells later reaches it
pub record AckIsKept (cluster : Cluster) (history : History) (round node count digest : ℕ) : Type 0 where
  pub heard : ℕ
  pub within : heard ≤ length (history.order round)
  pub long : length (log_at cluster history round heard) ≡ count
  pub is : cluster.digest (log_at cluster history round heard) ≡ digest
  pub came : (decision : Decision) × (history.came round ≡ Some decision)
  pub spoke : (known : View) × (state : Option Copy) × (history.said round node ≡ Some (Speaks known state))
  pub later : (other : ℕ) (known : View) (copy : Copy) → IsBefore (cluster.view round) (cluster.view other)
      → history.said other node ≡ Some (Speaks known (Some copy)) → Reaches cluster round count copy

-- a state has what its view began with, without a hole behind it
pub record IsState (cluster : Cluster) (history : History) (copy : Copy) : Type 0 where
  pub came : (decision : Decision) × (history.came copy.round ≡ Some decision)
  pub in_order : InOrder cluster history copy.round copy.log
  pub from_start : length (start_of cluster history copy.round) ≤ length copy.log

-- a state that is told in a round is of an earlier one, and counts
pub record IsToldState (cluster : Cluster) (history : History) (round : ℕ) (copy : Copy) : Type 0 where
  pub state : IsState cluster history copy
  pub earlier : IsBefore (cluster.view copy.round) (cluster.view round)
  pub counts : Counts cluster history copy

-- all nodes of the ring spoke in a round that was decided, as their words decide
pub record IsDecided (cluster : Cluster) (history : History) (round : ℕ) (decision : Decision) : Type 0 where
  pub all : (node : ℕ) → node < cluster.nodes → cluster.ring round node ≡ true → (word : Word) × (history.said round node ≡ Some word)
  pub decides : Decides (cluster.view round).ring (hellos_of cluster history round) decision
  pub of_view : IsOfView decision (cluster.view round)

pub record HistoryIsKept (cluster : Cluster) (history : History) : Type 0 where
  pub decided : (round : ℕ) (decision : Decision) → history.came round ≡ Some decision → IsDecided cluster history round decision
  pub told : (round node : ℕ) (known : View) (copy : Copy) → history.said round node ≡ Some (Speaks known (Some copy))
      → IsToldState cluster history round copy
  pub rise : (one other node : ℕ) (a b : Word) → history.said one node ≡ Some a → history.said other node ≡ Some b
      → (one ≡ other) ⊎ (IsBefore (cluster.view one) (cluster.view other) ⊎ IsBefore (cluster.view other) (cluster.view one))
  pub acks : (round place node count digest : ℕ) → IsAckAt cluster history round place node count digest
      → AckIsKept cluster history round node count digest

-- members with a majority acknowledged the log
pub record IsCommitted (cluster : Cluster) (history : History) (copy : Copy) : Type 0 where
  pub acked : ℕ → Bool
  pub majority : cluster.expected < 2 * weight cluster.votes acked cluster.nodes
  pub each : (node : ℕ) → acked node ≡ true
      → (place : ℕ) × (count : ℕ) × (digest : ℕ) × IsAckAt cluster history copy.round place node count digest × (length copy.log ≤ count)
  pub in_order : InOrder cluster history copy.round copy.log

-- by what a node was told a lock that it has
pub record IsToldLock (cluster : Cluster) (history : History) (node : ℕ) (copy : Copy) : Type 0 where
  pub is_node : node < cluster.nodes
  pub came : (decision : Decision) × (history.came copy.round ≡ Some decision)
  pub committed : IsCommitted cluster history copy
  pub process : (round : ℕ) → history.said round node ≡ Some NoProcess → IsBefore (cluster.view round) (cluster.view copy.round)

-- an acknowledgement of its own, to a node: no such stands in its round unless it hears it; and its state is of a later view, or has so much, which
-- is kept once it was heard
pub record IsOwnAck (cluster : Cluster) (phase : Phase) (last : ℕ) (state : Option Copy) (kept heard round place count : ℕ) : Type 0 where
  pub at : round ≡ last → (phase ≡ Apart) ⊎ (phase ≡ Hearing)
  pub has : (copy : Copy) → state ≡ Some copy → IsBefore (cluster.view round) (cluster.view copy.round)
      ⊎ ((copy.round ≡ round) × (count ≤ length copy.log) × ((phase ≡ Hearing → place < heard) → count ≤ kept))

-- a node's state: of its round or an earlier view; what it keeps has the start
pub record IsKeptState (cluster : Cluster) (history : History) (last kept : ℕ) (copy : Copy) : Type 0 where
  pub state : IsState cluster history copy
  pub place : (copy.round ≡ last) ⊎ IsBefore (cluster.view copy.round) (cluster.view last)
  pub within : kept ≤ length copy.log
  pub from_start : length (start_of cluster history copy.round) ≤ kept

-- a node that hears its round has heard all of its order so far
pub record IsHearing (cluster : Cluster) (history : History) (last : ℕ) (state : Option Copy) (heard : ℕ) : Type 0 where
  pub copy : Copy
  pub is : state ≡ Some copy
  pub round : copy.round ≡ last
  pub log : copy.log ≡ log_at cluster history copy.round heard
  pub within : heard ≤ length (history.order copy.round)

pub record MemberIsKept (cluster : Cluster) (history : History) (node : ℕ) (member : Member) : Type 0 where
  pub latest : (round : ℕ) (word : Word) → history.said round node ≡ Some word
      → (round ≡ member.round) ⊎ IsBefore (cluster.view round) (cluster.view member.round)
  pub spoke : member.phase ≢ Apart → (known : View) × (state : Option Copy) × (history.said member.round node ≡ Some (Speaks known state))
  pub apart : member.phase ≡ Apart → (member.state ≡ None) × (member.told ≡ None)
  pub taking : member.phase ≡ Taking → (decision : Decision) × (history.came member.round ≡ Some decision)
  pub state : (copy : Copy) → member.state ≡ Some copy → IsKeptState cluster history member.round member.kept copy
  pub hearing : member.phase ≡ Hearing → IsHearing cluster history member.round member.state member.heard
  pub idle : member.phase ≢ Hearing → (copy : Copy) → member.state ≡ Some copy → IsBefore (cluster.view copy.round) (cluster.view member.round)
  pub acks : (round place count digest : ℕ) → IsAckAt cluster history round place node count digest → IsOwnAck cluster member.phase member.round member.state member.kept member.heard round place count
  pub told : (copy : Copy) → member.told ≡ Some copy → IsToldLock cluster history node copy

pub record WorldIsKept (cluster : Cluster) (world : World) : Type 0 where
  pub history : HistoryIsKept cluster world.history
  pub members : (node : ℕ) → MemberIsKept cluster world.history node (world.member node)

-- the history went on: what was said and decided stays, in a round that was decided no word comes, and messages come behind the others
pub record Extends (old new : History) : Type 0 where
  pub said : (round node : ℕ) (word : Word) → old.said round node ≡ Some word → new.said round node ≡ Some word
  pub came : (round : ℕ) (decision : Decision) → old.came round ≡ Some decision → new.came round ≡ Some decision
  pub settled : (round : ℕ) (decision : Decision) → old.came round ≡ Some decision → (node : ℕ) → new.said round node ≡ old.said round node
  pub order : (round : ℕ) → (rest : List Message) × (old.order round ++ rest ≡ new.order round)
