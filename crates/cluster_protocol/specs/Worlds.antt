-- What the nodes of a cluster are at some moment (the words are this project's choice).
use Rattle.std.specs.Prelude.{◌≡◌, ◌<◌, ◌&&◌, ◌==◌, ◌++◌, ◌∷◌, [], ℕ, zero, suc, Bool, true, false, List, Option, None, Some, if◌then◌else◌, length, max, nat_le, not, take}
use Rattle.std.specs.Option.{option_to_list}
use Rattle.cluster_view.specs.declared.decision.Decision.{Decision}
use Rattle.cluster_view.specs.declared.decision.Decision.TheVariants.{NoView, Begins, GoesOn}
use Rattle.cluster_view.specs.declared.hello.Hello.{Hello}
use Rattle.cluster_view.specs.declared.hello.State.{State}
use Rattle.cluster_view.specs.declared.view.View.{View}
use Rattle.cluster_view.specs.Hellos.{tells}
use Rattle.cluster_protocol.specs.Clusters.{Cluster, Entry, IsPurgedIn, Purge, Request, same_view}

-- a state that a node has: the round whose view it is of, and its log
pub record Copy : Type 0 where
  pub round : ℕ
  pub log : List Entry

-- what a node says in a round: that no process of the group runs, or the process's HELLO, with the latest view that it decided and its state
pub data Word : Type 0 where
  NoProcess : Word
  Speaks : (known : View) (state : Option Copy) → Word

-- what a message asks for or says: a request, the purge of a node, or that its sender has a log of this length and digest
pub data Content : Type 0 where
  Asks : (what : ℕ) → Content
  Purges : (node : ℕ) → Content
  Acknowledges : (count digest : ℕ) → Content

-- a message, with the view that its sender had as it was made
pub record Message : Type 0 where
  pub sender : ℕ
  pub view : View
  pub what : Content

-- what was said in each round, what each came to, and the messages that were put into the order of its ring while it was the last round there
pub record History : Type 0 where
  pub said : ℕ → ℕ → Option Word
  pub came : ℕ → Option Decision
  pub order : ℕ → List Message

-- a node has no process in the group; or one that said HELLO; or one that decided, and takes the state or the end of the log; or one that has
-- the state of its round's view, and hears what is delivered
pub data Phase : Type 0 where
  Apart : Phase
  Speaking : Phase
  Taking : Phase
  Hearing : Phase

-- a node: its last round; its state, of which so much is kept if the ring breaks; how many messages of the round it heard; by which state its
-- program was told a lock that it neither lost nor let go; and the latest view that its process decided
pub record Member : Type 0 where
  pub phase : Phase
  pub round : ℕ
  pub state : Option Copy
  pub kept : ℕ
  pub heard : ℕ
  pub told : Option Copy
  pub known : View

pub record World : Type 0 where
  pub history : History
  pub member : ℕ → Member

-- logs

-- the entry that a message makes
abbrev pub entry_of : View → Content → Option Entry
entry_of view (Asks what) = Some (Request what)
entry_of view (Purges node) = Some (Purge node view)
entry_of view (Acknowledges count digest) = None

-- the log with the entry, unless it passes it over
abbrev pub taken : Cluster → List Entry → Option Entry → List Entry
taken cluster log None = log
taken cluster log (Some entry) = if cluster.passes_over log entry then log else log ++ entry ∷ []

-- the log of the view after a message: one of another view is passed over
abbrev pub after : Cluster → View → List Entry → Message → List Entry
after cluster view log message = if same_view message.view view then taken cluster log (entry_of message.view message.what) else log

-- how much of the log is kept after an acknowledgement: as much as it vouches for, where its digest is that of the log at that length
abbrev pub vouched : Cluster → List Entry → ℕ → Content → ℕ
vouched cluster log kept (Asks what) = kept
vouched cluster log kept (Purges node) = kept
vouched cluster log kept (Acknowledges count digest) =
    if nat_le count (length log) && (cluster.digest (take count log) == digest) then max kept count else kept

-- how much is kept after a message
abbrev pub kept_after : Cluster → View → List Entry → ℕ → Message → ℕ
kept_after cluster view log kept message = if same_view message.view view then vouched cluster log kept message.what else kept

-- the same after several messages
abbrev pub after_all : Cluster → View → List Entry → List Message → List Entry
after_all cluster view log [] = log
after_all cluster view log (message ∷ messages) = after_all cluster view (after cluster view log message) messages

abbrev pub kept_after_all : Cluster → View → List Entry → ℕ → List Message → ℕ
kept_after_all cluster view log kept [] = kept
kept_after_all cluster view log kept (message ∷ messages) =
    kept_after_all cluster view (after cluster view log message) (kept_after cluster view log kept message) messages

-- what was said in a round

-- what stands for the state where there is none
abbrev pub no_state : State
no_state = record {
  view = record { ring = 0; count = 0 };
  log = record { length = 0; digest = 0 };
  applied = record { length = 0; digest = 0 };
  electorate = record { digest = 0; expected = 0 };
}

-- a state as it is told; tables aren't in this model
abbrev pub state_told : Cluster → Copy → State
state_told cluster copy = record {
  view = cluster.view copy.round;
  log = record { length = length copy.log; digest = cluster.digest copy.log };
  applied = record { length = 0; digest = 0 };
  electorate = record { digest = 0; expected = cluster.expected };
}

-- the HELLO of a node's process
abbrev pub hello_of : Cluster → ℕ → View → Option Copy → Hello
hello_of cluster node known None = record {
  state = no_state;
  known = known;
  electorate = record { digest = 0; expected = cluster.expected };
  votes = cluster.votes node;
  versions = record { table = 0; protocol = 0 };
  node = node;
  has_state = false;
}
hello_of cluster node known (Some copy) = record {
  state = state_told cluster copy;
  known = known;
  electorate = record { digest = 0; expected = cluster.expected };
  votes = cluster.votes node;
  versions = record { table = 0; protocol = 0 };
  node = node;
  has_state = true;
}

-- the HELLO in what a node said, if there is one
abbrev pub hello_in : Cluster → ℕ → Option Word → Option Hello
hello_in cluster node None = None
hello_in cluster node (Some NoProcess) = None
hello_in cluster node (Some (Speaks known state)) = Some (hello_of cluster node known state)

-- the HELLOs of the nodes below a number in what was said
abbrev pub hellos_below : Cluster → (ℕ → Option Word) → ℕ → List Hello
hellos_below cluster said zero = []
hellos_below cluster said (suc n) = hellos_below cluster said n ++ option_to_list (hello_in cluster n (said n))

-- the HELLOs of a round
abbrev pub hellos_of : Cluster → History → ℕ → List Hello
hellos_of cluster history round = hellos_below cluster (history.said round) cluster.nodes

-- the log by which a view begins

-- purges in a view of the nodes below a number that pass a test, by node
abbrev pub purges_below : View → (ℕ → Bool) → ℕ → List Entry
purges_below view test zero = []
purges_below view test (suc n) = purges_below view test n ++ (if test n then Purge n view ∷ [] else [])

-- a node has no process, or one that has no state of this view: it loses its locks
abbrev pub loses : View → Option Hello → Bool
loses view None = true
loses view (Some hello) = not (tells view hello)

-- the log of the state that a node told
abbrev pub log_told : Option Word → List Entry
log_told None = []
log_told (Some NoProcess) = []
log_told (Some (Speaks known None)) = []
log_told (Some (Speaks known (Some copy))) = copy.log

-- a view that goes on has the giver's log, and purges of the nodes of the ring that lose their locks; one that begins with none has purges of
-- all nodes of the ring
abbrev pub start_by : Cluster → (ℕ → Option Word) → ℕ → Option Decision → List Entry
start_by cluster said round None = []
start_by cluster said round (Some (NoView reason)) = []
start_by cluster said round (Some (Begins view)) = purges_below (cluster.view round) (cluster.ring round) cluster.nodes
start_by cluster said round (Some (GoesOn view base)) =
    log_told (said base.giver)
    ++ purges_below (cluster.view round) (λ node. cluster.ring round node && loses base.view (hello_in cluster node (said node))) cluster.nodes

abbrev pub start_of : Cluster → History → ℕ → List Entry
start_of cluster history round = start_by cluster (history.said round) round (history.came round)

-- the log of a view after so many messages, delivered without a hole
abbrev pub log_at : Cluster → History → ℕ → ℕ → List Entry
log_at cluster history round count = after_all cluster (cluster.view round) (start_of cluster history round) (take count (history.order round))

-- the state counts: where its view began with none, each node that was away then was purged since
abbrev pub Counts : Cluster → History → Copy → Type 0
Counts cluster history copy =
    (view : View) (node : ℕ) → history.came copy.round ≡ Some (Begins view) → node < cluster.nodes → cluster.ring copy.round node ≡ false
    → IsPurgedIn node (cluster.view copy.round) copy.log
