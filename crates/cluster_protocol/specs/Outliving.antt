-- What a lock that was told outlives (the words are this project's choice).
use Rattle.std.specs.Prelude.{◌≡◌, ◌⊎◌, ℕ, false, List, Option, Some}
use Rattle.cluster_view.specs.declared.decision.Decision.{Decision}
use Rattle.cluster_view.specs.declared.decision.Decision.TheVariants.{NoView, Begins, GoesOn}
use Rattle.cluster_view.specs.declared.view.View.{View}
use Rattle.cluster_view.specs.Views.{IsBefore}
use Rattle.cluster_protocol.specs.Clusters.{Cluster, Entry, IsBeginning, IsPurgedSince}
use Rattle.cluster_protocol.specs.Steps.{IsReached}
use Rattle.cluster_protocol.specs.Worlds.{Copy, Counts, History, log_told, Speaks, World}

-- the log has what the node was told by in the view as its beginning, or a purge of the node since then
abbrev pub Stays : View → ℕ → List Entry → List Entry → Type 0
Stays view node told log = IsBeginning told log ⊎ IsPurgedSince node view log

-- a view goes on from a log in which what was told stays; or it begins with none, and waits for the node, or the node is a member and loses
-- its locks
abbrev pub Outlives : Cluster → History → Copy → ℕ → ℕ → Decision → Type 0
Outlives cluster history told node round (NoView reason) = ⊥
Outlives cluster history told node round (GoesOn view base) = Stays (cluster.view told.round) node told.log (log_told (history.said round base.giver))
Outlives cluster history told node round (Begins view) =
    (cluster.ring round node ≡ false) ⊎ ((known : View) × (state : Option Copy) × (history.said round node ≡ Some (Speaks known state)))

-- whatever happens, what a node was told by, and neither lost nor let go, outlives each later view that is decided
abbrev pub ToldLocksOutliveViews : Type 0
ToldLocksOutliveViews =
    (cluster : Cluster) (world : World) (node : ℕ) (told : Copy) (round : ℕ) (decision : Decision) → IsReached cluster world
    → (world.member node).told ≡ Some told → world.history.came round ≡ Some decision → IsBefore (cluster.view told.round) (cluster.view round)
    → Outlives cluster world.history told node round decision

-- and it stays in each later state that a node has and that counts
abbrev pub ToldLocksStay : Type 0
ToldLocksStay =
    (cluster : Cluster) (world : World) (node member : ℕ) (told copy : Copy) → IsReached cluster world → (world.member node).told ≡ Some told
    → (world.member member).state ≡ Some copy → Counts cluster world.history copy → IsBefore (cluster.view told.round) (cluster.view copy.round)
    → Stays (cluster.view told.round) node told.log copy.log
