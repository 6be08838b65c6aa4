-- Nodes with votes, their rings, and logs (the words are this project's choice).
use Rattle.std.specs.Prelude.{◌≡◌, ◌<◌, ◌≤◌, ◌+◌, ◌*◌, ◌&&◌, ◌==◌, ℕ, zero, suc, Bool, true, List, ◌∷◌, ◌++◌, length, if◌then◌else◌}
use Rattle.cluster_view.specs.declared.view.View.{View}
use Rattle.cluster_view.specs.Views.{IsBefore}

-- the votes of the nodes below a number that pass a test
abbrev pub weight : (ℕ → ℕ) → (ℕ → Bool) → ℕ → ℕ
weight votes counts zero = 0
weight votes counts (suc n) = weight votes counts n + (if counts n then votes n else 0)

-- each node passes
abbrev pub everyone : ℕ → Bool
everyone node = true

-- of two sets of nodes with more than half of the expected votes each, which are at least those of all nodes, some node is in both
abbrev pub MajoritiesMeet : Type 0
MajoritiesMeet =
    (votes : ℕ → ℕ) (expected nodes : ℕ) (ones others : ℕ → Bool) → weight votes everyone nodes ≤ expected
    → expected < 2 * weight votes ones nodes → expected < 2 * weight votes others nodes
    → (node : ℕ) × (node < nodes) × (ones node ≡ true) × (others node ≡ true)

-- what stands in a log: a request of a process, or a purge of the locks of a node that was made in a view
pub data Entry : Type 0 where
  Request : (what : ℕ) → Entry
  Purge : (node : ℕ) (view : View) → Entry

-- the one log is a beginning of the other
abbrev pub IsBeginning : List Entry → List Entry → Type 0
IsBeginning log longer = (rest : List Entry) × (log ++ rest ≡ longer)

-- the log has a purge of the node that was made in the view
pub record IsPurgedIn (node : ℕ) (view : View) (log : List Entry) : Type 0 where
  pub before : List Entry
  pub behind : List Entry
  pub is : before ++ Purge node view ∷ behind ≡ log

-- the log has a purge of the node that was made in a later view
pub record IsPurgedSince (node : ℕ) (view : View) (log : List Entry) : Type 0 where
  pub later : View
  pub is_later : IsBefore view later
  pub purged : IsPurgedIn node later log

-- the nodes with their votes, which stay, and the rounds: each change of the ring or of the group is one. A round has the nodes of its ring,
-- and the number that a view has which they come to. A log passes some entries over: requests that aren't above the last one of their process
-- there, and purges of members. A digest stands for the log of its length
pub record Cluster : Type 0 where
  pub nodes : ℕ
  pub votes : ℕ → ℕ
  pub expected : ℕ
  pub enough : weight votes everyone nodes ≤ expected
  pub ring : ℕ → ℕ → Bool
  pub view : ℕ → View
  pub passes_over : List Entry → Entry → Bool
  pub digest : List Entry → ℕ
  pub digest_is : (log other : List Entry) → length log ≡ length other → digest log ≡ digest other → log ≡ other

-- the views have the same number
abbrev pub same_view : View → View → Bool
same_view view other = (view.ring == other.ring) && (view.count == other.count)
