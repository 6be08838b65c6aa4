-- What HELLOs tell (the words are this project's choice).
use Rattle.std.specs.Prelude.{◌≡◌, ◌≢◌, ◌≤◌, ◌^◌, ◌&&◌, ◌==◌, ℕ, Bool, List, length, IsTrue, All, Any, AllPairs, if◌then◌else◌}
use Rattle.cluster_view.specs.declared.hello.Electorate.{Electorate}
use Rattle.cluster_view.specs.declared.hello.Hello.{Hello}
use Rattle.cluster_view.specs.declared.hello.Versions.{Versions}
use Rattle.cluster_view.specs.declared.view.View.{View}
use Rattle.cluster_view.specs.Views.{is_before, IsUpTo}

-- the HELLO tells a state of this view
abbrev pub Tells : View → Hello → Type 0
Tells view hello = IsTrue hello.has_state × (hello.state.view ≡ view)

-- the test of `Tells`
abbrev pub tells : View → Hello → Bool
tells view hello = hello.has_state && ((hello.state.view.ring == view.ring) && (hello.state.view.count == view.count))

-- the view is the latest of which a state is told
pub record IsLatest (hellos : List Hello) (view : View) : Type 0 where
  pub told : Any (Tells view) hellos
  pub latest : All (λ hello. IsTrue hello.has_state → IsUpTo hello.state.view view) hellos

-- the latest view that a member knows of: the one that its process decided last, or that of its state
abbrev pub known_of : Hello → View
known_of hello = if hello.has_state && is_before hello.known hello.state.view then hello.state.view else hello.known

-- the node said one of the HELLOs
abbrev pub SaidHello : ℕ → List Hello → Type 0
SaidHello node hellos = Any (λ hello. hello.node ≡ node) hellos

-- each HELLO is another node's, and there are no more than nodes
pub record AreOneEach (hellos : List Hello) : Type 0 where
  pub apart : AllPairs (λ hello other. hello.node ≢ other.node) hellos
  pub few : length hellos ≤ 2 ^ 16

-- all run these versions
abbrev pub AllRun : Versions → List Hello → Type 0
AllRun versions hellos = All (λ hello. hello.versions ≡ versions) hellos

-- all run the same versions
abbrev pub AgreeOnVersions : List Hello → Type 0
AgreeOnVersions hellos = All (λ hello. AllRun hello.versions hellos) hellos

-- the member's configuration has these votes, and so has its state
abbrev pub HasElectorate : Electorate → Hello → Type 0
HasElectorate electorate hello = (hello.electorate ≡ electorate) × (IsTrue hello.has_state → hello.state.electorate ≡ electorate)

-- the votes of all nodes are the same in all configurations and states
abbrev pub AgreeOnVotes : List Hello → Type 0
AgreeOnVotes hellos = All (λ hello. All (HasElectorate hello.electorate) hellos) hellos
