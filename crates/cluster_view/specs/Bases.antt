-- From whose state a view may go on (the words are this project's choice).
use Rattle.std.specs.Prelude.{◌≡◌, ◌<◌, ◌≤◌, ◌⊎◌, ◌&&◌, ◌||◌, ◌==◌, Bool, List, Option, Some, None, All, Any, IsFalse, if◌then◌else◌, nat_lt}
use Rattle.cluster_view.specs.declared.base.Base.{Base}
use Rattle.cluster_view.specs.declared.hello.Hello.{Hello}
use Rattle.cluster_view.specs.declared.view.View.{View}
use Rattle.cluster_view.specs.Hellos.{IsLatest, Tells}
use Rattle.cluster_view.specs.Views.{is_before}

-- the later of the view and the one so far
abbrev pub later_of : Option View → View → View
later_of None view = view
later_of (Some latest) view = if is_before view latest then latest else view

-- the latest view of which a state is told, or none is told
abbrev pub IsLatestSoFar : List Hello → Option View → Type 0
IsLatestSoFar hellos None = All (λ hello. IsFalse hello.has_state) hellos
IsLatestSoFar hellos (Some view) = IsLatest hellos view

-- the member has a longer log, or one as long and the lesser node
abbrev pub IsBetter : Hello → Base → Type 0
IsBetter hello base =
    (base.log.length < hello.state.log.length) ⊎ ((hello.state.log.length ≡ base.log.length) × (hello.node < base.giver))

-- the test of `IsBetter`
abbrev pub is_better : Hello → Base → Bool
is_better hello base =
    nat_lt base.log.length hello.state.log.length || (hello.state.log.length == base.log.length) && nat_lt hello.node base.giver

-- the member's log is shorter, or as long and its node no less
abbrev pub IsBehind : Hello → Base → Type 0
IsBehind hello base =
    (hello.state.log.length < base.log.length) ⊎ ((hello.state.log.length ≡ base.log.length) × (base.giver ≤ hello.node))

-- the state of the member
abbrev pub base_at : View → Hello → Base
base_at view hello = record { view = view; log = hello.state.log; giver = hello.node }

-- the better of the member's state and the one so far
abbrev pub better_of : Option Base → View → Hello → Base
better_of None view hello = base_at view hello
better_of (Some base) view hello = if is_better hello base then base_at view hello else base

-- the longest log of a state of this view, and the least node that has it
pub record IsBase (view : View) (hellos : List Hello) (base : Base) : Type 0 where
  pub told : Any (λ hello. Tells view hello × (base ≡ base_at view hello)) hellos
  pub best : All (λ hello. Tells view hello → IsBehind hello base) hellos

-- the base of this view, or no state of it is told
abbrev pub IsBaseSoFar : View → List Hello → Option Base → Type 0
IsBaseSoFar view hellos None = All (λ hello. ¬ Tells view hello) hellos
IsBaseSoFar view hellos (Some base) = IsBase view hellos base
