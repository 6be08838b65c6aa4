-- The same HELLOs, the same decision (the words are this project's choice).
use Rattle.std.specs.Prelude.{◌≡◌, ℕ, List}
use Rattle.std.specs.List.Sorted.{IsPermutation}
use Rattle.cluster_view.specs.declared.decision.Decision.{Decision}
use Rattle.cluster_view.specs.declared.hello.Hello.{Hello}
use Rattle.cluster_view.specs.declared.part.Part.{Part}
use Rattle.cluster_view.specs.Decisions.{Decides}
use Rattle.cluster_view.specs.Hellos.{AreOneEach}
use Rattle.cluster_view.specs.Parts.{IsPart}

-- the same HELLOs, one of each node, in two orders
pub record SameHellos (hellos others : List Hello) : Type 0 where
  pub there : IsPermutation hellos others
  pub back : IsPermutation others hellos
  pub one_each : AreOneEach hellos
  pub others_one_each : AreOneEach others

-- members that were told the same HELLOs, in whatever order, decide the same
abbrev pub SameHellosSameDecision : Type 0
SameHellosSameDecision =
    (ring : ℕ) (hellos others : List Hello) (decision other : Decision) → SameHellos hellos others
    → Decides ring hellos decision → Decides ring others other → decision ≡ other

-- and they agree on what each member does
abbrev pub SameHellosSameParts : Type 0
SameHellosSameParts =
    (hellos others : List Hello) (decision : Decision) (member : Hello) (part other : Part) → SameHellos hellos others
    → IsPart decision hellos member part → IsPart decision others member other → part ≡ other
