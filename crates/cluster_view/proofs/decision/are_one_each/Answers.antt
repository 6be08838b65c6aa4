use Rattle.std.proofs.Common.{◌≢◌, refl, subst}
use Rattle.std.specs.Prelude.{AllPairs, List}
use Rattle.std.proofs.lemmas.List.{take_all}
use Rattle.cluster_view.specs.declared.hello.Hello.{Hello}
use Rattle.cluster_view.proofs.StepLemmas.{apart_more, twice_among}
use Rattle.cluster_view.proofs.decision.are_one_each.Goals as goal

pub returns-then-is_among : goal.returns-then-is_among
returns-then-is_among c =
    (λ no. cc, λ each. absurd (twice_among _ _ _ c.loop-place-test.true (c.is_among.ensures.0 c.if-is_among.true) each))

pub loop-place-preserved : goal.loop-place-preserved
loop-place-preserved c =
    apart_more _ _ _ c.loop-place-test.true (λ said. let is = c.is_among.ensures.1 said in let not = c.if-is_among.false in cc) c.loop-place.invariant

pub returns : goal.returns
returns c = (
  λ yes. record {
    apart = subst (λ (hellos : List Hello). AllPairs (λ (hello : Hello) (other : Hello). hello.node ≢ other.node) hellos)
        (take_all c.loop-place.place c.args.hellos.now c.loop-place-test.false) c.loop-place.invariant;
    few = c.if-hellos-gt-MOST_NODES.false;
  },
  λ each. refl,
)
