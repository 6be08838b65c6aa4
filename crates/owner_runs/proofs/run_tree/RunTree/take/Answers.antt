use Rattle.std.proofs.Common.{None, List, sym, ap, ◌∙◌, subst}
use Rattle.range_core.specs.declared.Mode.{Mode}
use Rattle.range_core.specs.declared.Span.{Span}
use Rattle.range_core.specs.Changes.{mode_in}
use Rattle.summary_tree.specs.Cuts.{without_first}
use Rattle.owner_runs.specs.Tests.{ends_from}
use Rattle.owner_runs.specs.Trees.{AreOrdered, IsSetOn}
use Rattle.owner_runs.proofs.ChangeLemmas.{taken_modes, taken_ordered}
use Rattle.owner_runs.proofs.CutLemmas.{cut_at}
use Rattle.owner_runs.proofs.Views.{runs_of}
use Rattle.owner_runs.proofs.run_tree.RunTree.take.Goals as goal

pub take-requires : goal.take-requires
take-requires c = cut_at c.args.byte c.self.inside.runs.items c.self.invariant

pub invariant_of-self : goal.invariant_of-self
invariant_of-self c = subst AreOrdered (sym c.take.ensures.rest) (taken_ordered (ends_from c.args.byte) c.self.inside.runs.items c.self.invariant)

pub returns-clause-modes : goal.returns-clause-modes
returns-clause-modes c run found =
    let is = ap runs_of c.self.view_is in
    let old = c.args.self.now.items in
    let taken = taken_modes (ends_from c.args.byte) old run (subst AreOrdered is c.self.invariant) found in
    let rest = c.take.ensures.rest ∙ ap (without_first (ends_from c.args.byte)) is in
    subst (λ (new : List (Mode × Span)). IsSetOn (mode_in old) (mode_in new) run.1 None) (sym rest) taken
