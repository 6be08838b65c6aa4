use Rattle.std.proofs.Common.{Some, List, sym, ap, ◌∙◌, subst}
use Rattle.range_core.specs.declared.Mode.{Mode}
use Rattle.range_core.specs.declared.Span.{Span}
use Rattle.range_core.specs.Changes.{mode_in}
use Rattle.summary_tree.specs.Cuts.{put_before}
use Rattle.owner_runs.specs.Tests.{ends_from}
use Rattle.owner_runs.specs.Trees.{AreOrdered, IsGapFor, IsSetOn}
use Rattle.owner_runs.proofs.ChangeLemmas.{put_modes, put_ordered, sides}
use Rattle.owner_runs.proofs.CutLemmas.{cut_at}
use Rattle.owner_runs.proofs.Views.{runs_of}
use Rattle.owner_runs.proofs.run_tree.RunTree.put.Goals as goal

pub put-requires-clause-cut : goal.put-requires-clause-cut
put-requires-clause-cut c = cut_at c.args.run.1.first c.self.inside.runs.items c.self.invariant

pub invariant_of-self : goal.invariant_of-self
invariant_of-self c =
    let run = c.args.run in
    let old = c.self.inside.runs.items in
    let gap = subst (λ (runs : List (Mode × Span)). IsGapFor (mode_in runs) run.0 run.1) (sym (ap runs_of c.self.view_is)) c.requires.gap in
    subst AreOrdered (sym c.put.ensures.items) (put_ordered run old c.requires.range c.self.invariant (sides run old c.requires.range.0 c.self.invariant gap))

pub returns-clause-modes : goal.returns-clause-modes
returns-clause-modes c =
    let run = c.args.run in
    let old = c.args.self.now.items in
    let items = c.put.ensures.items ∙ ap (put_before (ends_from run.1.first) run) (ap runs_of c.self.view_is) in
    subst (λ (new : List (Mode × Span)). IsSetOn (mode_in old) (mode_in new) run.1 (Some run.0)) (sym items) (put_modes run old)
