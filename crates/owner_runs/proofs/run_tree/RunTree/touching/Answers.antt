use Rattle.std.proofs.Common.{◌+◌, List, sym, ap, subst}
use Rattle.std.specs.List.{All}
use Rattle.range_core.specs.declared.Mode.{Mode}
use Rattle.range_core.specs.declared.Span.{Span}
use Rattle.range_core.specs.Changes.{mode_in}
use Rattle.range_core.specs.Ranges.{IsByteRange}
use Rattle.owner_runs.specs.Trees.{AreOrdered, AreRunsTouching}
use Rattle.owner_runs.proofs.TouchingLemmas.{ranges_passing, touching_meets}
use Rattle.owner_runs.proofs.Views.{runs_of}
use Rattle.owner_runs.proofs.run_tree.RunTree.touching.Goals as goal

pub returns-clause-runs : goal.returns-clause-runs
returns-clause-runs c =
    let runs = c.args.self.now.items in
    let ordered = subst AreOrdered (ap runs_of c.self.view_is) c.self.invariant in
    subst (AreRunsTouching (mode_in runs) c.args.span) (sym c.of_tree.ensures)
    (touching_meets runs c.args.span c.saturating_sub.result ordered c.saturating_sub.ensures)

pub returns-clause-ranges : goal.returns-clause-ranges
returns-clause-ranges c =
    let runs = c.args.self.now.items in
    let ordered = subst AreOrdered (ap runs_of c.self.view_is) c.self.invariant in
    subst (λ (l : List (Mode × Span)). All (λ run. IsByteRange run.1) l) (sym c.of_tree.ensures)
    (ranges_passing runs c.saturating_sub.result (c.args.span.last + 1) ordered)
