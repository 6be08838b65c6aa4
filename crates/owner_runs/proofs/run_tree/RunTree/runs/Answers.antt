use Rattle.std.proofs.Common.{List, sym, ap, ◌∙◌, subst}
use Rattle.std.specs.List.{All}
use Rattle.std.proofs.lemmas.List.Elements.{All-from_recursion}
use Rattle.range_core.specs.declared.Mode.{Mode}
use Rattle.range_core.specs.declared.Span.{Span}
use Rattle.range_core.specs.Changes.{mode_in}
use Rattle.range_core.specs.Ranges.{AreRuns, IsByteRange}
use Rattle.owner_runs.specs.Trees.{AreOrdered}
use Rattle.owner_runs.proofs.FindLemmas.{all_meet}
use Rattle.owner_runs.proofs.OrderLemmas.{all_ranges}
use Rattle.owner_runs.proofs.RunLemmas.{are_runs}
use Rattle.owner_runs.proofs.Views.{runs_of}
use Rattle.owner_runs.proofs.run_tree.RunTree.runs.Goals as goal

pub returns-clause-runs : goal.returns-clause-runs
returns-clause-runs c =
    let runs = c.args.self.now.items in
    let ordered = subst AreOrdered (ap runs_of c.self.view_is) c.self.invariant in
    subst (AreRuns (mode_in runs)) (sym (c.of_tree.ensures ∙ all_meet runs ordered)) (are_runs runs ordered)

pub returns-clause-ranges : goal.returns-clause-ranges
returns-clause-ranges c =
    let runs = c.args.self.now.items in
    let ordered = subst AreOrdered (ap runs_of c.self.view_is) c.self.invariant in
    let all = All-from_recursion (λ (run : Mode × Span). IsByteRange run.1) runs (all_ranges runs ordered) in
    subst (λ (l : List (Mode × Span)). All (λ run. IsByteRange run.1) l) (sym (c.of_tree.ensures ∙ all_meet runs ordered)) all
