use Rattle.std.proofs.Common.{ap, subst}
use Rattle.std.proofs.lemmas.List.Elements.{All-from_recursion}
use Rattle.range_core.specs.declared.Mode.{Mode}
use Rattle.range_core.specs.declared.Span.{Span}
use Rattle.range_core.specs.Ranges.{IsByteRange}
use Rattle.owner_runs.specs.Trees.{AreOrdered}
use Rattle.owner_runs.proofs.OrderLemmas.{all_ranges}
use Rattle.owner_runs.proofs.RunLemmas.{are_runs}
use Rattle.owner_runs.proofs.Views.{runs_of}
use Rattle.owner_runs.proofs.run_tree.RunTree.count.Goals as goal

pub returns-clause-runs : goal.returns-clause-runs
returns-clause-runs c = are_runs c.args.self.now.items (subst AreOrdered (ap runs_of c.self.view_is) c.self.invariant)

pub returns-clause-ranges : goal.returns-clause-ranges
returns-clause-ranges c =
    All-from_recursion (λ (run : Mode × Span). IsByteRange run.1) c.args.self.now.items
    (all_ranges c.args.self.now.items (subst AreOrdered (ap runs_of c.self.view_is) c.self.invariant))
