use Rattle.std.proofs.Common.{Option, sym, ◌∙◌, subst, rules}
use Rattle.std.specs.Option.{IfSome}
use denote.Enum.Bare.{same_true}
use Rattle.range_core.specs.contracts.Mode.{the_type}
use Rattle.range_core.specs.declared.Mode.{Mode}
use Rattle.range_core.specs.declared.Span.{Span}
use Rattle.range_core.specs.Changes.{mode_in}
use Rattle.owner_runs.specs.Trees.{IsNextRun}
use Rattle.owner_runs.proofs.PieceLemmas.{freed_behind}
use Rattle.owner_runs.proofs.run_tree.RunTree.join_behind.Goals as goal

pub returns-then-run-span-clause-modes : goal.returns-then-run-span-clause-modes
returns-then-run-span-clause-modes c =
    let run : Mode × Span = (c.in-Some.held, c.in-Some.run') in
    let old = mode_in c.args.self.now.items in
    let same = same_true the_type (search rules) c.in-Some.held c.args.mode (sym c.if-eq.ensures) in
    let next = subst (λ (o : Option (Mode × Span)). IfSome o (IsNextRun old c.args.span.first)) c.in-Some.is c.requires.next.run in
    freed_behind old (mode_in c.take.new.self.items) c.args.mode c.args.span.last run same c.if-run-span.true next.range.0 next.whole
    (c.take.ensures.modes run (sym c.requires.next.found ∙ c.in-Some.is))
