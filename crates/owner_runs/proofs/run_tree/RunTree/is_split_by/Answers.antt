use Rattle.std.proofs.Common.{ltb-true, arith}
use Rattle.std.proofs.lemmas.Bool.{lt-ltb}
use Rattle.range_core.specs.declared.Mode.{Mode}
use Rattle.range_core.specs.declared.Span.{Span}
use Rattle.range_core.specs.Changes.{mode_in}
use Rattle.owner_runs.proofs.PieceLemmas.{split_reaches}
use Rattle.owner_runs.proofs.run_tree.RunTree.is_split_by.Goals as goal

pub returns-else-run-span : goal.returns-else-run-span
returns-else-run-span c =
    let run : Mode × Span = (c.in-Some.field-0-0, c.in-Some.run') in
    let from = c.if-run-span.false in (
      λ test. absurd (let less = ltb-true c.in-Some.run'.first c.args.span.first test in omega arith),
      λ splits. lt-ltb _ _ (split_reaches (mode_in c.args.self.now.items) c.args.span run c.requires.0 splits c.in-Some.ensures.run c.in-Some.ensures.begins).0,
    )
