use Rattle.std.proofs.Common.{ℕ, ◌≤◌, Option, Some, None}
use Rattle.std.specs.Option.{IfSome}
use Rattle.range_core.specs.declared.Mode.{Mode}
use Rattle.range_core.specs.declared.Span.{Span}
use Rattle.range_core.specs.Changes.{mode_in}
use Rattle.range_core.specs.Ranges.{IsRun, Modes}
use Rattle.owner_runs.specs.Trees.{IsNextRun}
use Rattle.owner_runs.proofs.PieceLemmas.{run_of_whole}
use Rattle.owner_runs.proofs.run_tree.RunTree.run_at.Goals as goal

-- the next run, where it begins at the byte or before it, is the one that covers it
run_there : (modes : Modes) (byte : ℕ) (run : Option (Mode × Span)) → IfSome run (IsNextRun modes byte) → IfSome run (λ r. r.1.first ≤ byte) → IfSome run (λ r. IsRun modes byte r.0 r.1)
run_there modes byte None next begins = tt
run_there modes byte (Some run) next begins = run_of_whole modes run byte next.whole (begins, next.reaches)

pub returns-clause-run : goal.returns-clause-run
returns-clause-run c = run_there (mode_in c.args.self.now.items) c.args.byte c.meeting.result c.meeting.ensures.run c.meeting.ensures.begins
