use Rattle.std.proofs.Common.{◌≡◌, ◌≤◌, ◌+◌}
use Rattle.history_check.specs.Verdicts.{history_limit}
use Rattle.history_run.specs.HistoryRuns.{IsReadTo}
use Rattle.history_run.proofs.runs.read_history.Given as goal

abbrev pub decreases-loop-left : goal.decreases-loop-left
decreases-loop-left g l = l.left

abbrev pub invariant-loop-left : goal.invariant-loop-left
invariant-loop-left g l =
    IsReadTo l.fn.judging (g.R.Source.remaining l.fn.source) (g.R.Source.remaining l.source) l.check l.left
    × (g.R.Source.failed l.source ≡ g.R.Source.failed l.fn.source)
    × (g.R.Source.calls l.source + l.left ≤ g.R.Source.calls l.fn.source + history_limit)
