use Rattle.replay_core.proofs.Common.{◌≡◌, ◌≤◌, ◌+◌, journal_limit}
use Rattle.replay_core.proofs.JournalSourceLemmas.{IsReadSoFar}
use Rattle.replay_core.proofs.checks.read_journal.Given as goal

abbrev pub decreases-loop-left : goal.decreases-loop-left
decreases-loop-left g l = l.left

abbrev pub invariant-loop-left : goal.invariant-loop-left
invariant-loop-left g l =
    IsReadSoFar (g.R.Source.remaining l.fn.source) (g.R.Source.remaining l.source) l.checking l.left
    × (g.R.Source.failed l.source ≡ g.R.Source.failed l.fn.source)
    × (g.R.Source.calls l.source + l.left ≤ g.R.Source.calls l.fn.source + (journal_limit + 1))
