use Rattle.replay_core.proofs.Common.{◌≡◌, ◌<◌, ◌+◌, ℕ, Some, slice_get}
use Rattle.replay_core.specs.Gathering.{HasAllTaken}
use Rattle.replay_core.proofs.threads.has_all_taken.Given as goal

abbrev pub invariant-loop-count : goal.invariant-loop-count
invariant-loop-count l =
    (l.process ≡ l.count-index)
    × ((i count : ℕ) → i < l.count-index → slice_get l.fn.counts i ≡ Some count → HasAllTaken l.fn.session (i + 1) count)
