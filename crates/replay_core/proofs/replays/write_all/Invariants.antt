use Rattle.replay_core.proofs.Common.{◌≡◌, length}
use Rattle.replay_core.proofs.DeviceLemmas.{HasWritten}
use Rattle.replay_core.proofs.replays.write_all.Given as goal

abbrev pub decreases-loop-rest : goal.decreases-loop-rest
decreases-loop-rest g l = length l.rest

abbrev pub invariant-loop-rest : goal.invariant-loop-rest
invariant-loop-rest g l =
    HasWritten (g.W.Sink.written l.fn.sink) (g.W.Sink.written l.sink) l.fn.text l.rest
    × (g.W.Sink.failed l.sink ≡ g.W.Sink.failed l.fn.sink)
