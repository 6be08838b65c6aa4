use Rattle.replay_core.proofs.Common.{◌≡◌, ◌≤◌, ◌+◌, ◌-◌, length, SCRIPT_MAX}
use Rattle.std.specs.Io.KnownBytes.{Consumes}
use Rattle.replay_core.proofs.replays.read_script.Given as goal

abbrev pub decreases-loop-chunk : goal.decreases-loop-chunk
decreases-loop-chunk g l = SCRIPT_MAX + 1 - length l.bytes.items

abbrev pub invariant-loop-chunk : goal.invariant-loop-chunk
invariant-loop-chunk g l =
    Consumes (g.R.Source.remaining l.fn.source) (g.R.Source.remaining l.source) l.bytes.items
    × (length l.bytes.items ≤ SCRIPT_MAX + 1)
    × (g.R.Source.failed l.source ≡ g.R.Source.failed l.fn.source)
    × (g.R.Source.calls l.source ≤ g.R.Source.calls l.fn.source + length l.bytes.items)
