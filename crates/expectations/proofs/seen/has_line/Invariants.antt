use Rattle.std.proofs.Common.{◌≡◌, length}
use Rattle.expectations.specs.Expectations.{has_line}
use Rattle.expectations.proofs.seen.has_line.Given as goal

abbrev pub invariant-loop-line : goal.invariant-loop-line
invariant-loop-line l = has_line l.text l.line ≡ has_line l.rest l.line

abbrev pub decreases-loop-line : goal.decreases-loop-line
decreases-loop-line l = length l.rest
