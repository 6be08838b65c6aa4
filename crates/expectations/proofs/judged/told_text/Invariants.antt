use Rattle.std.proofs.Common.{length}
use Rattle.expectations.proofs.WayLemmas.{Way}
use Rattle.expectations.proofs.judged.told_text.Given as goal

abbrev pub invariant-loop-rest : goal.invariant-loop-rest
invariant-loop-rest l = Way l.bytes l.rest l.told.items l.number

abbrev pub decreases-loop-rest : goal.decreases-loop-rest
decreases-loop-rest l = length l.rest
