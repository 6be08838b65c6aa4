use Rattle.std.proofs.Common.{arith}
use Rattle.std.proofs.lemmas.Grind.{common_steps}
use Rattle.range_core.specs.Changes.{modes_of}
use Rattle.range_core.proofs.ModeLemmas.{reads_conflict_not}
use Rattle.range_core.proofs.list.RangeList.never_conflicts_with.Goals as goal

pub returns-then-self : goal.returns-then-self
unfolding modes_of
returns-then-self c read byte conflicts =
    reads_conflict_not c.args.self.now.runs.items byte (c.args.self.now.read c.if-self.true) (grind (arith, common_steps))
