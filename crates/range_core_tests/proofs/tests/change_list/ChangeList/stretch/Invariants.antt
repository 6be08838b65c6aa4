use Rattle.range_core.specs.Ranges.{Covers}
use Rattle.range_core_tests.proofs.tests.change_list.ChangeList.stretch.Given as goal

abbrev pub invariant-loop-change : goal.invariant-loop-change
invariant-loop-change l = Covers l.stretch l.byte
