use Rattle.std.proofs.Common.{◌-◌}
use Rattle.range_core.specs.declared.TheConstants.{OFFMAX}
use Rattle.range_core_tests.proofs.tests.change_list.ChangeList.run_last.Given as goal

abbrev pub decreases-loop-last : goal.decreases-loop-last
decreases-loop-last l = OFFMAX - l.last
