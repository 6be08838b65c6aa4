use Rattle.std.proofs.Common.{◌-◌, ◌≤◌}
use Rattle.range_core_tests.proofs.tests.change_list.ChangeList.first_hit.Given as goal

abbrev pub invariant-loop-span : goal.invariant-loop-span
invariant-loop-span l = l.byte ≤ l.span.last

abbrev pub decreases-loop-span : goal.decreases-loop-span
decreases-loop-span l = l.span.last - l.byte
