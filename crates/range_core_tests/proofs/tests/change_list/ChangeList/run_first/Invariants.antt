use Rattle.range_core_tests.proofs.tests.change_list.ChangeList.run_first.Given as goal

abbrev pub decreases-loop-first : goal.decreases-loop-first
decreases-loop-first l = l.first
