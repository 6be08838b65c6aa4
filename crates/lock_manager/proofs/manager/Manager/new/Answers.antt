use Rattle.lock_manager.proofs.Common.{arith, common_steps, opening_state}
use Rattle.lock_manager.proofs.calls.ManagerLemmas.{safe_machine, stands_for, opening_says}
use Rattle.lock_manager.proofs.manager.Manager.new.Goals as goal

pub invariant_of-result : goal.invariant_of-result
invariant_of-result c = grind (arith, common_steps, safe_machine)

pub returns-clause-opening : goal.returns-clause-opening
returns-clause-opening c =
    stands_for _ opening_state c.in_ok-machine.ensures.opening
    (opening_says _ c.in_ok-sections.ensures.nobody)
