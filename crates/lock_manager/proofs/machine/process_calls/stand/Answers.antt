use Rattle.lock_manager.proofs.Common.{◌-◌, arith}
use Rattle.lock_manager.proofs.kept.ProcessLemmas.{state_numbered-set}
use Rattle.lock_manager.proofs.machine.process_calls.stand.Goals as goal

pub returns-clause-stands : goal.returns-clause-stands
returns-clause-stands c = state_numbered-set c.args.states.now.items c.args.p (c.from.result - 1) c.args.state (omega arith) (omega arith)
