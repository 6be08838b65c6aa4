use Rattle.lock_manager.proofs.Common.{machine_state}
use Rattle.lock_manager.proofs.kept.WaitLemmas.{those_waiting}
use Rattle.lock_manager.proofs.machine.Machine.waiting.Goals as goal

pub returns : goal.returns
unfolding machine_state
returns c =
    let self = c.args.self.now in
    those_waiting self.tables self.states.items _ c.waiting.result c.waiting.ensures self.standing
