use Rattle.lock_manager.proofs.kept.WaitLemmas.{elsewhere_still}
use Rattle.lock_manager.proofs.machine.flock_calls.touch_freed.Goals as goal

pub returns-else-freed-clause-blocked : goal.returns-else-freed-clause-blocked
returns-else-freed-clause-blocked c before after known agree still =
    elsewhere_still c.args.waits.now before after (still c.if-freed.false) known
