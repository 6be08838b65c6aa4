use Rattle.script_core.proofs.ReadingLemmas.{lock_gives}
use Rattle.script_core.proofs.commands.read_named.Goals as goal

pub returns-in-Lock : goal.returns-in-Lock
returns-in-Lock c = lock_gives c.args.limits c.args.command c.in-Lock.cmd _ _ c.in-Lock.is (c.read_lock.ensures c.args.limits)
