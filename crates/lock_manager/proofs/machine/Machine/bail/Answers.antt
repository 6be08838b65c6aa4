use Rattle.lock_manager.proofs.Common.{[]}
use Rattle.lock_manager.proofs.machine.Machine.bail.Goals as goal

pub returns-then-was_refused-clause-told : goal.returns-then-was_refused-clause-told
returns-then-was_refused-clause-told c S h is = rw (c.requires.empty, is, c.if-was_refused.true) (c.end.ensures.ends [] S h)
