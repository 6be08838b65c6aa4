use Rattle.lock_manager.proofs.kept.UnlockLemmas.{with_no_change}
use Rattle.lock_manager.proofs.machine.Machine.unlock.Goals as goal

pub returns-else-holds_some-clause-ok : goal.returns-else-holds_some-clause-ok
returns-else-holds_some-clause-ok c S h =
    with_no_change c.args.self.now S c.args.file c.args.owner c.args.span (c.holds_some.ensures c.if-holds_some.false) h
