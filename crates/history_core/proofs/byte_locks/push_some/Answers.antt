use Rattle.history_core.proofs.ByteLemmas.{pushed}
use Rattle.history_core.proofs.byte_locks.push_some.Goals as goal

pub returns-in_ok-push-clause-gives : goal.returns-in_ok-push-clause-gives
returns-in_ok-push-clause-gives c = pushed c.args.rest.now.items c.push.new.self.items c.in-Some.lock c.args.lock c.in_ok-push.ensures.items c.in-Some.is
