use Rattle.history_core.proofs.ByteLemmas.{set_aside}
use Rattle.history_core.proofs.byte_locks.absorb.Goals as goal

pub returns-clause-gives : goal.returns-clause-gives
returns-clause-gives c = set_aside c.args.aside.now.items c.push.new.self.items c.args.lock c.args.one c.args.span c.in_ok-push.ensures.items
