use Rattle.history_core.proofs.ByteLemmas.{owner_of_held}
use Rattle.history_core.proofs.byte_locks.ByteLocks.anybody_holds.Goals as goal

pub returns : goal.returns
returns c = (
  λ holds. let some = c.some_owner_holds.ensures.0 holds in (some.1.owner, some.4),
  λ held. c.some_owner_holds.ensures.1 (owner_of_held c.args.self.now.runs.items c.args.runs c.args.asked c.args.mode c.args.span held.0 held.1),
)
