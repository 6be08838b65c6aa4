use Rattle.lock_server.proofs.Common.{◌∙◌, refl, sym}
use Rattle.lock_server.proofs.WaiterLemmas.{LeavesFile-none, LeavesFile-removes}
use Rattle.lock_server.proofs.waiters.Waiter.leave.Goals as goal

pub returns-in-Some : goal.returns-in-Some
returns-in-Some c = LeavesFile-removes c.args.self.now _ c.args.file c.in-Some.place c.remove.result (sym c.place_of.ensures ∙ c.in-Some.is) (sym c.remove.ensures.value) c.remove.ensures.items refl

pub returns-in_default : goal.returns-in_default
returns-in_default c = LeavesFile-none c.args.self.now c.args.file (sym c.place_of.ensures ∙ c.in_default.is)
