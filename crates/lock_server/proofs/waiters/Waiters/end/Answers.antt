use Rattle.lock_server.proofs.Common.{waiter_of}
use Rattle.lock_server.proofs.WaiterLemmas.{Ends-left, waiter_written}
use Rattle.lock_server.proofs.waiters.Waiters.end.Goals as goal

pub returns : goal.returns
unfolding waiter_of
returns c =
    let now = c.leave.new.self in
    let written = waiter_written c.args.self.now _ c.args.owner _ _ now c.get_mut.ensures.value c.in-Some.is (c.get_mut.follows.holds now) in
    Ends-left c.args.self.now _ c.sweep.new.self c.args.owner c.args.file c.in-Some.waiter.now now written.0 written.1 c.leave.ensures c.sweep.ensures
