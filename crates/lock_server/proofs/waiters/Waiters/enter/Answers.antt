use Rattle.lock_server.proofs.Common.{arith, false, waiter_of}
use Rattle.lock_server.proofs.waiters.Waiters.enter.Goals as goal

pub returns-clause-ok : goal.returns-clause-ok
unfolding waiter_of
returns-clause-ok c = record {
  waiter = record { files = c.reserve.new.self; crossed = false };
  is = c.in_ok-insert.ensures.updates.1;
  room = (let room = c.in_ok-reserve.ensures.ok in omega arith);
}
