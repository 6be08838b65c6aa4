use Rattle.lock_server.proofs.Common.{arith, Waiter, Waiters, waiter_of}
use Rattle.lock_server.proofs.WaiterLemmas.{waiter_written}
use Rattle.lock_server.proofs.waiters.Waiters.reserve.Goals as goal

pub returns-in_ok-reserve-in-Some-clause-ok : goal.returns-in_ok-reserve-in-Some-clause-ok
unfolding waiter_of
returns-in_ok-reserve-in-Some-clause-ok c =
    let now : Waiter = record { files = c.reserve.new.self; crossed = c.in-Some.waiter.now.crossed } in
    let new : Waiters = record { owners = c.get_mut.follows.lender now; alloc = c.args.self.now.alloc } in
    let written = waiter_written c.args.self.now new c.args.owner _ _ now c.get_mut.ensures.value c.in-Some.is (c.get_mut.follows.holds now) in record {
      waiter = now;
      is = written.1.here;
      room = (let room = c.in_ok-reserve-in-Some.ensures.ok in omega arith);
    }
