use Rattle.lock_server.proofs.Common.{wait_place}
use Rattle.lock_server.proofs.OwnerWaitLemmas.{wait_joins}
use Rattle.lock_server.proofs.file.listing.AskedForWalkPendingHullOptionOwnerWait.see.Goals as goal

pub returns : goal.returns
returns c seen so_far =
    wait_joins seen c.args.pending.now c.args.self.now.file c.args.self.now.last (wait_place c.args.self.now.from) c.args.found.now c.asked_for.result c.earlier_of.result c.earlier_of.ensures so_far
    c.asked_for.ensures
