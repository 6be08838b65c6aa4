use Rattle.lock_server.proofs.Common.{arith, common_steps, keeps_place}
use Rattle.lock_server.proofs.FlockOwnerLemmas.{AreKnown-sets}
use Rattle.lock_server.proofs.InFileLemmas.{in_file_kept}
use Rattle.lock_server.proofs.RoomLemmas.{HasRoom-kept, KeepsRoom-sets}
use Rattle.lock_server.proofs.file.LockFile.set_flock.Goals as goal

pub invariant_of-self : goal.invariant_of-self
unfolding keeps_place
invariant_of-self c = record {
  ranges = c.args.self.now.ranges;
  room = grind (arith, common_steps, HasRoom-kept, KeepsRoom-sets);
  numbers = grind (arith, common_steps);
  in_file = in_file_kept c.args.self.now.book c.flock_set_reserved.new.self c.flock_set_reserved.ensures.sets.bytes c.args.self.now.in_file;
  known = grind (arith, common_steps, AreKnown-sets);
}

pub returns-clause-room : goal.returns-clause-room
unfolding keeps_place
returns-clause-room c = grind (arith, common_steps, KeepsRoom-sets)
