use Rattle.lock_server.proofs.Common.{common_steps, arith, Description, file_state, keeps_place}
use Rattle.lock_server.proofs.GrantLemmas.{room_for_one, place_for_one}
use Rattle.lock_server.proofs.RoomLemmas.{HasRoom-granted, HasRoom-kept, KeepsRoom-sets}
use Rattle.lock_server.proofs.file.LockFile.give.Goals as goal

pub set_in_room-requires-clause-room : goal.set_in_room-requires-clause-room
set_in_room-requires-clause-room c =
    let room = room_for_one c.args.self.now c.args.wait.now c.in-Bytes.is c.requires.room in omega arith

pub flock_set_reserved-requires : goal.flock_set_reserved-requires
flock_set_reserved-requires c = λ some. place_for_one c.args.self.now c.args.wait.now c.in-Whole.is c.requires.room

pub returns-in-Bytes-clause-gets : goal.returns-in-Bytes-clause-gets
unfolding file_state
returns-in-Bytes-clause-gets c = rw c.in-Bytes.is (record {
  bytes = λ other byte. c.set_in_room.ensures.sets.bytes (Description other) byte;
  flocks = c.set_in_room.ensures.sets.flocks;
})

pub returns-in-Whole-clause-gets : goal.returns-in-Whole-clause-gets
unfolding file_state
returns-in-Whole-clause-gets c = rw c.in-Whole.is (record {
  bytes = λ other byte. c.flock_set_reserved.ensures.sets.bytes (Description other) byte;
  flocks =
      c.flock_set_reserved.ensures.sets.flocks;
})

pub invariant_of-self : goal.invariant_of-self
unfolding file_state
invariant_of-self c = grind (arith, common_steps, room_for_one, HasRoom-granted)

pub invariant_of-self-in-Whole : goal.invariant_of-self-in-Whole
unfolding file_state
invariant_of-self-in-Whole c = grind (arith, common_steps, HasRoom-kept, KeepsRoom-sets)

pub returns-in-Bytes-clause-kept : goal.returns-in-Bytes-clause-kept
unfolding keeps_place
returns-in-Bytes-clause-kept c = record { places = λ owner there. rw (c.set_in_room.ensures.sets.places owner) there; list = λ room. room }

pub returns-in-Whole-clause-kept : goal.returns-in-Whole-clause-kept
unfolding keeps_place
returns-in-Whole-clause-kept c = grind (arith, common_steps, KeepsRoom-sets)
