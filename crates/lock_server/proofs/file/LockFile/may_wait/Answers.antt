use Rattle.lock_server.proofs.Common.{◌≡◌, ◌∙◌, sym, arith, Description, room_in, file_state}
use Rattle.lock_server.proofs.RoomFreeLemmas.{no_room_no_wait}
use Rattle.lock_server.proofs.file.LockFile.may_wait.Goals as goal

pub returns-else-room-gt0 : goal.returns-else-room-gt0
unfolding file_state
returns-else-room-gt0 c = λ told.
    let file = c.args.self.now in
    let none : room_in file.book (Description c.args.owner) ≡ 0 = (let room = c.room.ensures in let few = c.if-room-gt0.false in omega (arith, room, few)) in
    no_room_no_wait file.book file.waits.items c.args.owner file.room none (sym c.flock_room.ensures ∙ told)
