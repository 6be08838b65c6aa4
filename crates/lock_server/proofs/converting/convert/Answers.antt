use Rattle.lock_server.proofs.Common.{whole_file, Whole, table_state}
use Rattle.lock_server.proofs.GrantedMoves.{KeepsRoomOn-then}
use Rattle.lock_server.proofs.SafeLemmas.{moves_unset}
use Rattle.lock_server.proofs.ServerLemmas.{safe_rested}
use Rattle.lock_server.proofs.converting.convert.Goals as goal

pub returns-clause-safe : goal.returns-clause-safe
returns-clause-safe c safe =
    let table = c.args.table.now in
    let set = c.set_flock.new.self in
    safe_rested c.args.policy table c.settle.new.self _ (table_state set) c.args.file safe
    (moves_unset (table_state table) c.args.file Whole c.args.holder whole_file (table_state set) c.set_flock.ensures.sets)
    (record { settles = c.settle.ensures.settles; settled = c.settle.ensures.settled })

pub returns-clause-room : goal.returns-clause-room
returns-clause-room c = KeepsRoomOn-then c.args.table.now c.set_flock.new.self c.settle.new.self c.args.file c.set_flock.ensures.room c.settle.ensures.room
