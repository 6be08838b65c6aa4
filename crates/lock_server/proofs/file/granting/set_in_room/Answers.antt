use Rattle.lock_server.proofs.Common.{arith, Description}
use Rattle.lock_server.proofs.GrantLemmas.{from_ok, sets_behind_room}
use Rattle.lock_server.proofs.file.granting.set_in_room.Goals as goal

pub set_reserved-requires-clause-room : goal.set_reserved-requires-clause-room
set_reserved-requires-clause-room c =
    let kept = from_ok c.reserve.result _ (c.reserve.ensures.there (omega arith)) c.reserve.ensures.kept in let held = c.requires.room in omega arith

pub returns-clause-sets : goal.returns-clause-sets
returns-clause-sets c =
    sets_behind_room c.args.book.now c.reserve.new.self c.set_reserved.new.self (Description c.args.owner) c.args.span _
    (from_ok c.reserve.result _ (c.reserve.ensures.there (omega arith)) c.reserve.ensures.ok) c.set_reserved.ensures.sets

pub returns-clause-room : goal.returns-clause-room
returns-clause-room c =
    let kept = from_ok c.reserve.result _ (c.reserve.ensures.there (omega arith)) c.reserve.ensures.kept in let used = c.set_reserved.ensures.room in omega arith
