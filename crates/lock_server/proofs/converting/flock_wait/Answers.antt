use Rattle.lock_server.proofs.Common.{sym, subst, Option, Mode, Conversion, Stepwise, FlockWaitFrom, WaitConversionComesTo, table_state}
use Rattle.lock_server.proofs.FlockLemmas.{place_from_room}
use Rattle.lock_server.proofs.converting.flock_wait.Goals as goal

pub convert-requires : goal.convert-requires
convert-requires c = place_from_room c.args.table.now c.args.file c.args.wanted c.requires.flock.0 c.requires.room

pub flock_or_wait-requires-in-Stepwise-clause-room : goal.flock_or_wait-requires-in-Stepwise-clause-room
flock_or_wait-requires-in-Stepwise-clause-room c = c.convert.ensures.room.requests c.args.wanted c.requires.flock.0 c.requires.flock.1 c.requires.room

pub returns-in_default-clause-comes_to : goal.returns-in_default-clause-comes_to
returns-in_default-clause-comes_to c =
    subst (λ (held : Option Mode). FlockWaitFrom c.args.rules (table_state c.args.table.now) c.args.file c.args.wanted held c.flock_or_wait.result
    (table_state c.flock_or_wait.new.table)) (sym c.in_default.is) c.flock_or_wait.ensures.comes_to

pub returns-in-Stepwise-clause-comes_to : goal.returns-in-Stepwise-clause-comes_to
returns-in-Stepwise-clause-comes_to c =
    let S = table_state c.args.table.now in let M = table_state c.convert.new.table in let T = table_state c.flock_or_wait-in-Stepwise.new.table in
    let wanted = c.args.wanted in
    let told = c.flock_or_wait-in-Stepwise.result in
    let stepwise : WaitConversionComesTo Stepwise c.args.rules.policy S c.args.file wanted told T = (M, c.convert.ensures.converts, c.flock_or_wait-in-Stepwise.ensures.comes_to) in
    let converts = subst (λ (k : Conversion). WaitConversionComesTo k c.args.rules.policy S c.args.file wanted told T) (sym c.in-Stepwise.is) stepwise in
    subst (λ (held : Option Mode). FlockWaitFrom c.args.rules S c.args.file wanted held told T) (sym c.in-Some.is) converts
