use Rattle.lock_server.proofs.Common.{number_behind, wait_place, table_state}
use Rattle.lock_server.proofs.ForgetLemmas.{above_from_next, next_from_above}
use Rattle.lock_server.proofs.OwnerWaitLemmas.{all_waits, wait_beyond}
use Rattle.lock_server.proofs.table.Table.next_wait.Goals as goal

pub loop-file-preserved : goal.loop-file-preserved
loop-file-preserved c =
    wait_beyond (table_state c.args.self.now) c.args.last (wait_place c.args.from) c.loop-file.above c.in-Some.file
    (next_from_above c.loop-file.above c.in-Some.file c.in-Some.ensures.above)
    (λ other from before. c.in-Some.ensures.least other (above_from_next c.loop-file.above other from) before)
    c.loop-file.found c.next_wait_on.result c.earlier_of-found.result c.earlier_of-found.ensures c.loop-file.invariant c.next_wait_on.ensures

pub returns : goal.returns
returns c =
    all_waits (table_state c.args.self.now) c.args.last (wait_place c.args.from) (number_behind c.loop-file.above) c.loop-file.found
    (λ file from. c.in_default.ensures.none file (above_from_next c.loop-file.above file from)) c.loop-file.invariant
