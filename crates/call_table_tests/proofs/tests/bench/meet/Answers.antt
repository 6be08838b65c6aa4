use denote.Param.Send.{sendable, IsSync}
use denote.Param.SendFields.{variants_sync, as_row_sync}
use Rattle.lock_manager.specs.contracts.Reply as reply
use Rattle.lock_manager.specs.contracts.Request as request
use Rattle.call_table_tests.specs.contracts.tests.bench.Step as step
use Rattle.call_table.proofs.Crossing.{bench_sync}
use Rattle.call_table_tests.proofs.tests.bench.meet.Goals as goal

request_sync : IsSync request.the_row
request_sync = search sendable depth 40 fits 5000

reply_sync : IsSync reply.the_row
reply_sync = search sendable depth 40 fits 5000

step_sync : IsSync step.the_row
step_sync = search (request_sync, reply_sync, variants_sync, as_row_sync, sendable) depth 20

pub join-waited-requires-send-F : goal.join-waited-requires-send-F
join-waited-requires-send-F g c κs within = search (bench_sync, step_sync, sendable) depth 40 fits 5000
