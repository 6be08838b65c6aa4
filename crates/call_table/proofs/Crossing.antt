-- Threads may share a bench, since its session may cross threads. A program that shares one names `bench_sync`: `search` alone goes round in the
-- tree of a lock book's index.
use denote.Param.Send.{sendable, IsSync}
use denote.Param.SendFields.{declared_sync, as_row_sync}
use Rattle.std.proofs.Crossing.{crosses}
use Rattle.session_core.proofs.Crossing.{session_send}
use Rattle.call_table.specs.contracts.bench.Bench as bench

pub bench_sync : IsSync bench.the_row
bench_sync = search (session_send, declared_sync, as_row_sync, crosses, sendable) depth 20
