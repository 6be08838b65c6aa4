use Rattle.lock_server.proofs.Common.{◌-◌, length, take, AreOfOthers, EntersOn, table_state}
use Rattle.lock_server.proofs.holdings.Holdings.enter_waiting.Given as goal

abbrev pub invariant-loop-wait : goal.invariant-loop-wait
invariant-loop-wait l = EntersOn l.initial.self l.self l.file (AreOfOthers (take l.place ((table_state l.table).files l.file).waits))

abbrev pub decreases-loop-wait : goal.decreases-loop-wait
decreases-loop-wait l = length ((table_state l.table).files l.file).waits - l.place
