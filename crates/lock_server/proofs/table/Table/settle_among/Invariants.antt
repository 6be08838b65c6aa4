use Rattle.lock_server.proofs.Common.{◌≡◌, length, IsKnown, KeepsRoomOn, KeepsOthers, table_state}
use Rattle.lock_server.proofs.SettleLemmas.{HasLedOn}
use Rattle.lock_server.proofs.table.Table.settle_among.Given as goal

-- what was granted so far has led here
abbrev pub invariant-loop-still : goal.invariant-loop-still
invariant-loop-still l =
    record {
      led : HasLedOn l.policy (table_state l.fn.self) l.file (table_state l.self);
      room : KeepsRoomOn l.fn.self l.self l.file;
      others : KeepsOthers l.fn.self l.self l.file;
      file : l.file ≡ l.fn.file;
      known : IsKnown l.policy ((table_state l.self).files l.file) l.known;
    }

abbrev pub decreases-loop-still : goal.decreases-loop-still
decreases-loop-still l = length ((table_state l.self).files l.file).waits
