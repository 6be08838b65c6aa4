use Rattle.lock_server.proofs.Common.{◌-◌, ◌^◌, through_at, KeepsOthers, table_state}
use Rattle.lock_server.specs.HoldingsView.{AreKept}
use Rattle.lock_server.proofs.ClosingLemmas.{IsClosing}
use Rattle.lock_server.proofs.ForgetLemmas.{next_of}
use Rattle.lock_server.proofs.closing.close.Given as goal

abbrev pub invariant-loop-owner : goal.invariant-loop-owner
invariant-loop-owner l = record {
  closing : IsClosing (table_state l.initial.table) (through_at l.initial.openings) l.file l.open_file (next_of l.above) (table_state l.table)
      (through_at l.openings);
  others : KeepsOthers l.initial.table l.table l.file;
  kept : AreKept l.initial.holdings (table_state l.initial.table) (through_at l.initial.openings) → AreKept l.holdings (table_state l.table) (through_at l.openings);
}

-- each owner is above the one before
abbrev pub decreases-loop-owner : goal.decreases-loop-owner
decreases-loop-owner l = 2 ^ 64 - next_of l.above
