use Rattle.lock_server.proofs.Common.{length, is_leaving, KeepsOthers, table_state}
use Rattle.lock_server.specs.declared.leaving.Leaving.TheVariants.{All}
use Rattle.lock_server.proofs.ForgetLemmas.{IsDismissing}
use Rattle.lock_server.proofs.table.Table.dismiss_all.Given as goal

abbrev pub invariant-loop : goal.invariant-loop
invariant-loop l = record {
  dismissing : IsDismissing (table_state l.fn.self) l.file (is_leaving All) (table_state l.self);
  others : KeepsOthers l.fn.self l.self l.file;
}

-- each round one wait leaves the file
abbrev pub decreases-loop : goal.decreases-loop
decreases-loop l = length ((table_state l.self).files l.file).waits
