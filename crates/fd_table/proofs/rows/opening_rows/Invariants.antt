use Rattle.fd_table.proofs.Common.{ℕ, ◌≡◌, ◌<◌, length, row_at}
use Rattle.fd_table.specs.Rows.{opening_row}
use Rattle.fd_table.proofs.rows.opening_rows.Given as goal

-- the rows so far are those of the opening
abbrev pub invariant-loop-p : goal.invariant-loop-p
invariant-loop-p l = record {
  count : length l.rows.items ≡ l.p;
  rows : (q : ℕ) → q < l.p → row_at l.rows.items q ≡ opening_row l.len q;
}
