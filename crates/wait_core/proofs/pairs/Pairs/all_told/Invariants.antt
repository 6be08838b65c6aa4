use Rattle.wait_core.proofs.Common.{ℕ, ◌<◌, get_or, IsTrue, is_member, no_process}
use Rattle.wait_core.proofs.pairs.Pairs.all_told.Given as goal

-- those of the rows so far
abbrev pub invariant-loop-row : goal.invariant-loop-row
invariant-loop-row l = (p q : ℕ) → p < l.row-index → IsTrue (is_member (get_or l.self.rows.items p no_process) q) → IsTrue (is_member l.all q)
