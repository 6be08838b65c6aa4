use Rattle.wait_core.proofs.PairLemmas.{IsClearedBefore, IsLeftFrom}
use Rattle.wait_core.proofs.pairs.Pairs.clear.Given as goal

abbrev pub invariant-loop-row : goal.invariant-loop-row
invariant-loop-row l = record {
  cleared : IsClearedBefore l.initial.row-items l.row-items l.process l.row-index;
  left : IsLeftFrom l.initial.row-items l.row-items l.row-index;
}
