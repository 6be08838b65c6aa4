use Rattle.history_judge.proofs.Common.{◌≡◌, ◌++◌, map, beyond, front, left_in}
use Rattle.std.proofs.Common.{vec_len}
use Rattle.history_judge.specs.Merging.{told_as}
use Rattle.history_judge.proofs.order.FileOrder.pass_line.Given as goal

abbrev pub invariant-loop-happening : goal.invariant-loop-happening
invariant-loop-happening l = record {
  lines : l.self.lines ≡ l.initial.self.lines;
  told : l.told.items ++ map (told_as l.behind l.file) (front l.self.lines (left_in l.self).told)
      ≡ l.initial.told.items ++ map (told_as l.behind l.file) (front l.initial.self.lines (left_in l.initial.self).told);
  left : beyond l.self.lines (left_in l.self).told ≡ beyond l.initial.self.lines (left_in l.initial.self).told;
}

abbrev pub decreases-loop-happening : goal.decreases-loop-happening
decreases-loop-happening l = vec_len l.self.happenings
