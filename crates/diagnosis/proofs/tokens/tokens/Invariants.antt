use Rattle.std.proofs.Common.{◌-◌, ◌<◌, ◌≤◌, All, length}
use Rattle.diagnosis.specs.Places.{BeginsWord}
use Rattle.diagnosis.proofs.tokens.tokens.Given as goal

abbrev pub invariant-loop-start : goal.invariant-loop-start
invariant-loop-start l = record {
  within : l.start ≤ length l.line;
  begins : l.start < length l.line → BeginsWord l.bars l.line l.start;
  words : All (λ token. BeginsWord l.bars l.line token.start) l.tokens.items;
}

abbrev pub decreases-loop-start : goal.decreases-loop-start
decreases-loop-start l = length l.line - l.start
