use Rattle.std.proofs.Common.{ℕ, ◌<◌, get_or}
use Rattle.diagnosis.specs.Places.{IsPrintable}
use Rattle.diagnosis.proofs.bytes.stray_place.Given as goal

abbrev pub invariant-loop-place : goal.invariant-loop-place
invariant-loop-place l = (before : ℕ) → before < l.place → IsPrintable (get_or l.line before 0)
