use Rattle.script_core.proofs.Common.{◌≢◌, ◌<◌, ℕ, Some, slice_get}
use Rattle.script_core.proofs.states.place_of.Given as goal

abbrev pub invariant-loop-place : goal.invariant-loop-place
invariant-loop-place l = (at : ℕ) → at < l.place → slice_get l.told at ≢ Some l.line
