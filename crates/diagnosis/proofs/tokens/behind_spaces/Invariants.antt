use Rattle.std.proofs.Common.{◌≡◌, ◌-◌, ◌<◌, get_or}
use Rattle.diagnosis.proofs.tokens.behind_spaces.Given as goal

abbrev pub invariant-loop-place : goal.invariant-loop-place
invariant-loop-place l = l.from < l.place → get_or l.line (l.place - 1) 0 ≡ 32
