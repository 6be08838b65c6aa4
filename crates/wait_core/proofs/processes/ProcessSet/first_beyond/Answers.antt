use Rattle.wait_core.proofs.Common.{◌<◌, arith}
use Rattle.std.proofs.Common.{w64, bit_and}
use Rattle.std.specs.Int.{bit_not, trailing_zeros}
use Rattle.std.proofs.lemmas.Nat.{and_le_r}
use Rattle.std.proofs.lemmas.Nat.Bits.{bit_at-trailing_zeros}
use Rattle.wait_core.proofs.ProcessLemmas.{all_within, beyond_at}
use Rattle.wait_core.proofs.processes.ProcessSet.first_beyond.Goals as goal

pub returns-then-beyond-eq0-clause-none : goal.returns-then-beyond-eq0-clause-none
returns-then-beyond-eq0-clause-none c = all_within c.args.self c.args.other (omega arith) c.if-beyond-eq0.true

pub returns-clause-some : goal.returns-clause-some
returns-clause-some c =
    let set = c.args.self in
    let other = c.args.other in
    let left = bit_and set.bits (bit_not w64 other.bits) in
    let some : 0 < left = omega arith in
    let lowest = bit_at-trailing_zeros w64 left some (omega (arith, and_le_r set.bits (bit_not w64 other.bits))) in
    let few : trailing_zeros w64 left < 64 = lowest.0 in
    beyond_at set other _ (trailing_zeros w64 left) (omega arith) (omega (arith, few)) few lowest.1 lowest.2
