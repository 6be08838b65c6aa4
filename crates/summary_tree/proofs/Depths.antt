-- How deep a balanced node is.
use Rattle.std.proofs.Common.{◌≡◌, ℕ, ◌+◌, ◌*◌, ◌^◌, ◌<◌, ◌≤◌, arith}
use Rattle.std.proofs.Math.Nat.{mul-le-mul_left}
use Rattle.std.proofs.Math.Pow.{pow_mono}
use Rattle.std.proofs.lemmas.Grind.{pow_more}

product : (p q v w : ℕ) → p ≤ q * v → 4 * v ≤ 3 * w → p * 4 ≤ q * 3 * w
product p q v w h k = omega (arith, h, mul-le-mul_left q k)

-- one level more: side is the length of the side that is gone down, and all that of the node
pub deeper : (d side all : ℕ) → 4 ^ d ≤ 3 ^ d * (side + 1) → 4 * (side + 1) ≤ 3 * (all + 1) → 4 ^ (d + 1) ≤ 3 ^ (d + 1) * (all + 1)
deeper d side all h k = rw (pow_more 4 d, pow_more 3 d) (product (4 ^ d) (3 ^ d) (side + 1) (all + 1) h k)

-- the lengths of two sides that this many levels hold
pub holds : (d e m l r all : ℕ) → d ≤ m → e ≤ m → l < 2 ^ d → r < 2 ^ e → all ≡ l + 1 + r → all < 2 ^ (m + 1)
holds d e m l r all h k u v is = rw (pow_more 2 m) (omega (arith, pow_mono h, pow_mono k))

-- more items don't make it deeper
pub no_deeper : (d nodes items : ℕ) → 4 ^ d ≤ 3 ^ d * (nodes + 1) → nodes ≤ items → 4 ^ d ≤ 3 ^ d * (items + 1)
no_deeper d nodes items h k = let m : nodes + 1 ≤ items + 1 = omega arith in omega (arith, h, mul-le-mul_left (3 ^ d) m)
