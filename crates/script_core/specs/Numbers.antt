-- How a decimal number begins (this project's choice).
use Rattle.std.specs.Prelude.{ℕ, ◌<◌, ◌≤◌, List, length, slice_index}

-- the bytes begin with a digit, which is 0 only where it stands alone
pub record BeginsPlainly (bytes : List ℕ) : Type 0 where
  pub at_least : 48 ≤ slice_index bytes 0
  pub at_most : slice_index bytes 0 ≤ 57
  pub no_leading_zero : 1 < length bytes → 48 < slice_index bytes 0
