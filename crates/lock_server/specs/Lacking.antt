-- Where modes lack a wanted one (the words are this project's choice).
use Rattle.std.specs.Prelude.{ℕ, ◌<◌, ◌≤◌}
use Rattle.range_core.specs.declared.Mode.{Mode}
use Rattle.range_core.specs.declared.Span.{Span}
use Rattle.range_core.specs.Ranges.{Covers, Modes}
use Rattle.lock_server.specs.Settling.{IsAtLeast}

-- the first byte of the range on which there isn't at least the mode
pub record IsFirstLacking (modes : Modes) (span : Span) (wanted : Mode) (first : ℕ) : Type 0 where
  pub covered : Covers span first
  pub lacks : ¬ IsAtLeast (modes first) wanted
  pub before : (byte : ℕ) → span.first ≤ byte → byte < first → IsAtLeast (modes byte) wanted

-- the first part of the range on no byte of which there is at least the mode
pub record IsFirstPartLacking (modes : Modes) (span : Span) (wanted : Mode) (part : Span) : Type 0 where
  pub from : span.first ≤ part.first
  pub any : part.first ≤ part.last
  pub to : part.last ≤ span.last
  pub lacks : (byte : ℕ) → Covers part byte → ¬ IsAtLeast (modes byte) wanted
  pub before : (byte : ℕ) → span.first ≤ byte → byte < part.first → IsAtLeast (modes byte) wanted
