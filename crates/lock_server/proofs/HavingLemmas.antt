-- What an owner has on each byte of a range, run by run: for `first_lacking`.
use Rattle.lock_server.proofs.Common.{ℕ, ◌≡◌, ◌<◌, ◌≤◌, refl, Bool, true, false, Option, Some, None, ◌↔◌, IfNone, IfSome, IsTrue, is_some, Mode, Span, Covers, Modes, IsAtLeast}
use Rattle.std.specs.Prelude.{not}
use Rattle.lock_server.specs.Lacking.{IsFirstLacking}

-- on each byte of the range before this one there is at least the wanted mode
pub record HasBelow (modes : Modes) (span : Span) (wanted : Mode) (first : ℕ) : Type 0 where
  pub from : span.first ≤ first
  pub to : first ≤ span.last
  pub before : (byte : ℕ) → span.first ≤ byte → byte < first → IsAtLeast (modes byte) wanted

-- where no byte lacks the mode, there is at least the mode on each
pub none_lacking : (modes : Modes) (span : Span) (wanted : Mode) (found : Option ℕ) (answer : Bool) → is_some found ≡ not answer
    → IfSome found (IsFirstLacking modes span wanted) → IfNone found ((byte : ℕ) → Covers span byte → IsAtLeast (modes byte) wanted)
    → IsTrue answer ↔ ((byte : ℕ) → Covers span byte → IsAtLeast (modes byte) wanted)
none_lacking modes span wanted None true is some none = (λ yes. none, λ all. refl)
none_lacking modes span wanted None false is some none = let h : false ≡ true = is in cc
none_lacking modes span wanted (Some first) true is some none = let h : true ≡ false = is in cc
none_lacking modes span wanted (Some first) false is some none = (
  λ yes. absurd (let h : false ≡ true = yes in cc),
  λ all. absurd (some.lacks (all first some.covered)),
)
