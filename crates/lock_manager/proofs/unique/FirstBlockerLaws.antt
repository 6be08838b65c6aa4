-- The lock that a get command reports is determined.
use Rattle.lock_manager.proofs.Common.{common_steps, ◌≡◌, ℕ, sym, ◌∙◌, arith, same_Some, Mode, Span, Owner, ByteModes, IsFirstBlocker}
use Rattle.std.proofs.lemmas.Bool.{cases_order}
use Rattle.range_core.specs.Ranges.{Modes, IsRun}
use Rattle.lock_book.specs.Conflicts.{IsFirstBlocked}
use Rattle.lock_manager.proofs.unique.AtMostOneLemmas.{AtMostOne}

-- the least byte that is blocked is one
one_byte : (modes : ByteModes) (owner : Owner) (span : Span) (wanted : Mode) (b c : ℕ) (one other : Owner)
    → IsFirstBlocked modes owner span wanted b one → IsFirstBlocked modes owner span wanted c other → b ≡ c
one_byte modes owner span wanted b c one other h k = grind (arith, common_steps, cases_order)

-- the least owner that blocks there is one
one_owner : (modes : ByteModes) (owner : Owner) (span : Span) (wanted : Mode) (b : ℕ) (one other : Owner)
    → IsFirstBlocked modes owner span wanted b one → IsFirstBlocked modes owner span wanted b other → one ≡ other
one_owner modes owner span wanted b one other h k = grind (arith, common_steps, cases_order)

-- the mode on the byte is one
one_mode : (modes : Modes) (byte : ℕ) (m k : Mode) (s t : Span) → IsRun modes byte m s → IsRun modes byte k t → m ≡ k
one_mode modes byte m k s t one other = same_Some m k (sym (one.constant byte one.covered) ∙ other.constant byte other.covered)

-- the largest range is one
one_range : (modes : Modes) (byte : ℕ) (mode : Mode) (s t : Span) → IsRun modes byte mode s → IsRun modes byte mode t → s ≡ t
one_range modes byte mode s t one other = grind (arith, common_steps)

-- the first blocker is one
pub IsFirstBlocker-unique : (modes : ByteModes) (owner : Owner) (span : Span) (wanted : Mode) → AtMostOne (IsFirstBlocker modes owner span wanted)
IsFirstBlocker-unique modes owner span wanted x y h k = grind (arith, common_steps, one_byte, one_owner, one_mode, one_range)
