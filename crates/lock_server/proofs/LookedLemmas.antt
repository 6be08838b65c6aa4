-- On which bytes a search looked: for `LookedAt`.
use Rattle.lock_server.proofs.Common.{ℕ, ◌≡◌, ◌-◌, ◌<◌, ◌∙◌, inl, inr, sym, ap, subst, arith, Option, Some, None, ◌↔◌, get, Bor, option_copied, nat_cmp, cases_eq, Mode, Span, OwnerRuns, modes_of, Covers, HeldConflicts, IsByteRange, Modes, modes_in_list, LookedAt, IsFirstPartLacking, looked_modes, IsAtLeast}
use Rattle.range_core.specs.Ranges.{IsFirstHit}
use Rattle.lock_server.specs.Lacking.{IsFirstLacking}

pub found_looked : (looked : LookedAt) (file : ℕ) (found : Option (Bor OwnerRuns)) (list : Bor OwnerRuns)
    → option_copied found ≡ get nat_cmp looked.files file → found ≡ Some list → modes_of list.now ≡ looked_modes looked file
found_looked looked file found list value is = ap modes_in_list (sym (ap option_copied is) ∙ value)

pub not_looked : (looked : LookedAt) (file : ℕ) (found : Option (Bor OwnerRuns)) → option_copied found ≡ get nat_cmp looked.files file → found ≡ None
    → (byte : ℕ) → looked_modes looked file byte ≡ None
not_looked looked file found value is byte = ap (λ (l : Option OwnerRuns). modes_in_list l byte) (sym value ∙ ap option_copied is)

none_least : (held : Option Mode) (wanted : Mode) → held ≡ None → ¬ IsAtLeast held wanted
none_least None wanted none least = least
none_least (Some mode) wanted none least = let h : Some mode ≡ None = none in cc

-- a file on which it looked nowhere
pub whole_left : (modes : Modes) (span : Span) (wanted : Mode) → IsByteRange span → ((byte : ℕ) → modes byte ≡ None) → IsFirstPartLacking modes span wanted span
whole_left modes span wanted range none = record {
  from = omega arith;
  any = range.0;
  to = omega arith;
  lacks = λ byte covered least. none_least (modes byte) wanted (none byte) least;
  before = λ byte from less. absurd (omega (arith, from, less));
}

-- from the first byte that lacks the mode on
module _ (modes : Modes) (span : Span) (wanted against : Mode) (same : (held : Option Mode) → HeldConflicts held against ↔ IsAtLeast held wanted) (first : ℕ)
    (lacking : IsFirstLacking modes span wanted first) where
  abbrev Rest : Span
  Rest = record { first = first; last = span.last }

  -- the first one that doesn't is behind it
  pub hit_behind : (byte : ℕ) → IsFirstHit modes Rest against byte → first < byte
  hit_behind byte hit = elim (cases_eq byte first) [
    | inl here ↦
        absurd (lacking.lacks (subst (λ (n : ℕ). IsAtLeast (modes n) wanted) here ((same (modes byte)).0 hit.hit)))
    | inr differs ↦ (let from = hit.covered.0 in omega (arith, from, differs))
  ]

  pub part_to_hit : (byte : ℕ) (part : Span) → IsFirstHit modes Rest against byte → part.first ≡ first → part.last ≡ byte - 1
      → IsFirstPartLacking modes span wanted part
  part_to_hit byte part hit begins ends =
      let behind = hit_behind byte hit in
      let within = hit.covered.1 in
      let start = lacking.covered.0 in
      record {
        from = omega (arith, start, begins);
        any = omega (arith, behind, begins, ends);
        to = omega (arith, within, ends);
        lacks = λ at covered least.
            hit.least at (let c = covered.0 in omega (arith, c, begins)) (let c = covered.1 in omega (arith, c, ends, behind)) ((same (modes at)).1 least);
        before = λ at from less. lacking.before at from (omega (arith, less, begins));
      }

  pub part_to_end : ((byte : ℕ) → Covers Rest byte → ¬ HeldConflicts (modes byte) against) → IsFirstPartLacking modes span wanted Rest
  part_to_end none = record {
    from = lacking.covered.0;
    any = lacking.covered.1;
    to = omega arith;
    lacks = λ at covered least. none at covered ((same (modes at)).1 least);
    before = lacking.before;
  }
