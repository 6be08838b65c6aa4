-- The lock that a get command reports, as the run of it that was met, or the owner's list, tells it: for `Book::first_blocker`.
use Rattle.lock_book.proofs.Common.{◌≡◌, ℕ, inl, inr, true, Option, Some, None, List, sym, ap, ◌∙◌, subst, arith, cases_lt, Mode, Span, Modes, Covers, HeldConflicts, IsRun, Run, holder_of, Holder, Owner, ByteModes, AreRunsWhere, as_holder, holder_modes}
use Rattle.std.specs.Prelude.{IfNone, IfSome}
use Rattle.interval_index.specs.Standing.{IsFirstInTheWay, IsRunThere}
use Rattle.lock_book.specs.declared.Blocker.{Blocker}
use Rattle.lock_book.specs.Conflicts.{IsFirstBlocked, IsFirstBlocker}
use Rattle.lock_book.specs.Indexing.{IsRunOf}
use Rattle.lock_book.proofs.IndexedLemmas.{first_from, holder_at}
use Rattle.lock_book.proofs.ListLemmas.{All-at_Any}

-- a largest range round its first byte is so round each of its bytes
IsRun-at : (modes : Modes) (byte : ℕ) (mode : Mode) (span : Span) → IsRun modes span.first mode span → Covers span byte → IsRun modes byte mode span
IsRun-at modes byte mode span run covers = record {
  covered = covers;
  constant = run.constant;
  largest = λ other within constant.
      let from = covers.0 in let to = covers.1 in let low = within.0 in let high = within.1 in (
        elim (cases_lt other.first span.first) [
          | inl less ↦
              (let wider : Span = record { first = other.first; last = byte } in
              let as_wide = run.largest wider (omega arith, omega arith)
              (λ b w. let start = w.0 in let end = w.1 in constant b (omega arith, omega arith)) in
              as_wide.0)
          | inr h ↦ h
        ],
        elim (cases_lt span.last other.last) [
          | inl less ↦
              (let wider : Span = record { first = span.first; last = other.last } in
              let as_wide = run.largest wider (omega arith, omega arith)
              (λ b w. let start = w.0 in let end = w.1 in
              elim (cases_lt byte b) [ inl h ↦ constant b (omega arith, omega arith) | inr h ↦ run.constant b (omega arith, omega arith) ]) in
              as_wide.1)
          | inr h ↦ h
        ],
      );
}

-- what is first in the way by numbers is by owners
pub blocked_at : (modes : ByteModes) (owner : Owner) (wanted : Mode) (span : Span) (byte : ℕ) (other : Owner) (asked found : Holder) → asked ≡ as_holder owner → as_holder other ≡ found
    → IsFirstInTheWay (holder_modes modes) asked span wanted byte found → IsFirstBlocked modes owner span wanted byte other
blocked_at modes owner wanted span byte other asked found is same first =
    first_from modes owner wanted span byte other
    (subst (λ (h : Holder). IsFirstInTheWay (holder_modes modes) (as_holder owner) span wanted byte h) (sym same)
    (subst (λ (h : Holder). IsFirstInTheWay (holder_modes modes) h span wanted byte found) is first))

module _ (modes : ByteModes) (owner : Owner) (wanted : Mode) (span : Span) (byte : ℕ) (other : Owner) (first : IsFirstBlocked modes owner span wanted byte other) where
  -- a run that was met is the lock
  pub blocker_met : (runs : List Run) → AreRunsWhere (holder_modes modes) (λ run. true) runs → (holder : Holder) → as_holder other ≡ holder → (run : Run)
      → IsRunThere runs holder byte run → IsFirstBlocker modes owner span wanted (record { owner = other; mode = run.mode; span = run.span })
  blocker_met runs are holder same run there =
      let found = All-at_Any (λ r. IsRunOf (holder_modes modes) r × (true ≡ true)) (λ r. r ≡ run) runs are.each there.among in
      let is : IsRunOf (holder_modes modes) run = subst (λ (r : Run). IsRunOf (holder_modes modes) r) found.2 found.1.0 in
      let its : holder_modes modes (holder_of run) ≡ modes other = ap (holder_modes modes) (there.of ∙ sym same) ∙ holder_at modes other in
      record {
        byte = byte;
        first = first;
        run = IsRun-at (modes other) byte run.mode run.span (subst (λ (m : Modes). IsRun m run.span.first run.mode run.span) its is) there.covered;
      }

  -- and so is what the owner's list tells of the byte
  pub blocker_told : (told : Option Blocker) → IfSome told (λ blocker. blocker.owner ≡ other)
      → IfSome told (λ blocker. IsRun (modes other) byte blocker.mode blocker.span) → IfSome told (IsFirstBlocker modes owner span wanted)
  blocker_told None its run = tt
  blocker_told (Some blocker) its run = record {
    byte = byte;
    first = subst (λ (o : Owner). IsFirstBlocked modes owner span wanted byte o) (sym its) first;
    run = subst (λ (o : Owner). IsRun (modes o) byte blocker.mode blocker.span) (sym its) run;
  }

  -- which tells one
  pub blocker_told-some : (P : Type 0) (told : Option Blocker) → IfNone told (modes other byte ≡ None) → IfNone told P
  blocker_told-some P None free = absurd (subst (λ (held : Option Mode). HeldConflicts held wanted) free first.blocks.conflicts)
  blocker_told-some P (Some blocker) free = tt
