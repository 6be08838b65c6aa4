-- Who blocks a wait: sets of processes, and what one wait more makes of them, and a process by its list; for
-- `Wait::blocking_by_lock`, `Wait::blocking_by_wait` and `Wait::is_blocked_by_list`.
use Rattle.wait_core.proofs.Common.{ℕ, ◌≡◌, ◌≢◌, ◌+◌, ◌<◌, ◌↔◌, ◌∙◌, inl, inr, sym, ap, refl, subst, arith, true, false, Option, Some, None, List, [], ◌∷◌, ◌++◌, Any, length, get_or, take, IsTrue, ◌==◌, ◌||◌, eqb-true, eq-eqb, or_left, or_right, nat_tests, Mode, Span, modes_of, Owner, Process, ByteModes, ProcessBlocks, Wait, ProcessSet, WaitsConflict, IsTraditional, IsConflictOf, is_member}
use Rattle.std.specs.Prelude.{IfSome, IfNone, is_some}
use Rattle.std.proofs.lemmas.List.{take_more}
use Rattle.owner_runs.specs.declared.owner_runs.OwnerRuns.{OwnerRuns}
use Rattle.range_core.specs.Ranges.{Covers, HeldConflicts, IsFirstHit}
use Rattle.wait_core.proofs.AnyLemmas.{Any-append, Any-append_left, Any-append_right, Any-here, Any-alone}
use Rattle.wait_core.proofs.ProcessLemmas.{or_cases}

-- the set has the process that was put in, and else what it had
pub inserted_same : (old new : ProcessSet) (p : ℕ) → ((q : ℕ) → is_member new q ≡ (q == p || is_member old q)) → IsTrue (is_member new p)
inserted_same old new p members = members p ∙ or_left (p == p) (is_member old p) (eq-eqb p p refl)

pub inserted_other : (old new : ProcessSet) (p : ℕ) → ((q : ℕ) → is_member new q ≡ (q == p || is_member old q)) → (q : ℕ) → q ≢ p
    → is_member new q ≡ is_member old q
inserted_other old new p members q other = let no : (q == p) ≡ false = grind (arith, nat_tests) in members q ∙ rw no refl

module _ (wait : Wait) (waits : List Wait) (i : ℕ) (last : Wait) (within : i < length waits) (is : get_or waits i last ≡ last) where
  one_more : take (i + 1) waits ≡ take i waits ++ last ∷ []
  one_more = take_more waits i last within ∙ ap (λ (w : Wait). take i waits ++ w ∷ []) is

  -- one wait more, which is a traditional one in conflict with the wait
  pub conflicts_more : (old new : ProcessSet) → IsTraditional last → WaitsConflict last wait
      → ((q : ℕ) → is_member new q ≡ (q == last.p || is_member old q))
      → ((q : ℕ) → IsTrue (is_member old q) ↔ Any (IsConflictOf q wait) (take i waits)) → (q : ℕ)
      → IsTrue (is_member new q) ↔ Any (IsConflictOf q wait) (take (i + 1) waits)
  conflicts_more old new own conflict members before q = rw one_more (
    λ has. elim (or_cases (q == last.p) (is_member old q) (sym (members q) ∙ has)) [
      | inl here ↦ Any-append_right (IsConflictOf q wait) (take i waits) (last ∷ []) (Any-here (IsConflictOf q wait) last [] (sym (eqb-true q last.p here), own, conflict))
      | inr earlier ↦ Any-append_left (IsConflictOf q wait) (take i waits) (last ∷ []) ((before q).0 earlier)
    ],
    λ any. members q ∙ elim (Any-append (IsConflictOf q wait) (take i waits) (last ∷ []) any) [
      | inl earlier ↦ or_right (q == last.p) (is_member old q) ((before q).1 earlier)
      | inr one ↦ or_left (q == last.p) (is_member old q) (eq-eqb q last.p (sym (Any-alone (IsConflictOf q wait) last one).0))
    ],
  )

  -- and one that isn't
  pub skipped : (set : ProcessSet) → ¬ (IsTraditional last × WaitsConflict last wait)
      → ((q : ℕ) → IsTrue (is_member set q) ↔ Any (IsConflictOf q wait) (take i waits)) → (q : ℕ)
      → IsTrue (is_member set q) ↔ Any (IsConflictOf q wait) (take (i + 1) waits)
  skipped set neither before q = rw one_more (
    λ has. Any-append_left (IsConflictOf q wait) (take i waits) (last ∷ []) ((before q).0 has),
    λ any. elim (Any-append (IsConflictOf q wait) (take i waits) (last ∷ []) any) [
      | inl earlier ↦ (before q).1 earlier
      | inr one ↦ (let here = Any-alone (IsConflictOf q wait) last one in absurd (neither (here.1, here.2)))
    ],
  )

-- a process whose modes stand in a list blocks where the list has a hit
pub list_blocks : (modes : ByteModes) (process : ℕ) (owner : Owner) (span : Span) (wanted : Mode) (list : OwnerRuns) (hit : Option ℕ)
    → Process process ≢ owner → ((byte : ℕ) → modes_of list byte ≡ modes (Process process) byte)
    → IfSome hit (IsFirstHit (modes_of list) span wanted) → IfNone hit ((byte : ℕ) → Covers span byte → ¬ HeldConflicts (modes_of list byte) wanted)
    → IsTrue (is_some hit) ↔ ProcessBlocks modes process owner span wanted
list_blocks modes process owner span wanted list (Some byte) different same first none = (
  λ _. record {
    byte = byte;
    covered = first.covered;
    blocks = record { another = different; conflicts = subst (λ (held : Option Mode). HeldConflicts held wanted) (same byte) first.hit };
  },
  λ _. refl,
)
list_blocks modes process owner span wanted list None different same first none = (
  λ yes. absurd (let no : false ≡ true = yes in cc),
  λ blocks. absurd (none blocks.byte blocks.covered (subst (λ (held : Option Mode). HeldConflicts held wanted) (sym
      (same blocks.byte)) blocks.blocks.conflicts)),
)
