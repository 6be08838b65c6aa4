-- What becomes of one run.
use Rattle.std.proofs.Common.{inl, inr, ℕ, ◌≡◌, ◌∙◌, Option, None, Some, [], ◌∷◌, sym, ap, arith, refl, false, if◌then◌else◌}
use Rattle.std.proofs.lemmas.Bool.{false≢true}
use Rattle.range_core.specs.declared.Mode.{Mode}
use Rattle.range_core.specs.declared.Span.{Span}
use Rattle.range_core.specs.Changes.{is_covered, mode_in, modes_with, SetsMode}
use Rattle.range_core.specs.Ranges.{Covers, Modes}
use Rattle.owner_runs.specs.Lone.{IsPieceOutside}
use Rattle.owner_runs.specs.Trees.{IsSetOn}
use Rattle.owner_runs.proofs.ModeLemmas.{cases_covers, covered}

-- one run gives its mode to its bytes
one_covers : (mode : Mode) (run : Span) (byte : ℕ) → Covers run byte → mode_in ((mode, run) ∷ []) byte ≡ Some mode
one_covers mode run byte covers = ap (λ b. if b then Some mode else None) (covered run byte covers.0 covers.1)

-- and none to others
one_free : (mode : Mode) (run : Span) (byte : ℕ) → ¬ Covers run byte → mode_in ((mode, run) ∷ []) byte ≡ None
one_free mode run byte free = elim (cases_covers run byte) [
  | inl covers ↦ absurd (free covers)
  | inr not ↦ ap (λ b. if b then Some mode else None) not
]

-- new modes that are this one on the range and the old ones elsewhere
pub set_by : (old new : ℕ → Option Mode) (span : Span) (mode : Option Mode) → ((byte : ℕ) → Covers span byte → new byte ≡ mode) → ((byte : ℕ) → ¬ Covers span byte → new byte ≡ old byte)
    → IsSetOn old new span mode
set_by old new span mode inside outside = record {
  inside = λ byte from upto. inside byte (from, upto);
  below = λ byte before. outside byte (λ covers. omega (arith, before, covers.0));
  above = λ byte behind. outside byte (λ covers. omega (arith, behind, covers.1));
}

-- where each byte of the range has the mode already, modes that stay are those that a set makes
pub set_already : (modes : Modes) (span : Span) (mode : Option Mode) → ((byte : ℕ) → Covers span byte → modes byte ≡ mode) → SetsMode modes modes span mode
set_already modes span mode same byte = elim (cases_covers span byte) as (λ _. modes byte ≡ modes_with modes span mode byte) [
  | inl covers ↦ same byte covers ∙ sym (ap (λ b. if b then mode else modes byte) (covered span byte covers.0 covers.1))
  | inr free ↦ sym (ap (λ b. if b then mode else modes byte) free)
]

-- the run and the range are joined to one of this mode
pub joined_set : (held : Mode) (run : Span) (mode : Mode) (span all : Span) → ((byte : ℕ) → Covers span byte → Covers all byte)
    → ((byte : ℕ) → Covers all byte → ¬ Covers span byte → Covers run byte × (held ≡ mode)) → ((byte : ℕ) → ¬ Covers all byte → ¬ Covers run byte)
    → IsSetOn (mode_in ((held, run) ∷ [])) (mode_in ((mode, all) ∷ [])) span (Some mode)
joined_set held run mode span all inside same outside = set_by _ _ span (Some mode) (λ byte covers. one_covers mode all byte (inside byte covers))
    (λ byte not. elim (cases_covers all byte) as (λ _. mode_in ((mode, all) ∷ []) byte ≡ mode_in ((held, run) ∷ []) byte) [
      | inl covers ↦ let both = same byte covers not in one_covers mode all byte covers ∙ (ap Some (sym both.1) ∙ sym (one_covers held run byte both.0))
      | inr free ↦ ap (λ b. if b then Some mode else None) free ∙ sym (one_free held run byte (outside byte (λ covers. absurd_covers all byte covers free)))
    ])
  where
    absurd_covers : (span : Span) (byte : ℕ) → Covers span byte → is_covered span byte ≡ false → ⊥
    absurd_covers span byte covers free = false≢true (sym free ∙ covered span byte covers.0 covers.1)

-- a piece is left of the run
pub piece_set : (mode : Mode) (run span piece : Span) → IsPieceOutside run span piece → IsSetOn (mode_in ((mode, run) ∷ [])) (mode_in ((mode, piece) ∷ [])) span None
piece_set mode run span piece left = set_by _ _ span None (λ byte covers. one_free mode piece byte (λ there. (left.within byte there).1 covers))
    (λ byte not. elim (cases_covers run byte) as (λ _. mode_in ((mode, piece) ∷ []) byte ≡ mode_in ((mode, run) ∷ []) byte) [
      | inl covers ↦ one_covers mode piece byte (left.all byte covers not) ∙ sym (one_covers mode run byte covers)
      | inr free ↦ one_free mode piece byte (λ there. false≢true (sym free ∙ covered run byte (left.within byte there).0.0 (left.within byte there).0.1))
          ∙ sym (ap (λ b. if b then Some mode else None) free)
    ])

-- nothing is left of the run
pub nothing_set : (mode : Mode) (run span : Span) → ((byte : ℕ) → Covers run byte → Covers span byte) → IsSetOn (mode_in ((mode, run) ∷ [])) (mode_in []) span None
nothing_set mode run span all = set_by _ _ span None (λ byte covers. refl) (λ byte not. sym (one_free mode run byte (λ covers. not (all byte covers))))
