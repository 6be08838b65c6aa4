-- Notes that are taken as a server has them: for `Parts::openings`.
use Rattle.lock_server.proofs.Common.{ℕ, ◌≡◌, ◌≢◌, ◌∙◌, ◌<◌, ◌≤◌, ◌+◌, sym, ap, subst, refl, arith, inl, inr, Option, Some, None, List, get_or, length, cases_eq, AreNotesOf, SameOpenings, SeesOn, through_at}
use Rattle.lock_server.specs.declared.import.parts.Note.{Note}
use Rattle.lock_server.specs.declared.openings.Openings.{Openings}

-- where these notes are taken, the openings are those of the server, and elsewhere there is none
pub record AreTaken (through : ℕ → ℕ → Option ℕ) (notes : List Note) (place : ℕ) (now : ℕ → ℕ → Option ℕ) : Type 0 where
  pub fewer : (file owner open_file : ℕ) → now file owner ≡ Some open_file → through file owner ≡ Some open_file
  pub there : (k : ℕ) (d : Note) → k < place → k < length notes → now (get_or notes k d).file (get_or notes k d).owner ≡ through (get_or notes k d).file (get_or notes k d).owner

pub taken_none : (through : ℕ → ℕ → Option ℕ) (notes : List Note) (now : ℕ → ℕ → Option ℕ) → ((file owner : ℕ) → now file owner ≡ None)
    → AreTaken through notes 0 now
taken_none through notes now none = record {
  fewer = λ file owner open_file is. (let no : None ≡ Some open_file = sym (none file owner) ∙ is in absurd (cc));
  there = λ k d before within. absurd (omega (arith, before));
}

-- what is noted is there, and what was there stays
module _ (through : ℕ → ℕ → Option ℕ) (was now : ℕ → ℕ → Option ℕ) (note : Note) (says : through note.file note.owner ≡ Some note.open_file)
    (sees : SeesOn was now note.file note.owner (Some note.open_file)) where
  either : (P : ℕ → ℕ → Type 0) → P note.file note.owner → ((file owner : ℕ) → now file owner ≡ was file owner → P file owner) → (file owner : ℕ) → P file owner
  either P here others file owner = elim (cases_eq file note.file) [
    | inl same_file ↦ subst (λ (f : ℕ). P f owner) (sym same_file) (elim (cases_eq owner note.owner) [
      | inl same_owner ↦ subst (λ (o : ℕ). P note.file o) (sym same_owner) here
      | inr differs ↦ others note.file owner (sees.others owner differs)
    ])
    | inr differs ↦ others file owner (sees.elsewhere file owner differs)
  ]

  kept : (file owner : ℕ) → was file owner ≡ through file owner → now file owner ≡ through file owner
  kept = either (λ file owner. was file owner ≡ through file owner → now file owner ≡ through file owner)
      (λ before. sees.here ∙ sym says) (λ file owner same before. same ∙ before)

  still_fewer : ((file owner open_file : ℕ) → was file owner ≡ Some open_file → through file owner ≡ Some open_file)
      → (file owner open_file : ℕ) → now file owner ≡ Some open_file → through file owner ≡ Some open_file
  still_fewer fewer = either (λ file owner. (open_file : ℕ) → now file owner ≡ Some open_file → through file owner ≡ Some open_file)
      (λ open_file is. says ∙ sym sees.here ∙ is) (λ file owner same open_file is. fewer file owner open_file (sym same ∙ is))

  pub taken_more : (notes : List Note) (place : ℕ) → ((d : Note) → place < length notes → get_or notes place d ≡ note) → AreTaken through notes place was
      → AreTaken through notes (place + 1) now
  taken_more notes place at taken = record {
    fewer = still_fewer taken.fewer;
    there = λ k d before within. elim (cases_eq k place) [
      | inl last ↦
          let is : get_or notes k d ≡ note = ap (λ (n : ℕ). get_or notes n d) last ∙ at d (omega (arith, last, within)) in
          subst (λ (n : Note). now n.file n.owner ≡ through n.file n.owner) (sym is) (sees.here ∙ sym says)
      | inr earlier ↦ kept (get_or notes k d).file (get_or notes k d).owner (taken.there k d (less k before earlier) within)
    ];
  }
    where
      less : (k : ℕ) → k < place + 1 → k ≢ place → k < place
      less k before differs = elim (cases_eq k place) [
        | inl same ↦ absurd (differs same)
        | inr other ↦ grind arith
      ]

pub taken_all : (through : ℕ → ℕ → Option ℕ) (notes : List Note) (place : ℕ) (openings : Openings) → AreNotesOf through notes → length notes ≤ place
    → AreTaken through notes place (through_at openings) → SameOpenings through (through_at openings)
taken_all through notes place openings of past taken = record { through = λ file owner. sym (same file owner (through file owner) (through_at openings file owner) refl refl) }
  where
    same : (file owner : ℕ) (one other : Option ℕ) → through file owner ≡ one → through_at openings file owner ≡ other → through file owner ≡ through_at openings file owner
    same file owner None None is now = is ∙ sym now
    same file owner None (Some open_file) is now = taken.fewer file owner open_file now ∙ sym now
    same file owner (Some open_file) other is now =
        let note : Note = record { file = file; owner = owner; open_file = open_file } in
        let at = of.each file owner open_file is in
        let there = taken.there at.0 note (let inside = at.1 in omega arith) at.1 in
        sym (subst (λ (n : Note). through_at openings n.file n.owner ≡ through n.file n.owner) at.2 there)
