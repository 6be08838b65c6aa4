use Rattle.lock_server.proofs.Common.{ℕ, Option, AreNotesOf, through_at}
use Rattle.lock_server.proofs.NoteLemmas.{AreTaken}
use Rattle.lock_server.proofs.import.parts.Parts.openings.Given as goal

abbrev pub invariant-loop-note : goal.invariant-loop-note
invariant-loop-note l = (through : ℕ → ℕ → Option ℕ) → AreNotesOf through l.self.notes.items → AreTaken through l.self.notes.items l.note-index (through_at l.openings)
