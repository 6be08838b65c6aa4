use Rattle.script_core.proofs.Common.{[], Ok, texts, NotesGive}
use Rattle.script_core.proofs.entry.read_notes.Given as goal

abbrev pub invariant-loop-piece : goal.invariant-loop-piece
invariant-loop-piece l = NotesGive l.limits [] (texts l.yielded) (Ok l.notes.items)
