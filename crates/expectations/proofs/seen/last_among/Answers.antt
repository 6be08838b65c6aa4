use Rattle.std.proofs.Common.{◌∙◌, sym}
use Rattle.expectations.proofs.NoteLemmas.{among_no, among_yes}
use Rattle.expectations.proofs.seen.last_among.Goals.{then-is_about, else-is_about}
use Rattle.expectations.proofs.seen.last_among.Goals as goal

pub loop-note-preserved : goal.loop-note-preserved
loop-note-preserved c =
    elim c.if-is_about.branch [
      | then-is_about w ↦
          w.last-is ∙ sym (among_yes c.args.p c.args.n c.args.notes.now c.loop-note.note-index _ c.loop-note-test.true (sym c.is_about.ensures ∙ w.if-is_about.true))
      | else-is_about w ↦
          w.last-is ∙ c.loop-note.invariant
          ∙ sym (among_no c.args.p c.args.n c.args.notes.now c.loop-note.note-index _ c.loop-note-test.true (sym c.is_about.ensures ∙ w.if-is_about.false))
    ]
