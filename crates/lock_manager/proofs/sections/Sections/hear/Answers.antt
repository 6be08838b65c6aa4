use Rattle.lock_manager.proofs.Common.{arith, ◌∙◌}
use Rattle.lock_manager.proofs.SectionLemmas.{heard_next}
use Rattle.lock_manager.proofs.sections.Sections.hear.Goals as goal

pub loop-note-preserved : goal.loop-note-preserved
loop-note-preserved c =
    let i = c.loop-note.invariant in
    let e = c.hear_one.ensures in
    record {
      visits = λ q section. e.visits q section ∙ i.visits q section;
      refused = λ q some few. heard_next c.args.told.now c.loop-note.note-index _ q _ _ _ c.loop-note-test.true (i.refused q some few)
          (e.refused q some (omega (arith, few, i.all)));
      all = e.all ∙ i.all;
    }
