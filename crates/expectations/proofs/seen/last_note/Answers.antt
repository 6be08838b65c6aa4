use Rattle.std.proofs.Common.{◌≡◌, ◌∙◌, List, ap, filter, sym}
use Rattle.lock_manager.specs.declared.request.Note.{Note}
use Rattle.session_core.specs.Event.{Event}
use Rattle.expectations.specs.Expectations.{is_about, last_of}
use Rattle.expectations.proofs.NoteLemmas.{events_none, events_some}
use Rattle.expectations.proofs.seen.last_note.Goals.{in-Some, in_default}
use Rattle.expectations.proofs.seen.last_note.Goals as goal

pub loop-entry-preserved : goal.loop-entry-preserved
loop-entry-preserved c =
    let p = c.args.p in
    let n = c.args.n in
    let event : Event = c.entry-item.result in
    let told : last_of (filter (is_about p n) event.notes) ≡ c.last_among.result =
    sym (c.last_among.ensures ∙ ap (λ (l : List Note). last_of (filter (is_about p n) l)) (c.as_slice.ensures ∙ ap (λ (e : Event). e.notes) c.entry.view_is)) in
    elim c.match-last_among.branch [
      | in-Some w ↦ w.last-is ∙ sym (events_some p n c.args.journal.now c.loop-entry.entry-index event w.in-Some.note c.loop-entry-test.true c.entry-item.is (told ∙ w.in-Some.is))
      | in_default w ↦
          w.last-is ∙ c.loop-entry.invariant
          ∙ sym (events_none p n c.args.journal.now c.loop-entry.entry-index event c.loop-entry-test.true c.entry-item.is (told ∙ w.in_default.is))
    ]
