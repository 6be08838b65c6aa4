use Rattle.std.proofs.Common.{◌≡◌, ◌∙◌, ℕ, true, false, Option, List, ap, subst, sym}
use Rattle.std.specs.Prelude.{IfOk, MatchOption, bytes_eq}
use Rattle.lock_manager.specs.declared.request.Note.{Note as Told}
use Rattle.expectations.specs.Expectations.{Expected, is_met_by, note_seen, seen_by}
use Rattle.expectations.specs.declared.expectation.Wanted.{Wanted}
use Rattle.expectations.specs.declared.expectation.Wanted.TheVariants.{Note}
use Rattle.expectations.proofs.seen.seen.Goals as goal

pub returns-in-Note : goal.returns-in-Note
returns-in-Note c =
    let expected : Expected = c.args.expectation.now in
    let journal = c.args.journal.now in
    let report = c.args.report.now in
    let wanted : expected.wanted ≡ Note c.in-Note.p c.in-Note.n = sym (ap (λ (e : Expected). e.wanted) c.expectation.view_is) ∙ c.in-Note.is in
    let text : c.as_slice-text.result.now ≡ expected.text = c.as_slice-text.ensures.value ∙ ap (λ (e : Expected). e.text) c.expectation.view_is in
    subst
    (λ (w : Wanted).
    IfOk c.seen_of_note.result (λ seen. MatchOption seen (is_met_by w expected.text journal report ≡ true)
    (λ told. (is_met_by w expected.text journal report ≡ false) × (told.items ≡ seen_by w expected.text journal))))
    (sym wanted)
    (subst
    (λ (l : List ℕ).
    IfOk c.seen_of_note.result (λ seen. MatchOption seen (is_met_by (Note c.in-Note.p c.in-Note.n) l journal report ≡ true)
    (λ told. (is_met_by (Note c.in-Note.p c.in-Note.n) l journal report ≡ false) × (told.items ≡ seen_by (Note c.in-Note.p c.in-Note.n) l journal))))
    text
    (subst
    (λ (note : Option Told).
    IfOk c.seen_of_note.result (λ seen. MatchOption seen (bytes_eq (note_seen note) c.as_slice-text.result.now ≡ true)
    (λ told. (bytes_eq (note_seen note) c.as_slice-text.result.now ≡ false) × (told.items ≡ note_seen note))))
    c.last_note.ensures c.seen_of_note.ensures))
