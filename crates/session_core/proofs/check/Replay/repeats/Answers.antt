use Rattle.session_core.proofs.Common.{◌≡◌, ◌≢◌, ◌∙◌, ap, sym, subst, refl, false, true}
use Rattle.session_core.specs.Replaying.{Makes}
use Rattle.session_core.proofs.runs.ReplayLemmas.{Repeats-out_of_turn, Repeats-other_notes}
use Rattle.session_core.proofs.check.Replay.repeats.Goals as goal

pub returns-in-Some-clause-ok : goal.returns-in-Some-clause-ok
returns-in-Some-clause-ok c =
    Repeats-out_of_turn c.step_has_one_outcome.ensures c.args.self.now c.args.self.now c.args.entry.now c.in-Some.expected c.in-Some.ensures

pub returns-then-are_same-clause-ok : goal.returns-then-are_same-clause-ok
returns-then-are_same-clause-ok c =
    let event = c.args.entry.now in
    let same : c.in_ok-notes.notes.items ≡ event.notes =
    sym c.deref.ensures.value ∙ c.if-are_same.ensures.0 refl ∙ c.as_slice.ensures ∙ ap (λ e. e.notes) c.entry.view_is in
    subst (λ notes. Makes c.args.self.now c.take.new.self (record event { notes = notes })) same c.in_ok-notes.ensures.ok

pub returns-else-are_same-clause-ok : goal.returns-else-are_same-clause-ok
returns-else-are_same-clause-ok c =
    let event = c.args.entry.now in
    let other : c.in_ok-notes.notes.items ≢ event.notes =
    λ same.
    let kept : c.as_slice.result.now ≡ event.notes = c.as_slice.ensures ∙ ap (λ e. e.notes) c.entry.view_is in
    let no : false ≡ true = c.if-are_same.ensures.1 (c.deref.ensures.value ∙ same ∙ sym kept) in
    cc in
    Repeats-other_notes c.step_has_one_outcome.ensures c.args.self.now c.take.new.self event c.in_ok-notes.notes other c.in_ok-notes.ensures.ok
