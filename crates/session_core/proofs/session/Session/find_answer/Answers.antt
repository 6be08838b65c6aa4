use Rattle.session_core.proofs.Common.{arith, ◌≡◌, ◌∙◌, ap, sym, Some, common_steps, answers_in, answers_to, reply_among, events_in}
use Rattle.session_core.proofs.AnswerLemmas.{reply_to-skip, reply_to-hit}
use Rattle.session_core.proofs.session.Session.find_answer.Goals as goal

pub returns-in-Some : goal.returns-in-Some
unfolding events_in
returns-in-Some c =
    let events = c.deref-entry-items.result.now in
    let notes = c.as_slice.ensures ∙ ap (λ e. e.notes) c.entry.view_is in
    let found : reply_among c.args.n (answers_in c.args.p 0 c.entry-item.result.notes) ≡ Some c.in-Some.reply =
    ap (λ l. reply_among c.args.n (answers_in c.args.p 0 l)) (sym notes) ∙ sym c.in-Some.ensures in
    let hit = reply_to-hit c.args.p c.args.n events c.loop-entry.entry-index c.entry-item.result c.in-Some.reply c.loop-entry-test.true c.entry-item.is found in
    sym (ap (λ l. reply_among c.args.n (answers_to c.args.p l)) (sym c.deref-entry-items.ensures.value) ∙ c.loop-entry.invariant ∙ hit)

pub loop-entry-preserved : goal.loop-entry-preserved
loop-entry-preserved c = grind (arith, common_steps, reply_to-skip)
