use Rattle.session_core.proofs.Common.{◌∙◌, refl, sym, manager_of, events_in, sent_of}
use Rattle.std.proofs.lemmas.Result.{IfOk-weaker, IfErr-weaker}
use Rattle.session_core.proofs.MailLemmas.{SameSession-withdrawn, TakesRequest-arrived}
use Rattle.session_core.proofs.SessionLemmas.{session_holds, waits_still}
use Rattle.session_core.proofs.session.Session.take_one.Goals as goal

pub returns-else-is_err-clause-taken : goal.returns-else-is_err-clause-taken
returns-else-is_err-clause-taken c =
    let old = c.args.self.now in
    let between = c.arrive.new.self in
    let new = c.take-taken.new.self in
    IfOk-weaker c.take-taken.result _ _
    (λ place took. TakesRequest-arrived old between new c.args.p c.args.request c.in-Ok.field-0 place c.in-Ok.ensures.ok took) c.take-taken.ensures.taken

pub withdraw-requires-clause-untaken : goal.withdraw-requires-clause-untaken
withdraw-requires-clause-untaken c =
    waits_still c.args.self.now c.arrive.new.self c.take-taken.new.self c.args.p c.args.request c.in-Ok.field-0 c.take-taken.result c.in-Ok.ensures.ok
    c.requires.empty (sym c.if-is_err.true ∙ c.is_err.ensures.value) c.take-taken.ensures.memory

pub returns-then-is_err-clause-memory : goal.returns-then-is_err-clause-memory
unfolding manager_of events_in sent_of
returns-then-is_err-clause-memory c =
    let old = c.args.self.now in
    let between = c.arrive.new.self in
    let refused = c.take-taken.new.self in
    IfErr-weaker c.take-taken.result _ _
    (λ fault same. SameSession-withdrawn old between refused _ c.args.p c.args.request c.in-Ok.field-0
    c.in-Ok.ensures.ok same (c.withdraw.ensures.sent refused.journal.items) refl c.withdraw.ensures.manager)
    c.take-taken.ensures.memory

pub returns-then-is_err-clause-holds : goal.returns-then-is_err-clause-holds
returns-then-is_err-clause-holds c = session_holds _

pub returns-else-is_err-clause-holds : goal.returns-else-is_err-clause-holds
returns-else-is_err-clause-holds c = session_holds _
