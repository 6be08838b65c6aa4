use Rattle.session_core.proofs.Common.{◌∙◌, ap, sym, subst, arith, slice_get, [], ◌∷◌, ◌++◌, IsNone, ◌==◌, if◌then◌else◌, common_steps, length-set, mail_sent, mail_waiting, manager_in, sent_by, waiting_at, HasTold, AreTold}
use Rattle.session_core.proofs.MailLemmas.{StandsAt-index, IsMailInside-set, HasMail-there, mailbox_of-there, mail_waiting-kept, none_waits, length-mail_sent-there}
use Rattle.session_core.proofs.runs.JournalLemmas.{AreTold-passed, mail_sent-passed}
use Rattle.session_core.proofs.sequencer.Sequencer.take_at_once.Goals as goal

pub pass-requires-clause-empty : goal.pass-requires-clause-empty
unfolding manager_in waiting_at
pass-requires-clause-empty c =
    let served = c.serve.new.self in
    let mailboxes = served.mailboxes.items in
    let before = c.index_mut.result.now in
    let at = StandsAt-index mailboxes _ c.args.p c.from-place.result before (served.one_each ∙ c.serve.ensures.processes) c.requires.process.0 c.requires.process.1 c.from-place.ensures c.index_mut.ensures.value in
    none_waits mailboxes _ c.args.p before at (subst (λ m. IsNone (slice_get (mail_waiting m.items c.args.p) 0)) (sym c.serve.ensures.mailboxes) c.requires.empty)

pub invariant_of-self : goal.invariant_of-self
unfolding manager_in waiting_at
invariant_of-self c =
    let served = c.serve.new.self in
    let mailboxes = served.mailboxes.items in
    let before = c.index_mut.result.now in
    let after = c.pass.new.self in
    let at = StandsAt-index mailboxes _ c.args.p c.from-place.result before (served.one_each ∙ c.serve.ensures.processes) c.requires.process.0 c.requires.process.1 c.from-place.ensures c.index_mut.ensures.value in
    record {
      few = served.few;
      one_each = length-set mailboxes _ after ∙ served.one_each;
      inside =
          IsMailInside-set mailboxes _ c.args.p before after served.senders served.senders at (λ q other h. h)
          (λ some. served.inside c.args.p (HasMail-there mailboxes _ c.args.p before at (rw (sym c.pass.ensures.waiting) some)))
          served.inside;
    }

pub returns-clause-taken : goal.returns-clause-taken
unfolding manager_in sent_by waiting_at HasTold
returns-clause-taken c journal told =
    let old = c.args.self.now in
    let same = c.serve.ensures.mailboxes in
    let served = c.serve.new.self in
    let mailboxes = served.mailboxes.items in
    let before = c.index_mut.result.now in
    let after = c.pass.new.self in
    let event = c.in_ok-entry.entry in
    let is = c.in_ok-entry.ensures.served journal told in
    let at = StandsAt-index mailboxes _ c.args.p c.from-place.result before (served.one_each ∙ c.serve.ensures.processes) c.requires.process.0 c.requires.process.1 c.from-place.ensures c.index_mut.ensures.value in
    let none = subst (λ m. IsNone (slice_get (mail_waiting m.items c.args.p) 0)) (sym same) c.requires.empty in
    let empty = none_waits mailboxes _ c.args.p before at none in
    let sent = mail_sent-passed mailboxes _ c.args.p before after journal event at is.process empty c.pass.ensures.waiting in
    record {
      process = is.process;
      request_is = is.request_is;
      number = is.number;
      told =
          AreTold-passed old.manager served.manager mailboxes _ c.args.p before after old.answers served.answers c.args.request journal event at c.pass.ensures.waiting
          c.pass.ensures.taken none is (subst (λ m. AreTold old.manager m.items old.answers journal) (sym same) told);
      step = is.step;
      sent = λ q. sent q
          ∙ ap (λ m. if q == c.args.p then mail_sent m.items journal q ++ event.request ∷ [] else mail_sent m.items journal q) same
          ∙ ap (λ r. if q == c.args.p then mail_sent old.mailboxes.items journal q ++ r ∷ [] else mail_sent old.mailboxes.items journal q) is.request_is;
      rules = is.rules;
      processes = is.processes;
    }

pub returns-clause-waiting : goal.returns-clause-waiting
unfolding manager_in waiting_at
returns-clause-waiting c q =
    let served = c.serve.new.self in
    let mailboxes = served.mailboxes.items in
    let before = c.index_mut.result.now in
    let at = StandsAt-index mailboxes _ c.args.p c.from-place.result before (served.one_each ∙ c.serve.ensures.processes) c.requires.process.0 c.requires.process.1 c.from-place.ensures c.index_mut.ensures.value in
    mail_waiting-kept mailboxes _ c.args.p before c.pass.new.self at c.pass.ensures.waiting q ∙ ap (λ m. mail_waiting m.items q) c.serve.ensures.mailboxes

pub returns-clause-full : goal.returns-clause-full
unfolding manager_in sent_by HasTold
returns-clause-full c = grind (arith, common_steps, StandsAt-index, length-mail_sent-there, mailbox_of-there)
