use Rattle.session_core.proofs.Common.{common_steps, ◌≡◌, ◌∙◌, ◌+◌, ◌≤◌, refl, sym, arith, length, [], ◌∷◌, ◌++◌, eq-eqb, ne_eqb, length-set, ∥∥₁_map, processes_of, manager_in, sent_by, waiting_at, HasTold}
use Rattle.std.proofs.lemmas.Result.{IfOk-weaker, IfErr-weaker}
use Rattle.session_core.proofs.MailLemmas.{StandsAt-index, IsMailInside-set, IsMailKept-written, mailbox_of-there, mailbox_of-set_same, mail_sent-kept, mail_sent-pushed, mail_waiting-set, length-mail_sent-there, Holds-sent}
use Rattle.session_core.proofs.runs.JournalLemmas.{mail_sent-few}
use Rattle.session_core.proofs.sequencer.Sequencer.arrive.Goals as goal

pub invariant_of-self : goal.invariant_of-self
unfolding manager_in
invariant_of-self c =
    let self = c.args.self.now in
    let mailboxes = self.mailboxes.items in
    let old = c.index_mut.result.now in
    let new = c.push.new.self in
    let at = StandsAt-index mailboxes _ c.args.p c.from.result old self.one_each c.requires.0 c.requires.1 c.from.ensures c.index_mut.ensures.value in
    let few : c.args.p ≤ 64 = (let all : processes_of self.manager ≤ 64 = self.few in omega (arith, all, c.requires.1)) in
    record {
      few = self.few;
      one_each = length-set mailboxes _ new ∙ self.one_each;
      inside =
          IsMailInside-set mailboxes _ c.args.p old new self.senders c.with-self.result at
          (λ q other h. (h.0, c.with-self.ensures.members q ∙ rw (ne_eqb q c.args.p other) h.1))
          (λ some. (few, c.with-self.ensures.members c.args.p ∙ rw (eq-eqb c.args.p c.args.p refl) refl))
          self.inside;
    }

pub returns-clause-sent : goal.returns-clause-sent
unfolding manager_in sent_by
returns-clause-sent c =
    let self = c.args.self.now in
    let mailboxes = self.mailboxes.items in
    let old = c.index_mut.result.now in
    let new = c.push.new.self in
    let at = StandsAt-index mailboxes _ c.args.p c.from.result old self.one_each c.requires.0 c.requires.1 c.from.ensures c.index_mut.ensures.value in
    IfOk-weaker c.push.result (λ n. new.waiting.items ≡ old.waiting.items ++ c.args.request ∷ []) _
    (λ n pushed journal. mail_sent-pushed mailboxes journal _ c.args.p old new c.args.request at pushed) c.push.ensures.ok

pub returns-clause-number : goal.returns-clause-number
unfolding manager_in sent_by HasTold
returns-clause-number c =
    let self = c.args.self.now in
    let mailboxes = self.mailboxes.items in
    let old = c.index_mut.result.now in
    let new = c.push.new.self in
    let at = StandsAt-index mailboxes _ c.args.p c.from.result old self.one_each c.requires.0 c.requires.1 c.from.ensures c.index_mut.ensures.value in
    IfOk-weaker c.push.result (λ n. n ≡ new.taken + length new.waiting.items) _
    (λ n number journal told.
    let mail = IsMailKept-written _ mailboxes journal _ c.args.p old new at c.push.ensures.taken told.mail in
    number ∙ sym (length-mail_sent-there _ _ journal c.args.p new mail (mailbox_of-set_same mailboxes _ c.args.p old new at)))
    c.push.ensures.number

pub returns-clause-full : goal.returns-clause-full
unfolding manager_in sent_by HasTold
returns-clause-full c = grind (arith, common_steps, StandsAt-index, length-mail_sent-there, mailbox_of-there)

pub returns-clause-err : goal.returns-clause-err
unfolding manager_in sent_by
returns-clause-err c =
    let self = c.args.self.now in
    let mailboxes = self.mailboxes.items in
    let old = c.index_mut.result.now in
    let new = c.push.new.self in
    let at = StandsAt-index mailboxes _ c.args.p c.from.result old self.one_each c.requires.0 c.requires.1 c.from.ensures c.index_mut.ensures.value in
    IfErr-weaker c.push.result (λ fault. new.waiting.items ≡ old.waiting.items) _
    (λ fault same journal. mail_sent-kept mailboxes journal _ c.args.p old new at same) c.push.ensures.err

pub returns-clause-others : goal.returns-clause-others
unfolding manager_in waiting_at
returns-clause-others c q other =
    let self = c.args.self.now in
    let mailboxes = self.mailboxes.items in
    let old = c.index_mut.result.now in
    let at = StandsAt-index mailboxes _ c.args.p c.from.result old self.one_each c.requires.0 c.requires.1 c.from.ensures c.index_mut.ensures.value in
    mail_waiting-set mailboxes _ c.args.p old c.push.new.self at q ∙ rw (ne_eqb q c.args.p other) refl

pub returns-clause-told : goal.returns-clause-told
unfolding manager_in sent_by HasTold
returns-clause-told c journal told =
    let self = c.args.self.now in
    let mailboxes = self.mailboxes.items in
    let old = c.index_mut.result.now in
    let new = c.push.new.self in
    let at = StandsAt-index mailboxes _ c.args.p c.from.result old self.one_each c.requires.0 c.requires.1 c.from.ensures c.index_mut.ensures.value in
    let mail = IsMailKept-written _ mailboxes journal _ c.args.p old new at c.push.ensures.taken told.mail in
    record {
      mail = mail;
      answered = told.answered;
      holds = ∥∥₁_map told.holds (Holds-sent _ mailboxes _ journal (mail_sent-few _ _ _ mail));
    }
