use Rattle.session_core.proofs.Common.{arith, ◌∙◌, common_steps, length-set, ∥∥₁_map, manager_in, sent_by, waiting_at, HasTold}
use Rattle.session_core.proofs.MailLemmas.{StandsAt-index, IsMailInside-set, IsMailKept-written, HasMail-there, mail_sent-withdrawn, some_waits, Holds-sent}
use Rattle.session_core.proofs.runs.JournalLemmas.{mail_sent-few}
use Rattle.session_core.proofs.sequencer.Sequencer.withdraw.Goals as goal

pub withdraw-requires : goal.withdraw-requires
unfolding manager_in waiting_at
withdraw-requires c = grind (arith, common_steps, StandsAt-index, some_waits)

pub invariant_of-self : goal.invariant_of-self
unfolding manager_in waiting_at
invariant_of-self c =
    let self = c.args.self.now in
    let mailboxes = self.mailboxes.items in
    let old = c.index_mut.result.now in
    let new = c.withdraw.new.self in
    let at = StandsAt-index mailboxes _ c.args.p c.from.result old self.one_each c.requires.process.0 c.requires.process.1 c.from.ensures c.index_mut.ensures.value in
    record {
      few = self.few;
      one_each = length-set mailboxes _ new ∙ self.one_each;
      inside =
          IsMailInside-set mailboxes _ c.args.p old new self.senders self.senders at (λ q other h. h)
          (λ some. self.inside c.args.p (HasMail-there mailboxes _ c.args.p old at (some_waits mailboxes _ c.args.p old at c.requires.untaken)))
          self.inside;
    }

pub returns-clause-sent : goal.returns-clause-sent
unfolding manager_in sent_by waiting_at
returns-clause-sent c = grind (arith, common_steps, StandsAt-index, some_waits, mail_sent-withdrawn)

pub returns-clause-told : goal.returns-clause-told
unfolding manager_in sent_by waiting_at HasTold
returns-clause-told c journal told =
    let self = c.args.self.now in
    let mailboxes = self.mailboxes.items in
    let old = c.index_mut.result.now in
    let new = c.withdraw.new.self in
    let at = StandsAt-index mailboxes _ c.args.p c.from.result old self.one_each c.requires.process.0 c.requires.process.1 c.from.ensures c.index_mut.ensures.value in
    let mail = IsMailKept-written _ mailboxes journal _ c.args.p old new at c.withdraw.ensures.taken told.mail in
    record {
      mail = mail;
      answered = told.answered;
      holds = ∥∥₁_map told.holds (Holds-sent _ mailboxes _ journal (mail_sent-few _ _ _ mail));
    }
