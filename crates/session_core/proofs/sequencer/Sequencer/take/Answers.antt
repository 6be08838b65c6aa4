use Rattle.session_core.proofs.Common.{◌∙◌, ap, sym, subst, refl, arith, ◌≡◌, ◌≤◌, eq-eqb, ne_eqb, Some, slice_get, length-set, processes_of, mail_sent, mail_waiting, manager_in, sent_by, waiting_at, HasTold, AreTold}
use Rattle.session_core.proofs.MailLemmas.{StandsAt-index, IsMailInside-set, next_untaken-waits, waits_first, waiting_dropped}
use Rattle.session_core.proofs.runs.JournalLemmas.{AreTold-taken, mail_sent-took}
use Rattle.session_core.proofs.sequencer.Sequencer.take.Goals as goal

pub advance-more-requires : goal.advance-more-requires
unfolding manager_in waiting_at
advance-more-requires c =
    let served = c.serve.new.self in
    let before = c.index_mut.result.now in
    let at = StandsAt-index served.mailboxes.items _ c.args.p c.from.result before (served.one_each ∙ c.serve.ensures.processes) c.requires.process.0 c.requires.process.1 c.from.ensures c.index_mut.ensures.value in
    waits_first served.mailboxes.items _ c.args.p before c.args.request at
    (ap (λ m. slice_get (mail_waiting m.items c.args.p) 0) c.serve.ensures.mailboxes ∙ c.requires.next)

pub invariant_of-self : goal.invariant_of-self
unfolding manager_in waiting_at
invariant_of-self c =
    let served = c.serve.new.self in
    let mailboxes = served.mailboxes.items in
    let before = c.index_mut.result.now in
    let after = c.advance-more.new.self in
    let at = StandsAt-index mailboxes _ c.args.p c.from.result before (served.one_each ∙ c.serve.ensures.processes) c.requires.process.0 c.requires.process.1 c.from.ensures c.index_mut.ensures.value in
    let few : c.args.p ≤ 64 = (let all : processes_of c.args.self.now.manager ≤ 64 = c.args.self.now.few in omega (arith, all, c.requires.process.1)) in
    record {
      few = served.few;
      one_each = length-set mailboxes _ after ∙ served.one_each;
      inside =
          IsMailInside-set mailboxes _ c.args.p before after served.senders c.put-self.result at
          (λ q other h. (h.0, c.put-self.ensures q h.0 ∙ rw (ne_eqb q c.args.p other) h.1))
          (λ some. (few, c.put-self.ensures c.args.p few ∙ rw (eq-eqb c.args.p c.args.p refl) (c.advance-more.ensures.more.1 some)))
          served.inside;
    }

pub returns-clause-taken : goal.returns-clause-taken
unfolding manager_in sent_by waiting_at HasTold
returns-clause-taken c journal told =
    let old = c.args.self.now in
    let served = c.serve.new.self in
    let same = c.serve.ensures.mailboxes in
    let mailboxes = served.mailboxes.items in
    let before = c.index_mut.result.now in
    let after = c.advance-more.new.self in
    let event = c.in_ok-entry.entry in
    let is = c.in_ok-entry.ensures.served journal told in
    let at = StandsAt-index mailboxes _ c.args.p c.from.result before (served.one_each ∙ c.serve.ensures.processes) c.requires.process.0 c.requires.process.1 c.from.ensures c.index_mut.ensures.value in
    let first : slice_get (mail_waiting mailboxes c.args.p) 0 ≡ Some c.args.request = ap (λ m. slice_get (mail_waiting m.items c.args.p) 0) same ∙ c.requires.next in
    let next = next_untaken-waits mailboxes journal c.args.p ∙ first ∙ ap (λ r. Some r) (sym is.request_is) in
    record {
      process = is.process;
      request_is = is.request_is;
      number = is.number;
      told =
          AreTold-taken old.manager served.manager mailboxes _ c.args.p before after old.answers served.answers c.args.request journal event at c.advance-more.ensures.waiting
          c.advance-more.ensures.taken first is (subst (λ m. AreTold old.manager m.items old.answers journal) (sym same) told);
      step = is.step;
      sent = λ q. mail_sent-took mailboxes _ c.args.p before after journal _ event at c.advance-more.ensures.waiting is.process refl next q
          ∙ ap (λ m. mail_sent m.items journal q) same;
      rules = is.rules;
      processes = is.processes;
    }

pub returns-clause-waiting : goal.returns-clause-waiting
unfolding manager_in waiting_at
returns-clause-waiting c q =
    let served = c.serve.new.self in
    let mailboxes = served.mailboxes.items in
    let before = c.index_mut.result.now in
    let after = c.advance-more.new.self in
    let at = StandsAt-index mailboxes _ c.args.p c.from.result before (served.one_each ∙ c.serve.ensures.processes) c.requires.process.0 c.requires.process.1 c.from.ensures c.index_mut.ensures.value in
    rw (sym c.serve.ensures.mailboxes) (waiting_dropped mailboxes _ c.args.p before after at c.advance-more.ensures.waiting q)
