use Rattle.std.proofs.lemmas.Grind.{merely}
use Rattle.session_core.proofs.Common.{◌∙◌, sym, ap, arith, length, refl, subst, slice_get, [], IsNone, opening_state, processes_of, IsMailKept, manager_in, sent_by, waiting_at, HasTold}
use Rattle.session_core.proofs.MailLemmas.{few_processes}
use Rattle.session_core.proofs.runs.JournalLemmas.{Holds-opening, nothing_sent, mail_sent-few}
use Rattle.session_core.proofs.sequencer.Sequencer.new.Goals as goal

pub invariant_of-result : goal.invariant_of-result
invariant_of-result c =
    let mailboxes = c.in_ok-mailboxes.mailboxes.items in
    record {
      few = rw c.in_ok-manager.ensures.processes (few_processes c.args.rules.limits c.args.processes c.requires.1);
      one_each = c.in_ok-mailboxes.ensures.each ∙ sym c.in_ok-manager.ensures.processes;
      inside = λ p some. absurd (let none = ap length (nothing_sent mailboxes c.in_ok-mailboxes.ensures.empty p).0 in omega (arith, some, none));
    }

pub returns : goal.returns
unfolding manager_in sent_by waiting_at HasTold
returns c =
    let manager = c.in_ok-manager.manager in
    let mailboxes = c.in_ok-mailboxes.mailboxes.items in
    let nothing = nothing_sent mailboxes c.in_ok-mailboxes.ensures.empty in
    let mail : IsMailKept (processes_of manager) mailboxes [] =
    record { some = rw c.in_ok-manager.ensures.processes c.requires.0; one_each = c.in_ok-mailboxes.ensures.each ∙ sym c.in_ok-manager.ensures.processes; taken = λ q. (nothing q).1 } in
    record {
      rules_are = c.in_ok-manager.ensures.rules;
      processes_are = c.in_ok-manager.ensures.processes;
      told = record {
        mail = mail;
        answered = record { one_each = c.in_ok-answers.ensures.processes ∙ sym c.in_ok-manager.ensures.processes; latest_is = λ p low high. c.in_ok-answers.ensures.none p };
        holds = merely (Holds-opening manager _ [] (record { some = rw c.in_ok-manager.ensures.processes c.requires.0; few = rw (c.in_ok-manager.ensures.processes, c.in_ok-manager.ensures.rules) c.requires.1; requests = mail_sent-few _ mailboxes [] mail }) refl c.in_ok-manager.ensures.safe c.in_ok-manager.ensures.opening);
      };
      sent = λ p. (nothing p).0;
      state = opening_state;
      drained = (refl, refl);
      stands = c.in_ok-manager.ensures.opening;
      rest = λ p live. subst (λ l. IsNone (slice_get l 0)) (sym (nothing p).0) refl;
    }
