use Rattle.session_core.proofs.Common.{◌∙◌, ap, sym, subst, refl, ◌+◌, ◌≤◌, ℕ, Event, answers_in, latest, last_of, processes_in, AreLastAnswers, State, StandsFor, rules_of, processes_of, IsStep, manager_in, sent_by, HasTold}
use Rattle.session_core.proofs.MailLemmas.{OnErr-always}
use Rattle.session_core.proofs.runs.JournalLemmas.{AreTold-same}
use Rattle.session_core.proofs.LastLemmas.{AreLastAnswers-push}
use Rattle.session_core.proofs.sequencer.Sequencer.serve.Goals as goal

pub returns-in_err-take_into-clause-memory : goal.returns-in_err-take_into-clause-memory
unfolding manager_in sent_by HasTold
returns-in_err-take_into-clause-memory c =
    let self = c.args.self.now in
    let same = c.in_err-take_into.ensures.memory in
    OnErr-always c.from_residual.result _
    (record { manager = same; told = λ journal. AreTold-same self.manager _ self.mailboxes.items self.answers journal same c.take_into.ensures.safe; sent = λ journal p. refl })

pub returns-clause-served : goal.returns-clause-served
unfolding manager_in HasTold
returns-clause-served c journal told =
    let self = c.args.self.now in
    let event : Event = record { p = c.args.p; n = c.taken-n.result + 1; request = c.args.request; notes = c.taken_from.result } in
    let latest_told = λ (q : ℕ) (low : 1 ≤ q) (high : q ≤ processes_in self.answers).
    c.tell.ensures.latest q low high ∙ ap (λ l. latest (last_of self.answers q) (answers_in q 0 l)) (c.deref.ensures.value ∙ sym c.taken_from.ensures) in
    let step = subst (λ l. (S : State) → StandsFor self.manager S → (T : State) × IsStep (rules_of self.manager) (processes_of self.manager) S (record event { notes = l }) T × StandsFor c.take_into.new.self T) (sym c.taken_from.ensures) c.in_ok-take_into.ensures.step in
    record {
      process = refl;
      request_is = refl;
      number = ap (λ n. n + 1) (c.taken-n.ensures.taken journal told);
      step = step;
      rules = c.take_into.ensures.rules;
      processes = c.take_into.ensures.processes;
      safe = c.take_into.ensures.safe;
      answered =
          AreLastAnswers-push _ self.answers c.tell.new.self journal _ event refl c.tell.ensures.processes latest_told
          (subst (λ n. AreLastAnswers n self.answers journal) (sym c.take_into.ensures.processes) told.answered);
    }
