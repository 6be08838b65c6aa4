use Rattle.replay_core.proofs.Common.{◌≡◌, ◌∙◌, ◌++◌, ℕ, List, ap, sym, subst, processes_of, state_at, Event, manager_of, events_in, AreCounts, IsReport}
use Rattle.lock_manager.specs.declared.manager.Manager.{Manager}
use Rattle.lock_manager.specs.State.{opening_state}
use Rattle.lock_manager.specs.ManagerView.{StandsFor}
use Rattle.session_core.specs.Runs.{Leads}
use Rattle.script_core.specs.Explaining.{ExplainsRun, untaken_lines}
use Rattle.replay_core.proofs.OutputLemmas.{one_behind_another}
use Rattle.replay_core.proofs.replays.explained_text.Goals as goal

pub returns : goal.returns
returns c = record {
  text = λ count counts S stands led. (
      let ran = c.args.ran.now in
      let n = processes_of (manager_of ran.session) in
      let events = events_in ran.session in
      let n_is : c.processes-processes.result ≡ n = c.processes-processes.ensures ∙ ap processes_of c.manager.ensures in
      let leads : Leads ran.rules c.processes-processes.result opening_state c.journal.result.now S =
      subst (λ (m : ℕ). Leads ran.rules m opening_state c.journal.result.now S) (sym n_is)
      (subst (λ (l : List Event). Leads ran.rules n opening_state l S) (sym c.journal.ensures.events) led) in
      let told = c.in_ok-write_explained.ensures.ok S leads in
      let explains : ExplainsRun c.args.states ran.rules n 1 opening_state events S told.0 =
      subst (λ (l : List Event). ExplainsRun c.args.states ran.rules n 1 opening_state l S told.0) c.journal.ensures.events
      (subst (λ (m : ℕ). ExplainsRun c.args.states ran.rules m 1 opening_state c.journal.result.now S told.0) n_is told.1) in
      let report = c.in_ok-write_report.ensures.ok events c.sequencer.ensures.told in
      let is_report = subst (λ (m : Manager). IsReport (processes_of m) S events count report.0) c.sequencer.ensures.manager (report.1 S (subst (λ (m : Manager). StandsFor m S) (sym c.sequencer.ensures.manager) stands) count (subst (λ (l : List ℕ). AreCounts l count) (sym c.deref.ensures.value) counts)) in
      let left : c.write_untaken.new.out.items ≡ c.write_report.new.out.items ++ untaken_lines (state_at (manager_of ran.session)) events count 1 n =
      c.in_ok-write_untaken.ensures.ok events count c.sequencer-2.ensures.told (subst (λ (l : List ℕ). AreCounts l count) (sym c.deref-2.ensures.value) counts)
      ∙ ap (λ (m : Manager). c.write_report.new.out.items ++ untaken_lines (state_at m) events count 1 (processes_of m)) c.sequencer-2.ensures.manager in
      one_behind_another c.args.states ran count S told.0 report.0 c.write_explained.new.out.items c.write_report.new.out.items c.write_untaken.new.out.items stands
      explains is_report (told.2 ∙ ap (λ (l : List ℕ). l ++ told.0) c.new-text.ensures.items) report.2 left
      );
}
