-- The texts of a run: for `explained_text`, `replay`, `replay_in_threads` and others.
use Rattle.replay_core.proofs.Common.{common_steps, ◌≡◌, ◌≤◌, ◌∙◌, ℕ, List, [], ◌∷◌, ◌++◌, Option, sym, ap, subst, length, ◌==◌, arith, Ok, Result, length-map, Request, Rules, processes_of, state_at, Event, requests_sent, IsRun, manager_of, events_in, SCRIPT_MAX, Meaning, IsReport, AreCounts, processes_in}
use Rattle.std.proofs.Common.{filter}
use Rattle.std.specs.Io.KnownBytes.{IsAtEnd}
use Rattle.std.proofs.lemmas.List.Sums.{length-filter, count_by-le-length}
use Rattle.std.proofs.Math.Logic.{∥∥₁_map}
use Rattle.lock_manager.specs.declared.request.ProcState.{ProcState}
use Rattle.lock_manager.specs.State.{State, opening_state}
use Rattle.lock_manager.specs.ManagerView.{StandsFor}
use Rattle.session_core.specs.Runs.{Leads}
use Rattle.session_core.specs.Draining.{DrainsFrom, TakesMail}
use Rattle.script_core.specs.declared.script.ScriptFault.{ScriptFault}
use Rattle.script_core.specs.declared.states.States.{States}
use Rattle.script_core.specs.Explaining.{ExplainsRun, IsExplained, untaken_lines}
use Rattle.replay_core.specs.declared.replays.Ran.{Ran}
use Rattle.replay_core.specs.Devices.{ReadsWhole}
use Rattle.replay_core.specs.Interleaving.{Interleaves, IsThreadOutput, IsThreadExplanation, IsThreadRunOf}
use Rattle.replay_core.specs.Replays.{IsTextOf, IsExplainedTextOf, IsLedTo, IsRunOf, WritesOf}

-- ---- a drain is a run

takes_lead : (rules : Rules) (processes : ℕ) (sent : ℕ → List Request) (events : List Event) (S : State) (more : List Event) (T : State)
    → TakesMail rules processes sent events S more T → Leads rules processes S more T
takes_lead rules processes sent events S [] T takes = takes
takes_lead rules processes sent events S (event ∷ more) T takes =
    (takes.1, takes.2, takes_lead rules processes sent (events ++ event ∷ []) takes.1 more T takes.3)

leads_on : (rules : Rules) (processes : ℕ) (S : State) (events : List Event) (T : State) (more : List Event) (U : State)
    → Leads rules processes S events T → Leads rules processes T more U → Leads rules processes S (events ++ more) U
leads_on rules processes S [] T more U leads on = subst (λ (X : State). Leads rules processes X more U) leads on
leads_on rules processes S (event ∷ events) T more U leads on =
    (leads.0, leads.1, leads_on rules processes leads.0 events T more U leads.2 on)

drains_lead : (rules : Rules) (processes : ℕ) (arrived : List (ℕ × Request)) (events : List Event) (S : State) (later : List (ℕ × Request))
    (journal : List Event) (T : State) → DrainsFrom rules processes arrived events S later journal T
    → Leads rules processes opening_state events S → Leads rules processes opening_state journal T
drains_lead rules processes arrived events S [] journal T drains leads =
    subst (λ (X : State). Leads rules processes opening_state journal X) (sym drains.1)
    (subst (λ (l : List Event). Leads rules processes opening_state l S) (sym drains.0) leads)
drains_lead rules processes arrived events S (arrival ∷ later) journal T drains leads =
    drains_lead rules processes (arrived ++ arrival ∷ []) (events ++ drains.0) drains.1 later journal T drains.3
    (leads_on rules processes opening_state events S drains.0 drains.1 leads
    (takes_lead rules processes (λ p. requests_sent p (arrived ++ arrival ∷ [])) events S drains.0 drains.1 drains.2.0))

-- ---- what is known of a run, under the script's rules and of its processes

of_script : (P : Rules → ℕ → Type 0) (rules others : Rules) (n m : ℕ) → rules ≡ others → n ≡ m → P rules n → P others m
of_script P rules others n m same_rules same h = subst (λ (r : Rules). P r m) same_rules (subst (λ (k : ℕ). P rules k) same h)

-- the journal of a script's run leads to the state that is left
pub is_led : (bytes : List ℕ) (ran : Ran) (run : IsRunOf bytes ran) → IsLedTo ran run.state
is_led bytes ran run = grind (arith, common_steps, of_script, drains_lead)

-- ---- the texts

-- what is told of a text of the run, whatever the counts are and whatever state the manager stands for
abbrev IsToldOf : Ran → List ℕ → Type 0
IsToldOf ran text =
    (count : ℕ → ℕ) → AreCounts ran.sent.items count → (S : State) → StandsFor (manager_of ran.session) S → IsTextOf ran.session count S text

-- and of one that is explained
abbrev IsExplainedOf : States → Ran → List ℕ → Type 0
IsExplainedOf states ran text =
    (count : ℕ → ℕ) → AreCounts ran.sent.items count → (S : State) → StandsFor (manager_of ran.session) S → IsLedTo ran S
    → IsExplainedTextOf states ran count S text

-- and so it is explained
pub explains : (states : States) (bytes text : List ℕ) (ran : Ran) → IsRunOf bytes ran → IsExplainedOf states ran text → IsExplained states bytes text
explains states bytes text ran run told =
    let count = λ (p : ℕ). length (requests_sent p run.script.arrivals) in
    let events = events_in ran.session in
    let is = told count run.counts run.state run.stands (is_led bytes ran run) in
    record {
      script = run.script;
      accepted = run.accepted;
      journal = events;
      state = run.state;
      drained = run.drained;
      explained = is.explained;
      explains = of_script (λ rules n. ExplainsRun states rules n 1 opening_state events run.state is.explained) ran.rules run.script.rules
          (processes_of (manager_of ran.session)) (processes_in run.script) run.rules run.processes is.explains;
      report = is.report;
      is_report = subst (λ (n : ℕ). IsReport n run.state events count is.report) run.processes is.is_report;
      is = is.is ∙ ap (λ (n : ℕ). is.explained ++ is.report ++ untaken_lines run.state.states events count 1 n) run.processes;
    }

-- in threads it is an output of the script
pub tells : (bytes text : List ℕ) (ran : Ran) → IsThreadRunOf bytes ran → IsToldOf ran text → IsThreadOutput bytes text
tells bytes text ran run told =
    record {
      tells = ∥∥₁_map run.interleaves
          (λ (left : (S : State) × Interleaves run.script (events_in ran.session) S × StandsFor (manager_of ran.session) S).
          let count = λ (p : ℕ). length (requests_sent p run.script.arrivals) in
          let is = told count run.counts left.0 left.2 in
          record {
            script = run.script;
            accepted = run.accepted;
            journal = events_in ran.session;
            state = left.0;
            interleaves = left.1;
            report = is.report;
            is_report = subst (λ (n : ℕ). IsReport n left.0 (events_in ran.session) count is.report) run.processes is.is_report;
            is = is.is;
          });
    }

-- and so it is explained
pub tells_explained : (states : States) (bytes text : List ℕ) (ran : Ran) → IsThreadRunOf bytes ran → IsExplainedOf states ran text
    → IsThreadExplanation states bytes text
tells_explained states bytes text ran run told =
    record {
      tells = ∥∥₁_map run.interleaves
          (λ (left : (S : State) × Interleaves run.script (events_in ran.session) S × StandsFor (manager_of ran.session) S).
          let count = λ (p : ℕ). length (requests_sent p run.script.arrivals) in
          let events = events_in ran.session in
          let n = processes_of (manager_of ran.session) in
          let led : IsLedTo ran left.0 =
          of_script (λ rules m. Leads rules m opening_state events left.0) run.script.rules ran.rules (processes_in run.script) n (sym run.rules)
          (sym run.processes) left.1.run.leads in
          let is = told count run.counts left.0 left.2 led in
          record {
            script = run.script;
            accepted = run.accepted;
            journal = events;
            state = left.0;
            interleaves = left.1;
            explained = is.explained;
            explains = of_script (λ rules m. ExplainsRun states rules m 1 opening_state events left.0 is.explained) ran.rules run.script.rules n
                (processes_in run.script) run.rules run.processes is.explains;
            report = is.report;
            is_report = subst (λ (m : ℕ). IsReport m left.0 events count is.report) run.processes is.is_report;
            is = is.is ∙ ap (λ (m : ℕ). is.explained ++ is.report ++ untaken_lines left.0.states events count 1 m) run.processes;
          });
    }

-- and its journal is a run, under the run's rules and of its processes
pub runs : (bytes : List ℕ) (ran : Ran) → IsThreadRunOf bytes ran
    → ∥ ((T : State) × IsRun ran.rules (processes_of (manager_of ran.session)) (events_in ran.session) T) ∥₁
runs bytes ran run =
    ∥∥₁_map run.interleaves
    (λ (left : (S : State) × Interleaves run.script (events_in ran.session) S × StandsFor (manager_of ran.session) S). (
      left.0,
      of_script (λ rules n. IsRun rules n (events_in ran.session) left.0) run.script.rules ran.rules (processes_in run.script)
          (processes_of (manager_of ran.session)) (sym run.rules) (sym run.processes) left.1.run,
    ))

-- the lines of processes that stand the same are the same
same_untaken : (states others : ℕ → ProcState) (events : List Event) (sent : ℕ → ℕ) (p n : ℕ) → ((q : ℕ) → states q ≡ others q)
    → untaken_lines states events sent p n ≡ untaken_lines others events sent p n
unfolding untaken_lines
same_untaken states others events sent p n h = grind (arith, common_steps)

-- the lines of the journal with what explains them, the report, and what was never taken, one behind another
pub one_behind_another : (states : States) (ran : Ran) (count : ℕ → ℕ) (S : State) (explained report first second third : List ℕ)
    → StandsFor (manager_of ran.session) S
    → ExplainsRun states ran.rules (processes_of (manager_of ran.session)) 1 opening_state (events_in ran.session) S explained
    → IsReport (processes_of (manager_of ran.session)) S (events_in ran.session) count report
    → first ≡ explained → second ≡ first ++ report
    → third ≡ second ++ untaken_lines (state_at (manager_of ran.session)) (events_in ran.session) count 1 (processes_of (manager_of ran.session))
    → IsExplainedTextOf states ran count S third
one_behind_another states ran count S explained report first second third stands explains is_report one two three = grind (arith, common_steps, same_untaken)

-- ---- what was read

abbrev accepted : Meaning → Result Meaning ScriptFault
accepted script = Ok script

-- so all that the source had was read of it
read_to_end : (old new : Option (List ℕ)) (bytes : List ℕ) → ReadsWhole old new bytes → length bytes ≤ SCRIPT_MAX → IsAtEnd new
read_to_end old new bytes read short = grind (arith, common_steps)

-- and of a text of it was written what was written of the text
pub writes : (Outputs : List ℕ → List ℕ → Type 0) (read_old read_new : Option (List ℕ)) (Written : List ℕ → Type 0) (bytes text : List ℕ)
    → ReadsWhole read_old read_new bytes → length bytes ≤ SCRIPT_MAX → Outputs bytes text → Written text
    → WritesOf Outputs read_old read_new Written
writes Outputs read_old read_new Written bytes text read short out written = grind (arith, common_steps, read_to_end)

-- no process sends more than arrives
pub sent_few : (p : ℕ) (arrivals : List (ℕ × Request)) → length (requests_sent p arrivals) ≤ length arrivals
sent_few p arrivals =
    let sent = length-map (filter (λ (arrival : ℕ × Request). arrival.0 == p) arrivals) (λ (arrival : ℕ × Request). arrival.1) in
    let own = length-filter (λ (arrival : ℕ × Request). arrival.0 == p) arrivals in
    let few = count_by-le-length (λ (arrival : ℕ × Request). arrival.0 == p) arrivals in
    omega (arith, sent, own, few)
