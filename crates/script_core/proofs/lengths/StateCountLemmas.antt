-- Of so many events there are twice as many notes at most, and no more locks and waits together: for `outputs_are_short`.
use Rattle.script_core.proofs.Common.{common_steps, rules, ℕ, ◌+◌, ◌*◌, ◌≤◌, List, [], ◌∷◌, length, length-append, flat_map, sym, subst, arith, Held, mode_in, flock_mode_in, IsHeldReport, Rules, State, opening_state, Event, Leads, processes_in}
use Rattle.std.specs.List.{AllByRecursion as Each}
use Rattle.script_core.specs.Output.{IsOutput}
use Rattle.script_core.proofs.FitLemmas.{FitsChange}
use Rattle.script_core.proofs.RunFitLemmas.{run_of_output, output_fits}
use Rattle.script_core.proofs.lengths.StartLemmas.{starts_of, flock_starts_of}
use Rattle.script_core.proofs.lengths.HeldCountLemmas.{no_more_than_starts}
use Rattle.script_core.proofs.lengths.StepCountLemmas.{Grows, grows_not, grows_then, step_grows}

-- ---- a run

leads_grow : (rules : Rules) (processes : ℕ) (S : State) (events : List Event) (T : State) → Leads rules processes S events T
    → Grows S (length (flat_map (λ event. event.notes) events)) T (2 * length events)
leads_grow rules processes S [] T leads = subst (λ (X : State). Grows S 0 X 0) (sym leads) (grows_not S)
leads_grow rules processes S (event ∷ events) T (between, step, rest) =
    let size = length-append event.notes (flat_map (λ (other : Event). other.notes) events) in
    grows_then S between T (step_grows rules processes S event.p event.n event.request event.notes between step)
    (leads_grow rules processes between events T rest) (omega (arith, size)) (omega arith)

-- the notes of all events are no more than two for each
pub few_notes : (rules : Rules) (processes : ℕ) (events : List Event) (T : State) → Leads rules processes opening_state events T
    → length (flat_map (λ event. event.notes) events) ≤ 2 * length events
unfolding opening_state
few_notes rules processes events T leads = grind (arith, common_steps, leads_grow)

-- the locks that are held and the waits are no more than two for each event
pub few_locks_and_waits : (rules : Rules) (processes : ℕ) (events : List Event) (T : State) → Leads rules processes opening_state events T
    → Each FitsChange T.changes → (held : List Held) → IsHeldReport (mode_in T.changes) (flock_mode_in T.flock_changes) held
    → length held + length T.waits ≤ 2 * length events
unfolding opening_state
few_locks_and_waits rules processes events T leads fits held is =
    grind (arith, common_steps, leads_grow, no_more_than_starts, length-append, starts_of, flock_starts_of)

-- ---- an output

-- the same of the journal of an output and of the state that it leaves
pub record FewInOutput (bytes text : List ℕ) (output : IsOutput bytes text) : Type 0 where
  pub notes : length (flat_map (λ event. event.notes) output.journal) ≤ 2 * length output.journal
  pub locks_and_waits : (held : List Held) → IsHeldReport (mode_in output.state.changes) (flock_mode_in output.state.flock_changes) held
      → length held + length output.state.waits ≤ 2 * length output.journal

pub few_in_output : (bytes text : List ℕ) (output : IsOutput bytes text) → FewInOutput bytes text output
few_in_output bytes text output =
    let leads = (run_of_output bytes text output).leads in
    let rules = output.script.rules in
    record {
      notes = few_notes rules (processes_in output.script) output.journal output.state leads;
      locks_and_waits = few_locks_and_waits rules (processes_in output.script) output.journal output.state leads
          (output_fits bytes text output).after.locks.changes;
    }
