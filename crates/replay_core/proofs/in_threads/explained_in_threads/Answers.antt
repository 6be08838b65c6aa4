use Rattle.replay_core.proofs.Common.{◌≡◌, ◌∙◌, ℕ, List, true, false, ap, sym, subst, processes_of, Event, IsRun, manager_of, events_in}
use Rattle.std.proofs.Math.Logic.{∥∥₁_elim}
use Rattle.lock_manager.specs.State.{State}
use Rattle.replay_core.proofs.in_threads.explained_in_threads.Goals as goal

pub unreachable-requires : goal.unreachable-requires
unreachable-requires c =
    let ran = c.args.ran.now in
    let n = processes_of (manager_of ran.session) in
    let events = events_in ran.session in
    let n_is : c.processes-processes.result ≡ n = c.processes-processes.ensures ∙ ap processes_of c.manager.ensures in
    ∥∥₁_elim c.requires.run (λ x y. absurd x)
    (λ (run : (T : State) × IsRun ran.rules n events T).
    let there : IsRun ran.rules c.processes-processes.result c.journal.result.now run.0 =
    subst (λ (m : ℕ). IsRun ran.rules m c.journal.result.now run.0) (sym n_is)
    (subst (λ (l : List Event). IsRun ran.rules n l run.0) (sym c.journal.ensures.events) run.1) in
    let is : c.in_ok-check_journal.field-0 ≡ true = c.in_ok-check_journal.ensures.1 (run.0, there) in
    let bad : false ≡ true = sym c.if-not-branch.true ∙ is in
    absurd (cc))
