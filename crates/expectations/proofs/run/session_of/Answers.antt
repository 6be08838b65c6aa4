use Rattle.std.proofs.Common.{◌≡◌, ◌<◌, ◌∙◌, ap, subst, arith, ℕ, List, Err, length}
use Rattle.fd_table.specs.Descriptors.{process_limit}
use Rattle.lock_manager.specs.declared.request.Request.{Request}
use Rattle.lock_manager.specs.declared.request.Rules.{Rules}
use Rattle.session_core.specs.declared.TheConstants.{N_MAX}
use Rattle.session_core.specs.Draining.{IsDrain}
use Rattle.session_core.specs.Mail.{requests_sent}
use Rattle.session_core.specs.SessionView.{events_in}
use Rattle.script_core.specs.ScriptText.{Meaning}
use Rattle.script_core.specs.Output.{processes_in}
use Rattle.replay_core.proofs.OutputLemmas.{sent_few}
use Rattle.expectations.proofs.run.session_of.Goals as goal

-- no process of a script sends more than it may
pub unreachable-requires : goal.unreachable-requires
unreachable-requires c =
    let arrivals = c.deref.result.now in
    let full : (p : ℕ) × (N_MAX < length (requests_sent p arrivals)) = c.run_all.ensures.full (c.in-Err-Full.is ∙ ap Err c.in-Err-Full.field-0-is) in
    let few = sent_few full.0 arrivals in
    let same = ap length (c.deref.ensures.value ∙ ap (λ (m : Meaning). m.arrivals) c.script.view_is) in
    omega (arith, few, full.1, same, c.requires.few)

pub returns-in-Ok-clause-drained : goal.returns-in-Ok-clause-drained
returns-in-Ok-clause-drained c =
    let script = c.args.script.now in
    let session = c.in-Ok.session in
    let drained = c.in-Ok.ensures.drained in
    let rules_are : c.script.inside.rules ≡ script.rules = ap (λ (m : Meaning). m.rules) c.script.view_is in
    let processes_are : c.processes.result ≡ processes_in script =
    c.processes.ensures ∙ ap (λ (r : Rules). process_limit r.limits) rules_are in (
      drained.0,
      subst (λ (r : Rules). IsDrain r (processes_in script) script.arrivals (events_in session) drained.0) rules_are
          (subst (λ (n : ℕ). IsDrain c.script.inside.rules n script.arrivals (events_in session) drained.0) processes_are
          (subst (λ (a : List (ℕ × Request)). IsDrain c.script.inside.rules c.processes.result a (events_in session) drained.0)
          (c.deref.ensures.value ∙ ap (λ (m : Meaning). m.arrivals) c.script.view_is) drained.1)),
      drained.2,
    )

pub returns-in-Ok-clause-processes : goal.returns-in-Ok-clause-processes
returns-in-Ok-clause-processes c =
    c.in-Ok.ensures.processes ∙ c.processes.ensures ∙ ap (λ (m : Meaning). process_limit m.rules.limits) c.script.view_is
