use Rattle.lock_manager.proofs.Common.{arith, ◌∙◌, ap, sym, length, List, ProcState, machine_processes, machine_state, state_at}
use Rattle.lock_manager.proofs.calls.ManagerLemmas.{one_step, are_marked, safe_machine}
use Rattle.lock_manager.proofs.kept.ProcessLemmas.{place_of_live}
use Rattle.lock_manager.proofs.manager.Manager.take_into.Goals as goal

pub mark-requires-clause-there : goal.mark-requires-clause-there
unfolding machine_processes machine_state state_at
mark-requires-clause-there c =
    let machine = c.args.self.now.machine in
    let place = place_of_live machine.states.items c.args.p c.requires in
    (place.0, omega (arith, place.1, machine.numbered, c.args.self.now.seated))

pub mark-requires-clause-all : goal.mark-requires-clause-all
unfolding machine_processes
mark-requires-clause-all c =
    let machine = c.serve.new.self in
    let count = ap (λ (states : List ProcState). length states) c.states.ensures in
    omega (arith, count, machine.numbered, c.serve.ensures.same_rules.processes, c.args.self.now.seated)

pub invariant_of-self-2-clause-seated : goal.invariant_of-self-2-clause-seated
invariant_of-self-2-clause-seated c =
    c.mark.ensures.all ∙ c.args.self.now.seated ∙ sym c.serve.ensures.same_rules.processes ∙ sym c.settle.ensures.same_rules.processes

pub invariant_of-self-2-clause-safe : goal.invariant_of-self-2-clause-safe
invariant_of-self-2-clause-safe c = ∣ safe_machine c.settle.new.self c.settle.ensures.settled ∣₁

pub returns-clause-step : goal.returns-clause-step
returns-clause-step c =
    let settled = c.settle.ensures.settles in
    one_step c.args.self.now _ c.serve.new.self c.args.p c.args.n c.args.request c.serve.new.notes.items settled.0 c.settle.new.notes.items
    c.requires c.in_ok-serve.ensures.told c.serve.ensures.same_rules.rules
    (are_marked c.args.self.now.sections c.mark.new.self c.serve.new.self c.args.p c.args.request c.serve.new.notes.items c.deref.result.now
    c.states.result.now c.deref.ensures.value c.states.ensures c.mark.ensures.visits c.mark.ensures.refused) settled.2 settled.1
