use Rattle.lock_manager.proofs.Common.{common_steps, refl, sym, subst, ◌∙◌, arith, waits_of, AreStanding, Live, machine_state, machine_waits}
use Rattle.lock_manager.proofs.kept.ProcessLemmas.{place_of_waiting, live_still, stands_set}
use Rattle.lock_manager.proofs.calls.ProcessCallLemmas.{fewer_without, kept_by_leave, standing_left, with_wait_gone}
use Rattle.lock_manager.proofs.machine.Machine.interrupt.Goals as goal

pub stand-requires : goal.stand-requires
unfolding machine_state
stand-requires c = grind (arith, common_steps, place_of_waiting)

pub invariant_of-self-clause-kept : goal.invariant_of-self-clause-kept
invariant_of-self-clause-kept c =
    kept_by_leave c.stay_free_of_cycles.ensures.one_leaves c.args.self.now c.leave.new.self c.args.p c.leave.ensures.rest c.leave.ensures.told c.leave.ensures.blocked

pub invariant_of-self-clause-standing : goal.invariant_of-self-clause-standing
invariant_of-self-clause-standing c =
    let machine = c.args.self.now in
    subst (AreStanding machine.tables c.stand.new.states.items) (sym c.leave.ensures.rest)
    (standing_left machine.tables machine.states.items c.stand.new.states.items (waits_of machine.waits) c.args.p c.unwrap-wait.result c.stand.ensures.stands
    (sym c.leave.ensures.found ∙ c.unwrap-wait.ensures) machine.standing)

pub returns-clause-shows : goal.returns-clause-shows
returns-clause-shows c S h = with_wait_gone c.args.self.now _ S c.args.p Live refl refl c.stand.ensures.stands c.leave.ensures.rest h

pub returns-clause-fewer : goal.returns-clause-fewer
unfolding machine_waits
returns-clause-fewer c = grind (arith, common_steps, fewer_without)

pub returns-clause-live : goal.returns-clause-live
unfolding machine_state
returns-clause-live c = stands_set c.args.self.now.states.items c.stand.new.states.items c.args.p Live c.stand.ensures.stands

pub returns-clause-others : goal.returns-clause-others
unfolding machine_state
returns-clause-others c q live = live_still c.args.self.now.states.items c.stand.new.states.items c.args.p c.stand.ensures.stands q live
