use Rattle.lock_manager.proofs.Common.{common_steps, refl, sym, subst, arith, locks_of, AreBlockedElsewhere, waits_of, AreTold, machine_rules, machine_state, machine_locks, machine_waits, AreStanding}
use Rattle.lock_manager.proofs.kept.ProcessLemmas.{place_of_live}
use Rattle.lock_manager.proofs.kept.SuspendLemmas.{kept_by_join, standing_joined, with_wait, no_wait}
use Rattle.lock_manager.proofs.kept.WaitLemmas.{waits_of_others}
use Rattle.lock_manager.proofs.machine.Machine.join.Goals as goal

pub join_blocked-requires-clause-none : goal.join_blocked-requires-clause-none
unfolding machine_state
join_blocked-requires-clause-none c = grind (arith, common_steps, no_wait, waits_of_others)

pub stand-requires : goal.stand-requires
unfolding machine_state
stand-requires c = grind (arith, common_steps, place_of_live)

pub invariant_of-self-clause-kept : goal.invariant_of-self-clause-kept
unfolding machine_rules machine_locks machine_state machine_waits
invariant_of-self-clause-kept c =
    let machine = c.args.self.now in
    kept_by_join c.stay_free_of_cycles.ensures.one_joins machine c.join_blocked.new.self c.args.wanted
    c.requires.may_wait c.requires.live c.requires.free_of_cycles c.requires.room c.join_blocked.ensures.last
    (record {
      told = subst (λ bs. AreTold machine.waits (locks_of bs) → AreTold c.join_blocked.new.self (locks_of bs)) c.deref.ensures.value c.join_blocked.ensures.told;
      blocked = subst (λ bs. AreBlockedElsewhere machine.waits (locks_of bs) → AreBlockedElsewhere c.join_blocked.new.self (locks_of bs)) c.deref.ensures.value c.join_blocked.ensures.blocked;
    })

pub invariant_of-self-clause-standing : goal.invariant_of-self-clause-standing
unfolding machine_state
invariant_of-self-clause-standing c =
    let machine = c.args.self.now in
    subst (AreStanding machine.tables c.stand.new.states.items) (sym c.join_blocked.ensures.last)
    (standing_joined machine.tables machine.states.items c.stand.new.states.items (waits_of machine.waits) c.args.wanted c.stand.ensures.stands c.requires.live machine.standing)

pub returns-clause-shows : goal.returns-clause-shows
returns-clause-shows c S h =
    with_wait c.args.self.now _ S c.args.wanted refl refl c.join_blocked.ensures.last c.stand.ensures.stands h
