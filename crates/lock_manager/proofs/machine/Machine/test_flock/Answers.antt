use Rattle.lock_manager.proofs.Common.{common_steps, ◌≡◌, ◌∙◌, sym, ap, arith, Wait, machine_processes, machine_state, machine_waits, Process, Description}
use Rattle.lock_manager.proofs.kept.ChangedFlockLemmas.{room_joined_flock, well_formed_flock}
use Rattle.lock_manager.proofs.kept.ProcessLemmas.{place_of_live}
use Rattle.lock_manager.proofs.calls.CommandLemmas.{may_lock_waiting}
use Rattle.lock_manager.proofs.calls.SetLemmas.{is_blocked}
use Rattle.lock_manager.proofs.calls.FlockCallLemmas.{asked, flock_locked, flock_held_off, flock_waiting}
use Rattle.lock_manager.proofs.machine.Machine.test_flock.Goals as goal

pub change_flock-requires-clause-owner : goal.change_flock-requires-clause-owner
change_flock-requires-clause-owner c =
    may_lock_waiting c.args.self.now.tables c.args.wanted.p c.args.look.file (Description c.args.look.desc) c.requires.asked.may_wait

pub returns-then-not-is_blocked-clause-told : goal.returns-then-not-is_blocked-clause-told
returns-then-not-is_blocked-clause-told c =
    flock_locked c.args.self.now c.change_flock.new.self c.args.nb c.args.look c.args.wanted c.answered.result c.requires.asked.is c.answered.ensures
    (λ blocked. let is = c.is_blocked.ensures.1 ((asked c.args.self.now c.args.nb c.args.wanted).1 blocked) in cc) c.change_flock.ensures.shows

pub returns-then-nb-clause-told : goal.returns-then-nb-clause-told
returns-then-nb-clause-told c =
    flock_held_off c.args.self.now c.args.nb c.args.wanted c.refused.result c.if-nb.true c.refused.ensures ((asked c.args.self.now c.args.nb c.args.wanted).0 (c.is_blocked.ensures.0 c.if-not-is_blocked.false))

pub join-requires-clause-well_formed : goal.join-requires-clause-well_formed
unfolding machine_state machine_processes
join-requires-clause-well_formed c = grind (arith, common_steps, place_of_live, well_formed_flock)

pub join-requires-clause-may_wait : goal.join-requires-clause-may_wait
join-requires-clause-may_wait c = grind (arith, common_steps)

pub join-requires-clause-room : goal.join-requires-clause-room
unfolding machine_waits
join-requires-clause-room c = grind (arith, common_steps, room_joined_flock)

pub join-requires-clause-free_of_cycles : goal.join-requires-clause-free_of_cycles
join-requires-clause-free_of_cycles c is = absurd (let no : Description c.args.look.desc ≡ Process c.args.wanted.p = sym (ap (λ (w : Wait). w.owner) c.requires.asked.is) ∙ is in cc)

pub join-requires-clause-blocked : goal.join-requires-clause-blocked
join-requires-clause-blocked c = grind (arith, common_steps, is_blocked)

pub returns-clause-told : goal.returns-clause-told
returns-clause-told c =
    flock_waiting c.args.self.now c.join.new.self c.args.nb c.args.wanted c.if-nb.false ((asked c.args.self.now c.args.nb c.args.wanted).0 (c.is_blocked.ensures.0 c.if-not-is_blocked.false)) c.join.ensures.shows
