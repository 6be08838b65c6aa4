use Rattle.lock_manager.proofs.Common.{common_steps, arith, rules, waits_of, machine_state}
use Rattle.lock_manager.proofs.kept.ClosingLemmas.{end_closes}
use Rattle.lock_manager.proofs.kept.AfterCloseLemmas.{ended, standing_ended}
use Rattle.lock_manager.proofs.kept.KeptLemmas.{kept_by_release}
use Rattle.lock_manager.proofs.kept.ProcessLemmas.{place_of_live}
use Rattle.lock_manager.proofs.kept.WaitLemmas.{waits_of_others}
use Rattle.lock_manager.proofs.machine.Machine.end.Goals as goal

pub stand-requires : goal.stand-requires
unfolding machine_state
stand-requires c = grind (arith, common_steps, place_of_live)

pub invariant_of-self-clause-kept : goal.invariant_of-self-clause-kept
unfolding machine_state
invariant_of-self-clause-kept c =
    let released = c.end_process-released.result in
    let after = c.release.ensures in
    kept_by_release c.args.self.now c.end_process-released.new.self c.release.new.books.items c.release.new.waits c.args.p released c.requires
    (λ D stands. let given = c.end_process-released.ensures.step D stands in (given.0, end_closes D given.0 c.args.p released given.1, given.2))
    (search rules) (search rules) after.waits after.known after.free

pub invariant_of-self-clause-standing : goal.invariant_of-self-clause-standing
unfolding machine_state
invariant_of-self-clause-standing c = grind (arith, common_steps, standing_ended)

pub returns-clause-ends : goal.returns-clause-ends
unfolding machine_state
returns-clause-ends c =
    let machine = c.args.self.now in
    ended machine _ c.args.p c.end_process-released.result c.end_process-released.ensures.step (search rules) c.stand.ensures.stands c.release.ensures.waits.waits
    (waits_of_others machine.tables machine.states.items (waits_of machine.waits) c.args.p machine.standing.suspended c.requires)
