use Rattle.lock_manager.proofs.Common.{common_steps, sym, ◌∙◌, arith, machine_processes, machine_state}
use Rattle.lock_manager.proofs.calls.CommandLemmas.{asked}
use Rattle.lock_manager.proofs.kept.ProcessLemmas.{place_of_live}
use Rattle.lock_manager.proofs.machine.Machine.range_command.Goals as goal

pub returns-then-is_get-clause-told : goal.returns-then-is_get-clause-told
returns-then-is_get-clause-told c =
    asked c.args.self.now c.args.p c.args.n c.args.cmd c.args.kind c.args.look c.args.span c.in-Some.mode c.owner-owner.result c.get_reply.result c.answered-then-is_get.result
    c.in-Some.ensures (sym c.is_get.ensures ∙ c.if-is_get.true) c.owner-owner.ensures c.answered-then-is_get.ensures c.get_reply.ensures

pub set_command-requires-clause-well_formed : goal.set_command-requires-clause-well_formed
unfolding machine_state machine_processes
set_command-requires-clause-well_formed c = grind (arith, common_steps, place_of_live)
