use Rattle.lock_manager.proofs.Common.{arith, refl, rules, on_err_weaker, common_steps, locks_of, waits_of, CloseFd, machine_state}
use Rattle.lock_manager.specs.declared.request.Reply.TheVariants as replies
use Rattle.lock_manager.proofs.calls.DescriptorCallLemmas.{done_by, refused_by, never_memory}
use Rattle.lock_manager.proofs.kept.ClosingLemmas.{close_closes}
use Rattle.lock_manager.proofs.kept.AfterCloseLemmas.{Closes, after_close, served_by_close, with_release}
use Rattle.lock_manager.proofs.kept.StayOpenLemmas.{kept_by_refusal}
use Rattle.lock_manager.proofs.kept.KeptLemmas.{kept_by_release}
use Rattle.lock_manager.proofs.kept.WaitLemmas.{standing_in}
use Rattle.lock_manager.proofs.machine.Machine.close_fd.Goals as goal

pub invariant_of-self-clause-kept : goal.invariant_of-self-clause-kept
unfolding machine_state
invariant_of-self-clause-kept c =
    let machine = c.args.self.now in
    let released = c.in-Ok.released in
    let after = c.release.ensures in
    kept_by_release machine c.close_fd.new.self c.release.new.books.items c.release.new.waits c.args.p released c.requires
    (λ D stands. let given = c.in-Ok.ensures.step D stands in (given.0, close_closes D given.0 c.args.p c.args.fd released given.1, given.2))
    (search rules) (search rules) after.waits after.known after.free

pub invariant_of-self-clause-standing : goal.invariant_of-self-clause-standing
invariant_of-self-clause-standing c = grind (arith, common_steps, standing_in)

pub invariant_of-self-in-Err-1 : goal.invariant_of-self-in-Err-1
invariant_of-self-in-Err-1 c = grind (arith, common_steps, kept_by_refusal, standing_in)

pub returns-in-Ok-clause-answers : goal.returns-in-Ok-clause-answers
returns-in-Ok-clause-answers c =
    let machine = c.args.self.now in
    let released = c.in-Ok.released in
    done_by (Closes c.args.p c.args.fd) (after_close c.args.p) (λ released. replies.Ok) machine _ c.args.p (CloseFd c.args.fd) c.in-Ok.released
    (served_by_close machine c.args.p c.args.fd)
    (λ S E h gives tables. with_release machine _ S E c.args.p released (close_closes S.descriptors E c.args.p c.args.fd released gives)
    (search rules) refl c.release.ensures.waits.waits h tables)
    c.in-Ok.ensures.step

pub returns-in-Err-clause-answers : goal.returns-in-Err-clause-answers
returns-in-Err-clause-answers c =
    let machine = c.args.self.now in
    refused_by (Closes c.args.p c.args.fd) (after_close c.args.p) (λ released. replies.Ok) machine _ c.args.p (CloseFd c.args.fd) c.in-Err.fault c.refusal.result
    (served_by_close machine c.args.p c.args.fd) refl refl refl
    (λ other. c.in-Err.ensures.step) c.in-Err.ensures.refused c.refusal.ensures.refused

pub returns-in-Err-clause-sure : goal.returns-in-Err-clause-sure
returns-in-Err-clause-sure c =
    let machine = c.args.self.now in
    on_err_weaker c.refusal.result
    (never_memory (Closes c.args.p c.args.fd) machine.tables c.close_fd.new.self (locks_of machine.books.items) (waits_of machine.waits) c.in-Err.fault machine.kept.owned (λ D E memory gives. gives) c.in-Err.ensures.step)
    c.refusal.ensures.memory
