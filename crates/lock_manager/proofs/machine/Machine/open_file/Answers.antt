use Rattle.lock_manager.proofs.Common.{arith, refl, common_steps, OpenFile, limits_of}
use Rattle.lock_manager.proofs.calls.DescriptorCallLemmas.{Opens, with_descriptors, served_by_open, done_by, refused_by}
use Rattle.lock_manager.proofs.kept.NextStateLemmas.{with_tables}
use Rattle.lock_manager.specs.declared.request.Reply.TheVariants as replies
use Rattle.lock_manager.proofs.kept.WaitLemmas.{standing_in}
use Rattle.lock_manager.proofs.kept.StayOpenLemmas.{opened_stays, kept_by_call}
use Rattle.lock_manager.proofs.machine.Machine.open_file.Goals as goal

pub invariant_of-self-clause-kept : goal.invariant_of-self-clause-kept
invariant_of-self-clause-kept c =
    let machine = c.args.self.now in
    kept_by_call (Opens machine c.args.p c.args.file c.args.access) machine c.open_file.new.self c.open_file.result
    (λ D E fd is stands gives. opened_stays (limits_of machine.tables) D E c.args.p c.args.file c.args.access fd gives)
    c.open_file.ensures.step c.open_file.ensures.refused

pub invariant_of-self-clause-standing : goal.invariant_of-self-clause-standing
invariant_of-self-clause-standing c = grind (arith, common_steps, standing_in)

pub returns-in-Ok-clause-answers : goal.returns-in-Ok-clause-answers
returns-in-Ok-clause-answers c =
    done_by (Opens c.args.self.now c.args.p c.args.file c.args.access) with_descriptors replies.Fd c.args.self.now _ c.args.p (OpenFile c.args.file c.args.access) c.in-Ok.fd
    (served_by_open c.args.self.now c.args.p c.args.file c.args.access)
    (λ S E h gives tables. with_tables c.args.self.now _ S E refl refl refl h tables)
    (c.in-Ok.ensures.step (λ memory e. cc))

pub returns-in-Err-clause-answers : goal.returns-in-Err-clause-answers
returns-in-Err-clause-answers c =
    refused_by (Opens c.args.self.now c.args.p c.args.file c.args.access) with_descriptors replies.Fd c.args.self.now _ c.args.p (OpenFile c.args.file c.args.access) c.in-Err.fault c.refusal.result
    (served_by_open c.args.self.now c.args.p c.args.file c.args.access)
    refl refl refl
    c.in-Err.ensures.step c.in-Err.ensures.refused c.refusal.ensures.refused
