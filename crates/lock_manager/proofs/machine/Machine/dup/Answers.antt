use Rattle.lock_manager.proofs.Common.{arith, refl, common_steps, Dup, limits_of}
use Rattle.lock_manager.proofs.kept.WaitLemmas.{standing_in}
use Rattle.lock_manager.proofs.calls.DescriptorCallLemmas.{Dups, with_descriptors, served_by_dup, done_by, refused_by}
use Rattle.lock_manager.proofs.kept.NextStateLemmas.{with_tables}
use Rattle.lock_manager.specs.declared.request.Reply.TheVariants as replies
use Rattle.lock_manager.proofs.kept.StayOpenLemmas.{dupped_stays, kept_by_call}
use Rattle.lock_manager.proofs.machine.Machine.dup.Goals as goal

pub invariant_of-self-clause-kept : goal.invariant_of-self-clause-kept
invariant_of-self-clause-kept c =
    let machine = c.args.self.now in
    kept_by_call (Dups machine c.args.p c.args.fd) machine c.dup.new.self c.dup.result
    (λ D E free is stands gives. dupped_stays (limits_of machine.tables) D E c.args.p c.args.fd free gives)
    (λ other. c.dup.ensures.step) c.dup.ensures.refused

pub invariant_of-self-clause-standing : goal.invariant_of-self-clause-standing
invariant_of-self-clause-standing c = grind (arith, common_steps, standing_in)

pub returns-in-Ok-clause-answers : goal.returns-in-Ok-clause-answers
returns-in-Ok-clause-answers c =
    done_by (Dups c.args.self.now c.args.p c.args.fd) with_descriptors replies.Fd c.args.self.now _ c.args.p (Dup c.args.fd) c.in-Ok.free
    (served_by_dup c.args.self.now c.args.p c.args.fd)
    (λ S E h gives tables. with_tables c.args.self.now _ S E refl refl refl h tables)
    c.in-Ok.ensures.step

pub returns-in-Err-clause-answers : goal.returns-in-Err-clause-answers
returns-in-Err-clause-answers c =
    refused_by (Dups c.args.self.now c.args.p c.args.fd) with_descriptors replies.Fd c.args.self.now _ c.args.p (Dup c.args.fd) c.in-Err.fault c.refusal.result
    (served_by_dup c.args.self.now c.args.p c.args.fd)
    refl refl refl
    (λ other. c.in-Err.ensures.step) c.in-Err.ensures.refused c.refusal.ensures.refused
