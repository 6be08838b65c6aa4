use Rattle.lock_manager.proofs.Common.{arith, refl, subst, Ok, Err, rules, FitsSigned, to_z, of_z, w64, to_z-of_z, common_steps, SeekGives, Seek}
use Rattle.lock_manager.proofs.kept.WaitLemmas.{standing_in}
use Rattle.lock_manager.specs.declared.request.Reply.TheVariants as replies
use Rattle.lock_manager.proofs.calls.DescriptorCallLemmas.{Gave, with_descriptors, done_by, refused_by}
use Rattle.lock_manager.proofs.kept.NextStateLemmas.{with_tables}
use Rattle.lock_manager.proofs.kept.StayOpenLemmas.{sought_stays, kept_by_call}
use Rattle.lock_manager.proofs.machine.Machine.seek.Goals as goal

pub invariant_of-self-clause-kept : goal.invariant_of-self-clause-kept
invariant_of-self-clause-kept c =
    let machine = c.args.self.now in
    kept_by_call (λ D result E. SeekGives D c.args.p c.args.fd (to_z w64 (of_z w64 c.args.offset)) result E) machine c.seek.new.self c.seek.result
    (λ D E done is stands gives. sought_stays D E c.args.p c.args.fd (to_z w64 (of_z w64 c.args.offset)) gives)
    (λ other. c.seek.ensures.step) c.seek.ensures.refused

pub invariant_of-self-clause-standing : goal.invariant_of-self-clause-standing
invariant_of-self-clause-standing c = grind (arith, common_steps, standing_in)

pub returns-in-Ok-clause-answers : goal.returns-in-Ok-clause-answers
returns-in-Ok-clause-answers c =
    let machine = c.args.self.now in
    let fits : FitsSigned w64 c.args.offset = search rules in
    done_by (λ D result E. SeekGives D c.args.p c.args.fd c.args.offset result E) with_descriptors (λ done. replies.Ok) machine _ c.args.p (Seek c.args.fd c.args.offset) tt
    (λ S n outcome h. h)
    (λ S E h gives tables. with_tables machine _ S E refl refl refl h tables)
    (subst (λ offset. Gave (λ D result E. SeekGives D c.args.p c.args.fd offset result E) machine.tables c.seek.new.self (Ok tt)) (to_z-of_z fits) c.in-Ok.ensures.step)

pub returns-in-Err-clause-answers : goal.returns-in-Err-clause-answers
returns-in-Err-clause-answers c =
    let machine = c.args.self.now in
    let fits : FitsSigned w64 c.args.offset = search rules in
    refused_by (λ D result E. SeekGives D c.args.p c.args.fd c.args.offset result E) with_descriptors (λ done. replies.Ok) machine _ c.args.p (Seek c.args.fd c.args.offset) c.in-Err.fault c.refusal.result
    (λ S n outcome h. h)
    refl refl refl
    (λ other. subst (λ offset. Gave (λ D result E. SeekGives D c.args.p c.args.fd offset result E) machine.tables c.seek.new.self (Err c.in-Err.fault)) (to_z-of_z fits) c.in-Err.ensures.step)
    c.in-Err.ensures.refused c.refusal.ensures.refused
