use Rattle.lock_manager.proofs.Common.{arith, refl, subst, Ok, Err, rules, FitsSigned, to_z, of_z, w64, to_z-of_z, common_steps, ResizeGives, Resize}
use Rattle.lock_manager.proofs.kept.WaitLemmas.{standing_in}
use Rattle.lock_manager.specs.declared.request.Reply.TheVariants as replies
use Rattle.lock_manager.proofs.calls.DescriptorCallLemmas.{Gave, with_descriptors, done_by, refused_by}
use Rattle.lock_manager.proofs.kept.NextStateLemmas.{with_tables}
use Rattle.lock_manager.proofs.kept.StayOpenLemmas.{resized_stays, kept_by_call}
use Rattle.lock_manager.proofs.machine.Machine.resize.Goals as goal

pub invariant_of-self-clause-kept : goal.invariant_of-self-clause-kept
invariant_of-self-clause-kept c =
    let machine = c.args.self.now in
    kept_by_call (λ D result E. ResizeGives D c.args.p c.args.fd (to_z w64 (of_z w64 c.args.size)) result E) machine c.resize.new.self c.resize.result
    (λ D E done is stands gives. resized_stays D E c.args.p c.args.fd (to_z w64 (of_z w64 c.args.size)) gives)
    (λ other. c.resize.ensures.step) c.resize.ensures.refused

pub invariant_of-self-clause-standing : goal.invariant_of-self-clause-standing
invariant_of-self-clause-standing c = grind (arith, common_steps, standing_in)

pub returns-in-Ok-clause-answers : goal.returns-in-Ok-clause-answers
returns-in-Ok-clause-answers c =
    let machine = c.args.self.now in
    let fits : FitsSigned w64 c.args.size = search rules in
    done_by (λ D result E. ResizeGives D c.args.p c.args.fd c.args.size result E) with_descriptors (λ done. replies.Ok) machine _ c.args.p (Resize c.args.fd c.args.size) tt
    (λ S n outcome h. h)
    (λ S E h gives tables. with_tables machine _ S E refl refl refl h tables)
    (subst (λ size. Gave (λ D result E. ResizeGives D c.args.p c.args.fd size result E) machine.tables c.resize.new.self (Ok tt)) (to_z-of_z fits) c.in-Ok.ensures.step)

pub returns-in-Err-clause-answers : goal.returns-in-Err-clause-answers
returns-in-Err-clause-answers c =
    let machine = c.args.self.now in
    let fits : FitsSigned w64 c.args.size = search rules in
    refused_by (λ D result E. ResizeGives D c.args.p c.args.fd c.args.size result E) with_descriptors (λ done. replies.Ok) machine _ c.args.p (Resize c.args.fd c.args.size) c.in-Err.fault c.refusal.result
    (λ S n outcome h. h)
    refl refl refl
    (λ other. subst (λ size. Gave (λ D result E. ResizeGives D c.args.p c.args.fd size result E) machine.tables c.resize.new.self (Err c.in-Err.fault)) (to_z-of_z fits) c.in-Err.ensures.step)
    c.in-Err.ensures.refused c.refusal.ensures.refused
