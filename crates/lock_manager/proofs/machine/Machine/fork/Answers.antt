use Rattle.lock_manager.proofs.Common.{common_steps, refl, arith, locks_of, waits_of, Live, Fork}
use Rattle.fd_table.specs.TablesView.{processes_of as processes_in}
use Rattle.lock_manager.specs.declared.request.Reply.TheVariants as replies
use Rattle.lock_manager.proofs.kept.AfterCloseLemmas.{standing_forked}
use Rattle.lock_manager.proofs.calls.DescriptorCallLemmas.{Forks, with_child_alive, served_by_fork, done_by, refused_by}
use Rattle.lock_manager.proofs.kept.NextStateLemmas.{with_tables_and_process}
use Rattle.lock_manager.proofs.kept.StayOpenLemmas.{forked_stays, kept_by_call, kept_by_refusal}
use Rattle.lock_manager.proofs.kept.WaitLemmas.{never_alive, standing_in}
use Rattle.lock_manager.proofs.machine.Machine.fork.Goals as goal

pub invariant_of-self-clause-kept : goal.invariant_of-self-clause-kept
invariant_of-self-clause-kept c =
    let machine = c.args.self.now in
    kept_by_call (Forks machine c.args.p c.args.child) machine c.fork.new.self c.fork.result
    (λ D E done is stands gives. forked_stays (processes_in machine.tables) D E c.args.p c.args.child (c.in-Ok.ensures.unborn D stands) gives)
    c.fork.ensures.step c.fork.ensures.refused

pub invariant_of-self-clause-standing : goal.invariant_of-self-clause-standing
invariant_of-self-clause-standing c =
    let machine = c.args.self.now in
    standing_forked machine.tables c.fork.new.self machine.states.items c.stand.new.states.items (waits_of machine.waits) c.args.child c.stand.ensures.stands c.in-Ok.ensures.alive
    (never_alive machine.tables (locks_of machine.books.items) (waits_of machine.waits) c.args.child machine.kept.owned (λ D stands. (c.in-Ok.ensures.step (λ memory e. cc) D stands).1.0.2))
    machine.standing

pub invariant_of-self-in-Err-1 : goal.invariant_of-self-in-Err-1
invariant_of-self-in-Err-1 c = grind (arith, common_steps, kept_by_refusal, standing_in)

pub returns-in-Ok-clause-answers : goal.returns-in-Ok-clause-answers
returns-in-Ok-clause-answers c =
    let machine = c.args.self.now in
    done_by (Forks machine c.args.p c.args.child) (with_child_alive c.args.child) (λ done. replies.Ok) machine _ c.args.p (Fork c.args.child) tt
    (served_by_fork machine c.args.p c.args.child)
    (λ S E h gives tables. with_tables_and_process machine _ S E c.args.child Live refl c.stand.ensures.stands refl h tables)
    (c.in-Ok.ensures.step (λ memory e. cc))

pub returns-in-Err-clause-answers : goal.returns-in-Err-clause-answers
returns-in-Err-clause-answers c =
    refused_by (Forks c.args.self.now c.args.p c.args.child) (with_child_alive c.args.child) (λ done. replies.Ok) c.args.self.now _ c.args.p (Fork c.args.child) c.in-Err.fault c.refusal.result
    (served_by_fork c.args.self.now c.args.p c.args.child) refl refl refl
    c.in-Err.ensures.step c.in-Err.ensures.refused c.refusal.ensures.refused
