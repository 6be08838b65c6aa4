use Rattle.lock_manager.proofs.Common.{arith, sym, ◌∙◌, common_steps}
use Rattle.lock_manager.proofs.calls.CommandLemmas.{may_lock_waiting}
use Rattle.lock_manager.proofs.calls.SetLemmas.{is_blocked, locked, deadlocked, waiting}
use Rattle.lock_manager.proofs.machine.Machine.set_command.Goals as goal

pub change-requires-clause-owner : goal.change-requires-clause-owner
change-requires-clause-owner c = grind (arith, common_steps, may_lock_waiting)

pub returns-then-not-is_blocked-clause-told : goal.returns-then-not-is_blocked-clause-told
returns-then-not-is_blocked-clause-told c =
    locked c.args.self.now c.change.new.self c.args.cmd c.args.wanted c.answered.result c.requires.set c.requires.family c.answered.ensures
    (λ blocked. let is = (rw c.may_wait-may_wait.ensures at c.is_blocked.ensures).1 blocked in cc) c.in_ok-change.ensures.ok

pub returns-then-would_deadlock-clause-told : goal.returns-then-would_deadlock-clause-told
returns-then-would_deadlock-clause-told c =
    deadlocked c.args.self.now c.args.cmd c.args.wanted c.refused-then-would_deadlock.result c.requires.set (sym c.may_wait-may_wait.ensures ∙ c.if-not-may_wait.false) c.refused-then-would_deadlock.ensures
    ((rw c.may_wait-may_wait.ensures at c.is_blocked.ensures).0 c.if-not-is_blocked.false) (c.would_deadlock.ensures.0 c.if-would_deadlock.true)

pub suspend-requires-clause-blocked : goal.suspend-requires-clause-blocked
suspend-requires-clause-blocked c = grind (arith, common_steps, is_blocked)

pub returns-clause-told : goal.returns-clause-told
returns-clause-told c =
    waiting c.args.self.now c.suspend.new.self c.args.cmd c.args.wanted c.requires.set (sym c.may_wait-may_wait.ensures ∙ c.if-not-may_wait.false)
    ((rw c.may_wait-may_wait.ensures at c.is_blocked.ensures).0 c.if-not-is_blocked.false) (λ cycle. let is = c.would_deadlock.ensures.1 cycle in cc) c.in_ok-suspend.ensures.ok
