use Rattle.lock_manager.proofs.Common.{Description}
use Rattle.lock_manager.proofs.calls.CommandLemmas.{may_lock_waiting}
use Rattle.lock_manager.proofs.calls.FlockCallLemmas.{asked, flock_locked, flock_placed}
use Rattle.lock_manager.proofs.machine.Machine.first_flock.Goals as goal

pub begin_flock-requires-clause-owner : goal.begin_flock-requires-clause-owner
begin_flock-requires-clause-owner c =
    may_lock_waiting c.args.self.now.tables c.args.wanted.p c.args.look.file (Description c.args.look.desc) c.requires.asked.may_wait

pub returns-then-not-is_blocked-clause-told : goal.returns-then-not-is_blocked-clause-told
returns-then-not-is_blocked-clause-told c =
    flock_locked c.args.self.now c.begin_flock.new.self c.args.nb c.args.look c.args.wanted c.answered.result c.requires.asked.is c.answered.ensures
    (λ blocked. let is = c.is_blocked.ensures.1 ((asked c.args.self.now c.args.nb c.args.wanted).1 blocked) in cc) c.in_ok-begin_flock.ensures.ok

pub returns-clause-told : goal.returns-clause-told
returns-clause-told c =
    flock_placed c.args.self.now c.place_flock.new.self c.test_flock.new.self c.args.nb c.args.wanted c.test_flock.result c.place_flock.ensures.same c.test_flock.ensures.told
