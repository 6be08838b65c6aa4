use Rattle.lock_server.proofs.Common.{file_state}
use Rattle.lock_server.proofs.NextLockLemmas.{found_behind, found_here, none_behind, passed_itself, passed_more}
use Rattle.lock_server.proofs.file.LockFile.next_lock.Goals as goal

pub returns-in-Some : goal.returns-in-Some
returns-in-Some c = found_here (file_state c.args.self.now) c.args.owner c.args.byte c.in-Some.lock c.in-Some.ensures.owner c.in-Some.ensures.first

pub loop-other-init : goal.loop-other-init
loop-other-init c = passed_itself (file_state c.args.self.now) c.args.owner c.args.byte c.in_default.ensures.none

pub returns-in-Some-lock_from : goal.returns-in-Some-lock_from
returns-in-Some-lock_from c =
    found_behind (file_state c.args.self.now) c.args.owner c.args.byte c.loop-other.above c.in-Some-next_listed.other c.in-Some-lock_from.lock
    c.loop-other.invariant c.in-Some-next_listed.ensures.above c.in-Some-next_listed.ensures.least c.in-Some-lock_from.ensures.owner c.in-Some-lock_from.ensures.first

pub loop-other-preserved : goal.loop-other-preserved
loop-other-preserved c =
    passed_more (file_state c.args.self.now) c.args.owner c.args.byte c.loop-other.above c.in-Some-next_listed.other
    c.loop-other.invariant c.in-Some-next_listed.ensures.above c.in-Some-next_listed.ensures.least c.in_default-lock_from.ensures.none

pub returns : goal.returns
returns c = none_behind (file_state c.args.self.now) c.args.owner c.args.byte c.loop-other.above c.loop-other.invariant c.in_default-next_listed.ensures.none
