use Rattle.lock_server.proofs.Common.{file_state, number_behind}
use Rattle.lock_server.proofs.ExportLemmas.{all_flocks, flock_below, no_flock_below, no_next}
use Rattle.lock_server.proofs.file.LockFile.put_each_flock.Goals as goal

pub loop-lock-init : goal.loop-lock-init
loop-lock-init c = no_flock_below (file_state c.args.self.now) c.args.out.now c.args.at c.ranges.at.fits

pub loop-lock-preserved : goal.loop-lock-preserved
loop-lock-preserved c =
    flock_below (file_state c.args.self.now) (number_behind c.loop-lock.above) c.in-Some.lock _ _ _ _ _ _ c.loop-lock.invariant c.in-Some.ensures
    c.put_flock-behind.ensures

pub returns : goal.returns
returns c = all_flocks (file_state c.args.self.now) (number_behind c.loop-lock.above) _ _ _ _ c.loop-lock.invariant
    (no_next (file_state c.args.self.now) (number_behind c.loop-lock.above) c.next_flock.result c.next_flock.ensures c.in_default.not-Some)
