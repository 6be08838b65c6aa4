use Rattle.lock_server.proofs.Common.{◌≡◌, Some, lookup, deref_pair, iter_end, lock_words, is_same_owner, file_state}
use Rattle.lock_server.proofs.ExportLemmas.{IsLockPiece, all_locks, list_modes, owner_piece_of, process_piece}
use Rattle.lock_server.proofs.WalkLemmas.{next_entry, walked_more, walked_none, walked_past}
use Rattle.lock_server.proofs.file.LockFile.put_each_lock.Goals as goal

pub loop-owner-init : goal.loop-owner-init
loop-owner-init c = (tt, tt, walked_none (IsLockPiece (file_state c.args.self.now)) lock_words c.args.out.now c.args.at c.ranges.at.fits)

pub loop-owner-preserved-in_default : goal.loop-owner-preserved-in_default
loop-owner-preserved-in_default c = (
  tt,
  tt,
  walked_past (IsLockPiece (file_state c.args.self.now)) lock_words c.loop-owner.yielded (c.in-Some.owner, c.in-Some.list) _ _ _ _
      c.loop-owner.invariant.2 (process_piece (file_state c.args.self.now) c.in-Some.owner.now c.in_default.not-Description),
)

pub put_runs-behind-requires : goal.put_runs-behind-requires
put_runs-behind-requires c =
    let lists = c.lists-owner-items.result in
    let gives = c.into_iter-owner-iterator.ensures.into_iter_gives in
    let there = next_entry (λ e. lookup (is_same_owner e.0) lists ≡ Some e.1) lists c.loop-owner.yielded _ _ _ _ (c.in-Some.owner, c.in-Some.list)
    gives c.loop-owner.yielded_by c.in-Some.is c.next.ensures.steps c.lists-owner-items.ensures.found in
    list_modes c.args.self.now lists c.in-Some.owner.now c.in-Description.number c.in-Some.list.now c.lists-owner-items.ensures.modes c.in-Description.is there

pub loop-owner-preserved : goal.loop-owner-preserved
loop-owner-preserved c = (
  tt,
  tt,
  walked_more (IsLockPiece (file_state c.args.self.now)) lock_words c.loop-owner.yielded (c.in-Some.owner, c.in-Some.list) _ _ _ _ _ _
      c.loop-owner.invariant.2 c.put_runs-behind.ensures.what
      (owner_piece_of (file_state c.args.self.now) c.in-Some.owner.now c.in-Description.number c.put_runs-behind.ensures.what c.in-Description.is
      c.put_runs-behind.ensures.is) c.put_runs-behind.ensures.puts,
)

pub returns : goal.returns
returns c =
    let lists = c.lists-owner-items.result in
    let gives = c.into_iter-owner-iterator.ensures.into_iter_gives in
    let whole = (iter_end deref_pair lists c.loop-owner.yielded _ _ _ _ gives c.loop-owner.yielded_by c.in-None.is c.next.ensures.steps).0 in
    all_locks c.args.self.now lists c.loop-owner.yielded lock_words _ _ _ _ c.lists-owner-items.ensures.modes c.lists-owner-items.ensures.rising whole c.loop-owner.invariant.2
