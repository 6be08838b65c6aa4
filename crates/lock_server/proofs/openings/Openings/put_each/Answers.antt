use Rattle.lock_server.proofs.Common.{◌≡◌, Some, get, deref_pair, nat_cmp, iter_end, note_words}
use Rattle.lock_server.proofs.ExportLemmas.{IsNotedPiece, all_noted, noted_piece}
use Rattle.lock_server.proofs.WalkLemmas.{next_entry, walked_more, walked_none}
use Rattle.lock_server.proofs.openings.Openings.put_each.Goals as goal

pub loop-file-init : goal.loop-file-init
loop-file-init c = (tt, tt, walked_none (IsNotedPiece c.args.self.now) note_words c.args.out.now c.args.at c.ranges.at.fits)

pub loop-file-preserved : goal.loop-file-preserved
loop-file-preserved c =
    let gives = c.into_iter-file-iterator.ensures.into_iter_gives in
    let there = next_entry (λ e. get nat_cmp c.args.self.now.files e.0 ≡ Some e.1) c.args.self.now.files.entries c.loop-file.yielded _ _ _ _ (c.in-Some.file, c.in-Some.seen)
    gives.0 c.loop-file.yielded_by c.in-Some.is c.next.ensures.steps gives.6 in (
      tt,
      tt,
      walked_more (IsNotedPiece c.args.self.now) note_words c.loop-file.yielded (c.in-Some.file, c.in-Some.seen) _ _ _ _ _ _
          c.loop-file.invariant.2 c.put-behind.ensures.what
          (noted_piece c.args.self.now c.in-Some.file.now c.in-Some.seen.now c.put-behind.ensures.what there c.put-behind.ensures.is) c.put-behind.ensures.puts,
    )

pub returns : goal.returns
returns c =
    let gives = c.into_iter-file-iterator.ensures.into_iter_gives in
    let whole = (iter_end deref_pair c.args.self.now.files.entries c.loop-file.yielded _ _ _ _ gives.0 c.loop-file.yielded_by c.in-None.is c.next.ensures.steps).0 in
    all_noted c.args.self.now c.loop-file.yielded note_words _ _ _ _ gives.5 whole c.loop-file.invariant.2
