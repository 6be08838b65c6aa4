use Rattle.std.proofs.Common.{◌+◌}
use native.Mathlib.Omega.{arith}
use Rattle.block_map.proofs.Found.{all_before, less_by}
use Rattle.block_map.proofs.Zipped.{as_many}
use Rattle.block_map.proofs.block.Block.stepped_over.Goals as goal

pub loop-place-preserved : goal.loop-place-preserved
loop-place-preserved g c =
    let key = c.args.key in
    let at = c.key_at.result in
    let end = c.loop-place.place + 8 in
    let less = less_by (g.K.PartialOrd.partial_cmp at key) (g.K.Ord.cmp at key) c.if-lt.ensures (g.met.K.Ord.matches_partial_cmp at key) in
    record {
      within = grind (arith, as_many);
      before = all_before g.met.K.Ord.total key at c.args.self.now end end (omega arith) (grind (arith, as_many)) c.key_at.ensures.key less c.key_at.ensures.rising;
    }
