use Rattle.std.proofs.Common.{sym, subst}
use Rattle.block_map.specs.Kept.{HasPlace}
use Rattle.block_map.proofs.Kept.{placed}
use Rattle.block_map.proofs.blocks.Blocks.make_room.Goals as goal

pub split-requires-clause-place : goal.split-requires-clause-place
split-requires-clause-place g c =
    subst (λ block. HasPlace block c.args.place) (sym (placed g.met.K.Ord.total c.args.key c.args.self.now c.bound_for-bound.result c.requires.parted.1 c.bound_for-bound.ensures)) c.requires.place
