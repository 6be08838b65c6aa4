use Rattle.std.proofs.Common.{sym, ◌+◌}
use native.Mathlib.Omega.{arith}
use Rattle.block_map.proofs.Found.{all_before, found_behind, missing_behind, missing_between}
use Rattle.block_map.proofs.Zipped.{as_many}
use Rattle.block_map.proofs.block.Block.place_of.Goals as goal

pub loop-place-preserved : goal.loop-place-preserved
loop-place-preserved g c = record {
  within = grind (arith, as_many);
  before =
      all_before g.met.K.Ord.total c.args.key c.key_at.result c.args.self.now c.loop-place.place (c.loop-place.place + 1) (omega arith) (grind (arith, as_many))
      c.key_at.ensures.key (sym c.in-Less.ensures) c.key_at.ensures.rising;
}

pub returns-in-Equal-clause-place : goal.returns-in-Equal-clause-place
returns-in-Equal-clause-place g c =
    found_behind g.met.K.Ord.total c.args.key c.key_at.result c.args.self.now c.loop-place.place (grind (arith, as_many))
    c.key_at.ensures.key (sym c.in-Equal.ensures) c.loop-place.invariant.before

pub returns-in-Greater-clause-place : goal.returns-in-Greater-clause-place
returns-in-Greater-clause-place g c =
    missing_between g.met.K.Ord.total c.args.key c.key_at.result c.args.self.now c.loop-place.place (grind (arith, as_many))
    c.key_at.ensures.key (sym c.in-Greater.ensures) c.key_at.ensures.rising c.loop-place.invariant.before

pub returns-clause-place : goal.returns-clause-place
returns-clause-place g c =
    missing_behind g.met.K.Ord.total c.args.key c.args.self.now c.loop-place.place (grind (arith, as_many)) c.loop-place.invariant.before
