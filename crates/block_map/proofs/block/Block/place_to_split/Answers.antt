use Rattle.std.proofs.Common.{sym, ◌∙◌, inl, inr}
use native.Mathlib.Omega.{arith}
use Rattle.block_map.proofs.Found.{found_there, not_there}
use Rattle.block_map.proofs.Zipped.{as_many}
use Rattle.block_map.proofs.block.Block.place_to_split.Goals as goal
use Rattle.block_map.proofs.block.Block.place_to_split.Goals.{then-len-lt-BLOCK-via-then-len-lt-BLOCK, then-len-lt-BLOCK-via-else-len-lt-BLOCK+then-is_ok}

pub returns-then-len-lt-BLOCK-clause-none : goal.returns-then-len-lt-BLOCK-clause-none
returns-then-len-lt-BLOCK-clause-none g c =
    elim c.then-len-lt-BLOCK.branch [
      | then-len-lt-BLOCK-via-then-len-lt-BLOCK w ↦
          inl (rw (← c.self.view_is) (omega (arith, as_many c.self.inside.keys.items c.self.inside.values.items c.self.invariant.0, c.len-len.ensures, w.if-len-lt-BLOCK)))
      | then-len-lt-BLOCK-via-else-len-lt-BLOCK+then-is_ok w ↦
          inr (found_there g.met.K.Ord.total c.args.key c.args.self.now w.place_of.result w.place_of.ensures.place (sym w.is_ok.ensures.value ∙ w.if-is_ok.true))
    ]

pub returns-then-lt-clause-missing : goal.returns-then-lt-clause-missing
returns-then-lt-clause-missing g c =
    not_there g.met.K.Ord.total c.args.key c.args.self.now c.place_of.result c.place_of.ensures.place (sym c.is_ok.ensures.value ∙ c.if-is_ok.false)

pub returns-else-lt-clause-missing : goal.returns-else-lt-clause-missing
returns-else-lt-clause-missing g c =
    not_there g.met.K.Ord.total c.args.key c.args.self.now c.place_of.result c.place_of.ensures.place (sym c.is_ok.ensures.value ∙ c.if-is_ok.false)
