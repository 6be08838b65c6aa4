use Rattle.std.proofs.Common.{Some, refl, sym, ap, ◌∙◌}
use Rattle.block_map.specs.declared.blocks.Blocks.{Blocks}
use Rattle.block_map.proofs.Kept.{placed}
use Rattle.block_map.proofs.Splits.{gone_in}
use Rattle.block_map.proofs.blocks.Blocks.drop_empty.Goals as goal

pub returns-in-Some : goal.returns-in-Some
returns-in-Some g c =
    let old = c.args.self.now in
    let end : Blocks g.row.K.Denot g.row.V.Denot = record { first = old.first; others = c.remove.new.self; alloc = old.alloc } in
    gone_in g.met.K.Ord.total c.in-Some.bound old end c.requires.parted
    (placed g.met.K.Ord.total c.args.key old (Some c.in-Some.bound) c.requires.parted.1 (sym c.in-Some.is ∙ c.bound_for.ensures) ∙ ap Some c.requires.empty) refl c.remove.ensures
