use Rattle.std.proofs.Common.{sym, ap, ◌∙◌}
use Rattle.std.specs.Map.{lookup}
use Rattle.std.specs.BTreeMap.{is_at}
use Rattle.block_map.proofs.Parts.{looked_up}
use Rattle.block_map.proofs.blocks.Blocks.get.Goals as goal

pub returns : goal.returns
returns g c =
    c.get.ensures
    ∙ (ap (lookup (is_at (g.K.Ord.cmp c.args.key))) c.block_for.ensures.block ∙ sym (looked_up g.met.K.Ord.total c.args.key c.args.self.now.first c.args.self.now.others.entries c.requires.1))
