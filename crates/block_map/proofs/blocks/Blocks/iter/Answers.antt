use Rattle.std.proofs.Common.{◌++◌, ap, ◌∙◌}
use Rattle.block_map.specs.Blocks.{entries_of}
use Rattle.block_map.proofs.Ranges.{all_from_start}
use Rattle.block_map.proofs.blocks.Blocks.iter.Goals as goal

pub returns : goal.returns
returns g c =
    ap (λ es. es ++ entries_of c.behind.result) c.entries.ensures
    ∙ ap (λ bs. c.args.self.now.first ++ entries_of bs) (c.behind.ensures ∙ all_from_start g.K.Ord.cmp c.args.self.now.others.entries)
