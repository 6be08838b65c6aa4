use Rattle.std.proofs.Common.{◌++◌, sym, ap, ◌∙◌}
use Rattle.std.specs.BTreeMap.Range.{entries_between}
use Rattle.std.specs.Option.{option_copied}
use Rattle.std.specs.declared.ops.Bound.TheVariants.{Unbounded}
use Rattle.block_map.specs.Blocks.{entries_of}
use Rattle.block_map.proofs.Kept.{is_lent}
use Rattle.block_map.proofs.Ranges.{rest_in, starts}
use Rattle.block_map.proofs.blocks.Blocks.iter_from.Goals as goal

pub unwrap-requires : goal.unwrap-requires
unwrap-requires g c = is_lent c.block.result _ c.block.ensures (starts g.met.K.Ord.total c.args.from.now c.args.self.now c.bound_from-bound.result c.requires.1 c.bound_from-bound.ensures)

pub returns : goal.returns
returns g c =
    ap (λ es. es ++ entries_of c.behind.result) c.entries_from.ensures
    ∙ (ap (λ bs. entries_between g.K.Ord.cmp c.args.from.now Unbounded c.unwrap.result.now ++ entries_of bs) c.behind.ensures
    ∙ rest_in g.met.K.Ord.total c.args.from.now c.args.self.now c.bound_from-bound.result c.unwrap.result.now c.requires.1 c.bound_from-bound.ensures (sym c.block.ensures ∙ ap option_copied c.unwrap.ensures))
