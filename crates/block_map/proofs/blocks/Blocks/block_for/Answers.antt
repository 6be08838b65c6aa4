use Rattle.std.proofs.Common.{None, Some, refl, sym, ap, ◌∙◌}
use Rattle.std.specs.Option.{option_copied}
use Rattle.block_map.proofs.Kept.{is_lent, is_there, its_block}
use Rattle.block_map.proofs.Placed.{last_within}
use Rattle.block_map.proofs.blocks.Blocks.block_for.Goals as goal

pub unwrap-requires : goal.unwrap-requires
unwrap-requires g c =
    let o = g.met.K.Ord.total in
    let last = c.in-Some.ensures.bound ∙ last_within o c.args.key c.args.self.now.first c.args.self.now.others.entries c.requires.1 in
    is_lent c.at.result _ (c.at.ensures _ c.in-Some.ensures.place) (is_there o c.args.key c.args.self.now (Some _) c.requires.1 last)

pub returns-in-Some-clause-bound : goal.returns-in-Some-clause-bound
returns-in-Some-clause-bound g c = c.in-Some.ensures.bound ∙ last_within g.met.K.Ord.total c.args.key c.args.self.now.first c.args.self.now.others.entries c.requires.1

pub returns-in-Some-clause-block : goal.returns-in-Some-clause-block
returns-in-Some-clause-block g c =
    let o = g.met.K.Ord.total in
    let last = c.in-Some.ensures.bound ∙ last_within o c.args.key c.args.self.now.first c.args.self.now.others.entries c.requires.1 in
    its_block o c.args.key c.args.self.now (Some _) c.unwrap.result.now c.requires.1 last (sym (c.at.ensures _ c.in-Some.ensures.place) ∙ ap option_copied c.unwrap.ensures)

pub returns-in-None-clause-bound : goal.returns-in-None-clause-bound
returns-in-None-clause-bound g c = c.in-None.ensures.bound ∙ last_within g.met.K.Ord.total c.args.key c.args.self.now.first c.args.self.now.others.entries c.requires.1

pub returns-in-None-clause-block : goal.returns-in-None-clause-block
returns-in-None-clause-block g c =
    let none = c.in-None.ensures.bound ∙ last_within g.met.K.Ord.total c.args.key c.args.self.now.first c.args.self.now.others.entries c.requires.1 in
    its_block g.met.K.Ord.total c.args.key c.args.self.now None c.args.self.now.first c.requires.1 none refl
