use Rattle.std.proofs.Common.{arith}
use Rattle.summary_tree.proofs.CutLemmas.{any_at_last}
use Rattle.summary_tree.proofs.Splits.{found_at_place, place_among, with_at_place}
use Rattle.summary_tree.proofs.block.Block.replace.Goals as goal

pub swap-requires : goal.swap-requires
swap-requires g c =
    let a = any_at_last (g.C.Cut.is_behind c.args.cut.now) c.args.self.now c.requires in
    omega (arith, c.place_of-place.ensures, place_among (g.C.Cut.is_behind c.args.cut.now) c.args.self.now a)

pub returns-clause-item : goal.returns-clause-item
returns-clause-item g c =
    let p = g.C.Cut.is_behind c.args.cut.now in
    let a = any_at_last p c.args.self.now c.requires in
    let e = found_at_place p c.args.self.now c.swap.result a in
    (cc)

pub returns-clause-items : goal.returns-clause-items
returns-clause-items g c =
    let e = with_at_place (g.C.Cut.is_behind c.args.cut.now) c.args.item c.args.self.now in
    (cc)
