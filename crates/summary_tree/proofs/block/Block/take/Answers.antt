use Rattle.std.proofs.Common.{◌≡◌, length, arith, ap}
use Rattle.summary_tree.specs.Cuts.{without_first}
use Rattle.summary_tree.proofs.CutLemmas.{any_at_last}
use Rattle.summary_tree.proofs.Splits.{found_at_place, length_without, place_among, without_at_place}
use Rattle.summary_tree.proofs.block.Block.take.Goals as goal

pub remove-requires : goal.remove-requires
remove-requires g c =
    let a = any_at_last (g.C.Cut.is_behind c.args.cut.now) c.args.self.now c.requires in
    omega (arith, c.place_of-place.ensures, place_among (g.C.Cut.is_behind c.args.cut.now) c.args.self.now a)

pub returns-clause-item : goal.returns-clause-item
returns-clause-item g c =
    let p = g.C.Cut.is_behind c.args.cut.now in
    let a = any_at_last p c.args.self.now c.requires in
    let e = found_at_place p c.args.self.now c.remove.result a in
    (cc)

pub returns-clause-rest : goal.returns-clause-rest
returns-clause-rest g c =
    let e = without_at_place (g.C.Cut.is_behind c.args.cut.now) c.args.self.now in
    (cc)

pub returns-clause-count : goal.returns-clause-count
returns-clause-count g c =
    let p = g.C.Cut.is_behind c.args.cut.now in
    let a = any_at_last p c.args.self.now c.requires in
    let e = without_at_place p c.args.self.now in
    let is : c.remove.new.self ≡ without_first p c.args.self.now = cc in
    omega (arith, ap length is, length_without p c.args.self.now a)
