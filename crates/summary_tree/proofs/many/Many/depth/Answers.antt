use Rattle.std.proofs.Common.{◌≡◌, ℕ, length, ap, arith}
use Rattle.summary_tree.specs.Contents.{Contents}
use Rattle.summary_tree.proofs.Depths.{no_deeper}
use Rattle.summary_tree.proofs.many.Many.depth.Goals as goal

abbrev count_of : {T : Type 0} → Contents T → ℕ
count_of contents = length contents.items

pub returns : goal.returns
returns g c =
    let count : length c.self.inside.items.items ≡ length c.args.self.now.items = ap count_of c.self.view_is in
    no_deeper c.depth.result c.self.inside.items.nodes (length c.args.self.now.items) c.depth.ensures.few (omega (arith, count, c.nodes-nodes.ensures.nodes, c.nodes-nodes.ensures.few))
