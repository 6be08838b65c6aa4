-- What is known of a tree's items once its link is a fork.
use Rattle.std.proofs.Common.{◌≡◌, ◌<◌, ◌≤◌, ◌^◌, List, length, arith, sym, ap, ◌∙◌, subst, Box}
use Rattle.std.specs.declared.alloc.Global.{Global}
use Rattle.summary_tree.specs.declared.subtree.Node.{Node}
use Rattle.summary_tree.specs.declared.subtree.Link.{Link}
use Rattle.summary_tree.specs.declared.subtree.Link.TheVariants.{Empty, Fork}
use Rattle.summary_tree.specs.Contents.{Parts}
use Rattle.summary_tree.specs.Nodes.{excess_of, items_of, nodes_of, parts_behind, IsKeptNode, IsKept}

abbrev items_in : {T : Type 0} → Parts T → List T
items_in parts = parts.items

-- the items, the nodes and the excess are those of the node, which is kept
pub record AtFork {T S : Type 0} (tells : S → List T → Type 0) (parts : Parts T) (node : Node T S) : Type 0 where
  pub items : parts.items ≡ items_of node
  pub nodes : parts.nodes ≡ nodes_of node
  pub excess : parts.excess ≡ excess_of node
  pub kept : IsKeptNode tells node
  pub told : tells node.summary parts.items
  pub fits : length parts.items < 2 ^ 64

pub at_fork : {T S : Type 0} {tells : S → List T → Type 0} {link : Link T S} {parts : Parts T} {node : Box (Node T S) Global} {inner : Node T S} → parts_behind link ≡ parts → IsKept tells link → link ≡ Fork node → inner ≡ node.value → AtFork tells parts inner
at_fork {T} {S} {tells} {link} {parts} {node} {inner} view_is kept is same =
    let all = sym view_is ∙ ap parts_behind is in
    let items : parts.items ≡ items_of inner = ap (λ p. p.items) all ∙ ap items_of (sym same) in
    let nodes : parts.nodes ≡ nodes_of inner = ap (λ p. p.nodes) all ∙ ap nodes_of (sym same) in
    let excess : parts.excess ≡ excess_of inner = ap (λ p. p.excess) all ∙ ap excess_of (sym same) in
    let whole = subst (IsKeptNode tells) (sym same) (subst (IsKept tells) is kept) in
    record { items = items; nodes = nodes; excess = excess; kept = whole; told = subst (tells inner.summary) (sym items) whole.summary; fits = omega (arith, whole.count, whole.fits, ap length items) }

-- what stands behind a link has no more nodes than items, and no greater excess
pub few_behind : {T S : Type 0} (tells : S → List T → Type 0) (link : Link T S) → IsKept tells link
    → ((parts_behind link).nodes ≤ length (parts_behind link).items) × ((parts_behind link).excess ≤ length (parts_behind link).items)
few_behind tells Empty kept = (omega arith, omega arith)
few_behind tells (Fork node) kept = (omega (arith, kept.count, kept.nodes, kept.few), omega (arith, kept.count, kept.excess, kept.slight))
