-- What a node stands for, and what holds of it.
use Rattle.std.specs.Prelude.{◌≡◌, ℕ, ◌+◌, ◌-◌, ◌<◌, ◌≤◌, ◌^◌, List, [], ◌∷◌, ◌++◌, length}
use Rattle.summary_tree.specs.declared.subtree.Node.{Node}
use Rattle.summary_tree.specs.declared.subtree.Link.{Link}
use Rattle.summary_tree.specs.declared.subtree.Link.TheVariants.{Empty, Fork}
use Rattle.summary_tree.specs.Balance.{IsBalanced}
use Rattle.summary_tree.specs.Sizes.{part_size}
use Rattle.summary_tree.specs.Contents.{Parts}

-- the items of a node and of its sides, in order
abbrev pub items_of : {T S : Type 0} → Node T S → List T
items_of node = node.left.items ++ (node.block ++ node.right.items)

-- the nodes of a node and of its sides
abbrev pub nodes_of : {T S : Type 0} → Node T S → ℕ
nodes_of node = node.left.nodes + 1 + node.right.nodes

-- by how many items the blocks of a node and of its sides exceed what a part of a split block may have
abbrev pub excess_of : {T S : Type 0} → Node T S → ℕ
excess_of node = node.left.excess + (length node.block - part_size) + node.right.excess

-- what a node and its sides stand for
abbrev pub parts_of : {T S : Type 0} → Node T S → Parts T
parts_of node = record { items = items_of node; nodes = nodes_of node; excess = excess_of node }

-- what stands behind a link
abbrev pub parts_behind : {T S : Type 0} → Link T S → Parts T
parts_behind Empty = record { items = []; nodes = 0; excess = 0 }
parts_behind (Fork node) = parts_of node.value

-- the node's block isn't empty, and the items can be counted
pub record IsFilled {T S : Type 0} (node : Node T S) : Type 0 where
  pub some : 0 < length node.block
  pub fits : length node.left.items + length node.block + length node.right.items < 2 ^ 64

-- the node counts its items, its nodes, none of which is empty, and their excess, tells of the items, and is balanced
pub record IsKeptNode {T S : Type 0} (tells : S → List T → Type 0) (node : Node T S) : Type 0 where
  pub count : node.count ≡ length (items_of node)
  pub nodes : node.nodes ≡ nodes_of node
  pub few : node.nodes ≤ node.count
  pub excess : node.excess ≡ excess_of node
  pub slight : node.excess ≤ node.count
  pub fits : node.count < 2 ^ 64
  pub filled : 0 < length node.block
  pub summary : tells node.summary (items_of node)
  pub balance : IsBalanced node.left.nodes node.right.nodes

-- of the node is kept what is to be kept of its items without this one, by which the excess of a part has changed from the one to the other
pub record LacksItem {T S : Type 0} (tells : S → List T → Type 0) (node : Node T S) (item : T) (was is : ℕ) : Type 0 where
  pub front : List T
  pub back : List T
  pub items : items_of node ≡ front ++ item ∷ back
  pub summary : tells node.summary (front ++ back)
  pub count : node.count ≡ length (front ++ back)
  pub nodes : node.nodes ≡ nodes_of node
  pub few : node.nodes ≤ node.count
  pub excess : node.excess + is ≡ excess_of node + was
  pub part : was ≤ node.excess
  pub slight : excess_of node ≤ node.count + 1
  pub fits : node.count + 1 < 2 ^ 64

-- of the node is kept what is to be kept of its items with this one, by which the excess of a part has changed from the one to the other
pub record KeepsItem {T S : Type 0} (tells : S → List T → Type 0) (node : Node T S) (item : T) (was is : ℕ) : Type 0 where
  pub front : List T
  pub back : List T
  pub items : items_of node ≡ front ++ back
  pub summary : tells node.summary (front ++ item ∷ back)
  pub count : node.count ≡ length (front ++ item ∷ back)
  pub nodes : node.nodes ≡ nodes_of node
  pub excess : node.excess + is ≡ excess_of node + was
  pub part : was ≤ node.excess
  pub fits : node.count < 2 ^ 64

-- of the node is kept what is to be kept of its items with this one in place of the other
pub record SwapsItem {T S : Type 0} (tells : S → List T → Type 0) (node : Node T S) (item other : T) : Type 0 where
  pub front : List T
  pub back : List T
  pub items : items_of node ≡ front ++ other ∷ back
  pub summary : tells node.summary (front ++ item ∷ back)
  pub count : node.count ≡ length (front ++ item ∷ back)
  pub nodes : node.nodes ≡ nodes_of node
  pub few : node.nodes ≤ node.count
  pub excess : node.excess ≡ excess_of node
  pub slight : node.excess ≤ node.count
  pub fits : node.count < 2 ^ 64

-- the node, if there is one, is kept
abbrev pub IsKept : {T S : Type 0} → (S → List T → Type 0) → Link T S → Type 0
IsKept tells Empty = Unit {0}
IsKept tells (Fork node) = IsKeptNode tells node.value
