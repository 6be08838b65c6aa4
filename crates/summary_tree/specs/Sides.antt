-- In which part of a node an item is put.
use Rattle.std.specs.Prelude.{◌≡◌, ◌<◌, Bool, ◌++◌, length}
use Rattle.summary_tree.specs.declared.subtree.Node.{Node}
use Rattle.summary_tree.specs.declared.subtree.changing.Side.{Side}
use Rattle.summary_tree.specs.declared.subtree.changing.Side.TheVariants.{Left, Here, Right}
use Rattle.summary_tree.specs.Cuts.{IsCutBy, put_before}
use Rattle.summary_tree.specs.Nodes.{items_of}

-- an item that is put before the first that passes goes into this part, which isn't empty
abbrev pub IsSideOf : {T S : Type 0} → (T → Bool) → Node T S → Side → Type 0
IsSideOf {T} p node Left = IsCutBy p node.left.items × (0 < length node.left.items) × ((x : T) → put_before p x (items_of node) ≡ put_before p x node.left.items ++ (node.block ++ node.right.items))
IsSideOf {T} p node Here = (x : T) → put_before p x (items_of node) ≡ node.left.items ++ (put_before p x node.block ++ node.right.items)
IsSideOf {T} p node Right = IsCutBy p node.right.items × (0 < length node.right.items) × ((x : T) → put_before p x (items_of node) ≡ node.left.items ++ (node.block ++ put_before p x node.right.items))
