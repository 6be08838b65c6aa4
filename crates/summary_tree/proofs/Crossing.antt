-- A tree may cross threads where its items and summaries may. `search` alone goes round in its nodes, which hold nodes: here it is shown from
-- the leaves up.
use denote.RattleType.{RattleType}
use denote.Param.Send.{sendable, IsSend}
use Rattle.std.proofs.Crossing.{Box-send, Vec-send}
use Rattle.summary_tree.specs.declared.Summary.{Ghosts}
use Rattle.summary_tree.specs.contracts.block.Block as block
use Rattle.summary_tree.specs.contracts.few.Few as few
use Rattle.summary_tree.specs.contracts.many.Many as many
use Rattle.summary_tree.specs.contracts.subtree.Node as node
use Rattle.summary_tree.specs.contracts.subtree.Subtree as subtree
use Rattle.summary_tree.specs.contracts.tree.Tree as tree
use Rattle.summary_tree.proofs.subtree.Subtree.TheLaws.TheKnot.{send-Subtree}

module _ (T S : RattleType) (g : Ghosts S.Denot T.Denot) (send-T : IsSend T) (send-S : IsSend S) where
  block_send : IsSend (block.the_row T S g)
  block_send = search (sendable, Vec-send) depth 20

  subtree_send : IsSend (subtree.the_row T S g)
  subtree_send = send-Subtree T S g Box-send (search sendable) (search sendable) block_send

  node_send : IsSend (node.the_row T S g)
  node_send = search (sendable, block_send, subtree_send) depth 20

  few_send : IsSend (few.the_row T)
  few_send = search (sendable, Vec-send) depth 20

  many_send : IsSend (many.the_row T S g)
  many_send = search (sendable, Box-send, Vec-send, node_send, subtree_send) depth 20

  pub tree_send : IsSend (tree.the_row T S g)
  tree_send = search (sendable, few_send, many_send) depth 20
