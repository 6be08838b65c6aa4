-- A map may cross threads where its keys and values may.
use denote.RattleType.{RattleType}
use denote.Hole.{as_row}
use denote.Builtin.{usize}
use denote.Param.Send.{sendable, view_send, IsSend}
use denote.Param.SendFields.{as_row_send, declared_send, variants_send}
use Rattle.std.proofs.Crossing.{send, Vec-send}
use Rattle.std.proofs.MapsCrossing.{BTreeMap-send}
use Rattle.std.specs.declared.cmp.Ord as ord
use Rattle.std.specs.declared.cmp.PartialEq as eq
use Rattle.std.specs.declared.cmp.PartialOrd as partial
use Rattle.std.specs.contracts.alloc.Global as Global
use Rattle.std.specs.contracts.collections.BTreeMap as BTreeMap
use Rattle.std.specs.contracts.impls.GlobalAllocator.TheImpl.{ghosts}
use Rattle.slab.specs.contracts.Entry as slot
use Rattle.slab.specs.contracts.Slab as slab
use Rattle.block_map.specs.contracts.block.Block as block
use Rattle.block_map.specs.contracts.blocks.Blocks as blocks
use Rattle.block_map.specs.contracts.bounded.Bounded as bounded
use Rattle.block_map.specs.contracts.map.BlockMap as map

module _ (K V : RattleType) (o : ord.Ghosts K.Denot) (e : eq.Ghosts K.Denot) (p : partial.Ghosts K.Denot) (send-K : IsSend K) (send-V : IsSend V) where
  abbrev block_row : RattleType
  block_row = block.the_row K V o e p

  block_send : IsSend block_row
  block_send = search (view_send, declared_send, as_row_send, Vec-send, tt) depth 20

  slot_send : IsSend (slot.the_row block_row)
  slot_send = search (block_send, variants_send, as_row_send, sendable, tt) depth 20

  slab_send : IsSend (slab.the_row block_row Global.the_row ghosts)
  slab_send = search (view_send, declared_send, slot_send, Vec-send, as_row_send, sendable, tt) depth 20

  places_send : IsSend (as_row (BTreeMap.the_field K usize Global.the_row o e p ghosts))
  places_send = as_row_send (BTreeMap.the_field K usize Global.the_row o e p ghosts) (BTreeMap-send K usize o e p send-K (search sendable))

  bounded_send : IsSend (bounded.the_row K V o e p)
  bounded_send = search (view_send, declared_send, places_send, slab_send, tt) depth 20

  blocks_send : IsSend (blocks.the_row K V o e p)
  blocks_send = search (declared_send, block_send, bounded_send, as_row_send, send, tt) depth 20

  -- and so may a map of them
  pub map_send : IsSend (map.the_row K V o e p)
  map_send = search (view_send, declared_send, as_row_send, blocks_send, tt) depth 20
