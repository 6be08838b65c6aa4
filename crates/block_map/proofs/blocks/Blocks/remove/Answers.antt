use Rattle.std.proofs.Common.{◌∙◌}
use Rattle.block_map.proofs.Kept.{lent_is, looked_there, remove_keyed, still_keyed, told}
use Rattle.block_map.proofs.blocks.Blocks.remove.Goals as goal

pub drop_empty-requires : goal.drop_empty-requires
drop_empty-requires g c =
    let o = g.met.K.Ord.total in
    let old = c.args.self.now in
    let lent = c.unwrap-block.result in
    let its = lent_is c.block_for_mut.result lent _ c.block_for_mut.ensures.value c.unwrap-block.ensures in
    let end = c.block_for_mut.follows.lender c.remove-value.new.self in
    let sets = told c.block_for_mut.result lent c.unwrap-block.ensures (c.block_for_mut.follows.holds c.remove-value.new.self) in
    let done = remove_keyed o c.args.key old end lent.now c.remove-value.new.self c.requires its sets c.remove-value.ensures.entries in
    record {
      parted = done.1;
      empty = still_keyed o c.args.key old end lent.now c.remove-value.new.self c.requires its sets done.1 ∙ c.is_empty.ensures.0 c.if-is_empty.true;
    }

pub returns-then-is_empty : goal.returns-then-is_empty
returns-then-is_empty g c =
    let o = g.met.K.Ord.total in
    let old = c.args.self.now in
    let lent = c.unwrap-block.result in
    let its = lent_is c.block_for_mut.result lent _ c.block_for_mut.ensures.value c.unwrap-block.ensures in
    let end = c.block_for_mut.follows.lender c.remove-value.new.self in
    let sets = told c.block_for_mut.result lent c.unwrap-block.ensures (c.block_for_mut.follows.holds c.remove-value.new.self) in
    let done = remove_keyed o c.args.key old end lent.now c.remove-value.new.self c.requires its sets c.remove-value.ensures.entries in
    record {
      value = c.remove-value.ensures.value ∙ looked_there o c.args.key old lent.now c.requires its;
      entries = c.drop_empty.ensures.0 ∙ done.0;
      parted = c.drop_empty.ensures.1;
    }

pub returns-else-is_empty : goal.returns-else-is_empty
returns-else-is_empty g c =
    let o = g.met.K.Ord.total in
    let old = c.args.self.now in
    let lent = c.unwrap-block.result in
    let its = lent_is c.block_for_mut.result lent _ c.block_for_mut.ensures.value c.unwrap-block.ensures in
    let end = c.block_for_mut.follows.lender c.remove-value.new.self in
    let sets = told c.block_for_mut.result lent c.unwrap-block.ensures (c.block_for_mut.follows.holds c.remove-value.new.self) in
    let done = remove_keyed o c.args.key old end lent.now c.remove-value.new.self c.requires its sets c.remove-value.ensures.entries in
    record {
      value = c.remove-value.ensures.value ∙ looked_there o c.args.key old lent.now c.requires its;
      entries = done.0;
      parted = done.1;
    }
