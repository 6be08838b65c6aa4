use Rattle.std.proofs.Common.{arith}
use Rattle.summary_tree.proofs.Splits.{inserted_back, inserted_front}
use Rattle.summary_tree.proofs.block.Block.insert_in_full.Goals as goal

pub returns-then-place-middle-clause-items : goal.returns-then-place-middle-clause-items
returns-then-place-middle-clause-items g c =
    let e = inserted_front c.args.self.now c.middle_for-middle.result c.args.place c.args.item (omega arith) in
    (cc)

pub returns-else-place-middle-clause-items : goal.returns-else-place-middle-clause-items
returns-else-place-middle-clause-items g c =
    let e = inserted_back c.args.self.now c.middle_for-middle.result c.args.place c.args.item (omega arith) (omega arith) in
    (cc)
