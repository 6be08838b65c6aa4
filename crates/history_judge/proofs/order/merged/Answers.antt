use Rattle.history_judge.proofs.Common.{lefts_in}
use Rattle.history_judge.proofs.PassLemmas.{one_more}
use Rattle.history_judge.proofs.order.merged.Goals as goal

pub loop-index-preserved : goal.loop-index-preserved
loop-index-preserved c =
    one_more c.loop-index.told.items c.pass_line.new.told.items c.loop-index.index (lefts_in c.loop-index.orders) (lefts_in c.pass_line.new.orders) c.args.files.now _
    c.loop-index-test.true c.in_ok-pass_line.ensures.told c.in_ok-pass_line.ensures.left c.loop-index.invariant
