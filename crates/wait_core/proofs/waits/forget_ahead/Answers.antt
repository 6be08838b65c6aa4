use Rattle.wait_core.proofs.Common.{refl}
use Rattle.wait_core.proofs.QueueLemmas.{queue_left}
use Rattle.wait_core.proofs.waits.forget_ahead.Goals as goal

pub returns-in-Queue : goal.returns-in-Queue
returns-in-Queue c = λ queue waits told.
    queue_left c.args.ahead.now c.forget.new.self c.forget_blocker.new.self c.args.p waits _ refl
    c.forget.ensures.forgotten c.forget.ensures.others c.forget_blocker.ensures told
