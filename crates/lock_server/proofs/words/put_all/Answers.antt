use Rattle.lock_server.proofs.Common.{take, take_more}
use Rattle.lock_server.proofs.WordLemmas.{puts_append}
use Rattle.lock_server.proofs.words.put_all.Goals as goal

pub loop-word-preserved : goal.loop-word-preserved
loop-word-preserved c =
    rw (take_more c.args.words.now c.loop-word.word-index 0 c.loop-word-test.true)
    (puts_append (take c.loop-word.word-index c.args.words.now) _ _ _ _ _ _ _ c.loop-word.invariant c.put-behind.ensures)
