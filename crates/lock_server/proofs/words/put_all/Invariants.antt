use Rattle.lock_server.proofs.Common.{take, Puts}
use Rattle.lock_server.proofs.words.put_all.Given as goal

abbrev pub invariant-loop-word : goal.invariant-loop-word
invariant-loop-word l = Puts (take l.word-index l.words) l.fn.out l.fn.at l.out l.behind
