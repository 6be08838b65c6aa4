use Rattle.lock_server.proofs.Common.{length}
use Rattle.lock_server.proofs.ReaderLemmas.{AreWordsTo}
use Rattle.lock_server.proofs.import.reader.words_of.Given as goal

abbrev pub decreases-loop-word : goal.decreases-loop-word
decreases-loop-word l = length l.left

abbrev pub invariant-loop-word : goal.invariant-loop-word
invariant-loop-word l = AreWordsTo l.fn.bytes l.words.items l.left
