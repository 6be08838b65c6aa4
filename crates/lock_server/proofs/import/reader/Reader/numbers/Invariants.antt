use Rattle.lock_server.proofs.Common.{number_words, Always, itself}
use Rattle.lock_server.proofs.ReaderLemmas.{AreReadTo}
use Rattle.lock_server.proofs.import.reader.Reader.numbers.Given as goal

abbrev pub invariant-loop-place : goal.invariant-loop-place
invariant-loop-place l = AreReadTo itself number_words Always l.fn.self.left.now l.numbers.items l.self.left.now l._place l.count
