use Rattle.lock_server.proofs.Common.{flock_words, Always, itself}
use Rattle.lock_server.proofs.ReaderLemmas.{AreReadTo}
use Rattle.lock_server.proofs.import.reader.Reader.flocks.Given as goal

abbrev pub invariant-loop-place : goal.invariant-loop-place
invariant-loop-place l = AreReadTo itself flock_words Always l.fn.self.left.now l.flocks.items l.self.left.now l._place l.count
