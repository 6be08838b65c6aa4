use Rattle.lock_server.proofs.Common.{file_words, MayStand}
use Rattle.lock_server.specs.Reading.{entry_of}
use Rattle.lock_server.proofs.ReaderLemmas.{AreReadTo}
use Rattle.lock_server.proofs.import.reader.Reader.files.Given as goal

abbrev pub invariant-loop-place : goal.invariant-loop-place
invariant-loop-place l = AreReadTo entry_of file_words MayStand l.fn.self.left.now l.files.items l.self.left.now l._place l.count
