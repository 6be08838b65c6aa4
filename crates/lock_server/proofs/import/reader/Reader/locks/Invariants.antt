use Rattle.std.specs.Prelude.{All}
use Rattle.lock_server.proofs.Common.{IsByteRange, lock_words, MayLock, itself}
use Rattle.lock_server.proofs.ReaderLemmas.{AreReadTo}
use Rattle.lock_server.proofs.import.reader.Reader.locks.Given as goal

abbrev pub invariant-loop-place : goal.invariant-loop-place
invariant-loop-place l = record {
  ranges : All (λ lock. IsByteRange lock.span) l.locks.items;
  again : AreReadTo itself lock_words MayLock l.fn.self.left.now l.locks.items l.self.left.now l._place l.count;
}
