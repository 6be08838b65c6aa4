use Rattle.std.specs.Prelude.{All}
use Rattle.lock_server.proofs.Common.{IsByteRange, wait_words, MayWait, itself}
use Rattle.lock_server.proofs.ReaderLemmas.{AreReadTo}
use Rattle.lock_server.proofs.import.reader.Reader.waits.Given as goal

abbrev pub invariant-loop-place : goal.invariant-loop-place
invariant-loop-place l = record {
  ranges : All (λ wait. IsByteRange wait.span) l.waits.items;
  again : AreReadTo itself wait_words MayWait l.fn.self.left.now l.waits.items l.self.left.now l._place l.count;
}
