use Rattle.lock_server.proofs.Common.{note_words, Always, note_of}
use Rattle.lock_server.proofs.ReaderLemmas.{AreReadTo}
use Rattle.lock_server.proofs.import.reader.Reader.notes.Given as goal

abbrev pub invariant-loop-place : goal.invariant-loop-place
invariant-loop-place l = AreReadTo note_of note_words Always l.fn.self.left.now l.notes.items l.self.left.now l._place l.count
