use Rattle.lock_server.proofs.Common.{arith, refl, lock_words, file_state, AreByteLocks}
use Rattle.lock_server.proofs.ExportLaws.{byte_locks_one}
use Rattle.lock_server.proofs.WordLemmas.{counted}
use Rattle.lock_server.proofs.file.LockFile.put_locks.Goals as goal

pub returns : goal.returns
returns c =
    counted (AreByteLocks (file_state c.args.self.now)) (byte_locks_one (file_state c.args.self.now)) lock_words 4 (λ lock. refl) _ _ _ _ _ _ _ _ _ _
    c.put_each_lock-size.ensures (λ n is. omega (arith, is)) c.put-at.ensures c.put_each_lock.ensures
