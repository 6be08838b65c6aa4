use Rattle.lock_server.proofs.Common.{arith, refl, flock_words, file_state, AreJust, IsFlockLock, flock_place}
use Rattle.lock_server.proofs.ExportLaws.{flocks_one}
use Rattle.lock_server.proofs.WordLemmas.{counted}
use Rattle.lock_server.proofs.file.LockFile.put_flocks.Goals as goal

pub returns : goal.returns
returns c =
    counted (AreJust flock_place (IsFlockLock (file_state c.args.self.now))) (flocks_one (file_state c.args.self.now)) flock_words 2 (λ lock. refl) _ _ _ _ _ _ _ _ _ _
    c.put_each_flock-size.ensures (λ n is. omega (arith, is)) c.put-at.ensures c.put_each_flock.ensures
