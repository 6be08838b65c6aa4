use Rattle.lock_manager.proofs.Common.{take, ReleasesInBook}
use Rattle.lock_manager.proofs.lock_releases.release_in.Given as goal

abbrev pub invariant-loop-description : goal.invariant-loop-description
invariant-loop-description l = ReleasesInBook l.fn.book l.book l.p (take l.description-index l.descriptions)
