use Rattle.lock_server.proofs.Common.{[], None, subst, sym, SetsFlock, FileState, Frees}
use Rattle.lock_server.proofs.FreedLemmas.{any_but}
use Rattle.lock_server.proofs.TableLemmas.{found_state}
use Rattle.lock_server.proofs.table.Table.freed_by_flock_release.Goals as goal

pub returns-in-Some : goal.returns-in-Some
returns-in-Some c = λ policy.
    subst (λ (F : FileState). Frees policy F (SetsFlock F c.args.owner None) c.freed_by_flock_release.result)
    (sym (found_state c.args.self.now c.args.file c.get.result c.in-Some.locks c.get.ensures.value c.in-Some.is)) (c.freed_by_flock_release.ensures policy)

pub returns-in-None : goal.returns-in-None
returns-in-None c = λ policy G changed waits settled. any_but policy G [] G.waits
