use Rattle.lock_server.proofs.Common.{[], subst, sym, FileState, SetFrees}
use Rattle.lock_server.proofs.FreedLemmas.{any_but}
use Rattle.lock_server.proofs.TableLemmas.{found_state}
use Rattle.lock_server.proofs.table.Table.freed_by_set.Goals as goal

pub returns-in-Some : goal.returns-in-Some
returns-in-Some c =
    subst (λ (F : FileState). SetFrees c.args.policy F c.args.owner c.args.span c.args.mode c.freed_by_set.result)
    (sym (found_state c.args.self.now c.args.file c.get.result c.in-Some.locks c.get.ensures.value c.in-Some.is)) c.freed_by_set.ensures

pub returns-in-None : goal.returns-in-None
returns-in-None c = λ G sets waits settled. any_but c.args.policy G [] G.waits
