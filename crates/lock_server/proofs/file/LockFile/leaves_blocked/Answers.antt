use Rattle.lock_server.proofs.Common.{◌∙◌, sym, file_state}
use Rattle.lock_server.proofs.AddingLemmas.{leaves_blocked}
use Rattle.lock_server.proofs.file.LockFile.leaves_blocked.Goals as goal

pub returns-then-only_adds : goal.returns-then-only_adds
unfolding file_state
returns-then-only_adds c = λ alone.
    leaves_blocked c.args.policy (file_state c.args.self.now) c.args.i c.in-Some.wait (sym c.get.ensures ∙ c.in-Some.is) (c.only_adds.ensures c.if-only_adds.true)
    (λ queue. c.has_none_queued.ensures alone queue)
