use Rattle.lock_server.proofs.Common.{modes_of, lock_words, file_state}
use Rattle.owner_runs.proofs.ForCallers.{all_came}
use Rattle.lock_server.proofs.ExportLemmas.{lock_of, runs_put}
use Rattle.lock_server.proofs.WordLemmas.{item_more}
use Rattle.lock_server.proofs.file.LockFile.put_runs.Goals as goal

pub loop-mode-preserved : goal.loop-mode-preserved
loop-mode-preserved c = (
  tt,
  tt,
  item_more (λ run. lock_words (lock_of c.args.owner run)) c.loop-mode.yielded (c.in-Some.mode, c.in-Some.span) _ _ _ _ _ _
      c.loop-mode.invariant.2 c.put_lock-behind.ensures,
)

pub returns : goal.returns
returns c =
    let runs = c.runs-mode-items.result in
    let whole = all_came runs c.loop-mode.yielded _ _ _ _ c.into_iter-mode-iterator.ensures.into_iter_gives c.loop-mode.yielded_by c.next.ensures.steps c.in-None.is in
    runs_put (file_state c.args.self.now) c.args.owner (modes_of c.args.list.now) runs c.loop-mode.yielded _ _ _ _
    c.requires c.runs-mode-items.ensures.runs whole c.loop-mode.invariant.2
