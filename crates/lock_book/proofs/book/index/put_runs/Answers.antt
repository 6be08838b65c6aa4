use Rattle.lock_book.proofs.Common.{refl, IsRun, as_holder}
use Rattle.lock_book.specs.Indexing.{run_by}
use Rattle.lock_book.proofs.IndexLemmas.{puts_all, puts_none, puts_step}
use Rattle.owner_runs.proofs.ForCallers.{all_came, next_item}
use Rattle.lock_book.proofs.book.index.put_runs.Goals as goal

pub loop-mode-init : goal.loop-mode-init
loop-mode-init c = (tt, tt, λ modes passes each are. puts_none (as_holder c.args.owner) modes passes c.args.index.now.runs are)

pub loop-mode-preserved : goal.loop-mode-preserved
loop-mode-preserved c = (
  tt,
  tt,
  λ modes passes each are.
      let its = next_item c.args.runs c.loop-mode.yielded _ _ _ _ c.into_iter-mode-iterator.ensures.into_iter_gives c.loop-mode.yielded_by c.next.ensures.steps
      (λ run. IsRun (modes (as_holder c.args.owner)) run.1.first run.0 run.1) (c.in-Some.mode, c.in-Some.span) c.in-Some.is each in
      puts_step (as_holder c.args.owner) modes passes c.loop-mode.yielded (c.in-Some.mode, c.in-Some.span) c.loop-mode.index.runs c.put_run.new.index.runs
      (run_by c.args.owner c.in-Some.mode c.in-Some.span) refl (c.put_run.ensures c.if-not-put_run.false) its
      (c.loop-mode.invariant.2 modes passes each are),
)

pub returns : goal.returns
returns c told modes passes each are =
    puts_all (as_holder c.args.owner) modes passes c.loop-mode.index.runs c.loop-mode.yielded c.args.runs
    (all_came c.args.runs c.loop-mode.yielded _ _ _ _ c.into_iter-mode-iterator.ensures.into_iter_gives c.loop-mode.yielded_by c.next.ensures.steps c.in-None.is)
    (c.loop-mode.invariant.2 modes passes each are)
