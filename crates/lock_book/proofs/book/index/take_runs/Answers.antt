use Rattle.lock_book.proofs.Common.{as_holder}
use Rattle.lock_book.proofs.IndexLemmas.{takes_all, takes_none, takes_step}
use Rattle.owner_runs.proofs.ForCallers.{all_came}
use Rattle.lock_book.proofs.book.index.take_runs.Goals as goal

pub loop-span-init : goal.loop-span-init
loop-span-init c = (tt, tt, λ modes passes are. takes_none (as_holder c.args.owner) modes passes c.args.index.now.runs are)

pub loop-span-preserved : goal.loop-span-preserved
loop-span-preserved c = (
  tt,
  tt,
  λ modes passes are.
      takes_step (as_holder c.args.owner) modes passes c.loop-span.yielded (c.in-Some.field-0-0, c.in-Some.span) c.loop-span.index.runs c.take.new.self.runs c.holder.result
      c.holder.ensures c.take.ensures.runs (c.loop-span.invariant.2 modes passes are),
)

pub returns : goal.returns
returns c modes passes are =
    takes_all (as_holder c.args.owner) modes passes c.loop-span.index.runs c.loop-span.yielded c.args.runs
    (all_came c.args.runs c.loop-span.yielded _ _ _ _ c.into_iter-span-iterator.ensures.into_iter_gives c.loop-span.yielded_by c.next.ensures.steps c.in-None.is)
    (c.loop-span.invariant.2 modes passes are)
