use Rattle.std.proofs.Common.{subst, sym}
use Rattle.std.specs.Prelude.{Any}
use Rattle.lock_manager.specs.declared.request.Errno.TheVariants.{EBADF}
use Rattle.session_core.specs.Event.{Event}
use Rattle.explore_core.specs.Shown.{IsTold}
use Rattle.script_search.proofs.LoopLemmas.{answer_no, answer_yes, none_any, none_more, refuted}
use Rattle.shown_run.proofs.runs.tells_bad_descriptor.Goals as goal

pub loop-entry-preserved : goal.loop-entry-preserved
loop-entry-preserved c =
    none_more (λ (event : Event). IsTold event EBADF) c.args.journal.now c.loop-entry.entry-index c.entry-item.result c.loop-entry-test.true
    c.loop-entry.invariant
    (λ told.
    refuted c.is_bad_descriptor.result _ c.if-is_bad_descriptor.false c.is_bad_descriptor.ensures
    (subst (λ (event : Event). IsTold event EBADF) (sym c.entry-item.is) told))

pub returns-then-is_bad_descriptor : goal.returns-then-is_bad_descriptor
returns-then-is_bad_descriptor c =
    answer_yes (Any (λ (event : Event). IsTold event EBADF) c.args.journal.now) (
      c.loop-entry.entry-index,
      c.entry-item.result,
      c.loop-entry-test.true,
      sym c.entry-item.is,
      c.is_bad_descriptor.ensures.0 c.if-is_bad_descriptor.true,
    )

pub returns : goal.returns
returns c =
    answer_no (Any (λ (event : Event). IsTold event EBADF) c.args.journal.now)
    (none_any (λ (event : Event). IsTold event EBADF) c.args.journal.now c.loop-entry.entry-index c.loop-entry-test.false c.loop-entry.invariant)
