use Rattle.lock_manager.specs.declared.request.Errno.TheVariants.{EBADF}
use Rattle.explore_core.specs.Shown.{IsTold}
use Rattle.script_search.proofs.LoopLemmas.{NoneBelow}
use Rattle.shown_run.proofs.runs.tells_bad_descriptor.Given as goal

abbrev pub invariant-loop-entry : goal.invariant-loop-entry
invariant-loop-entry l = NoneBelow (λ event. IsTold event EBADF) l.journal l.entry-index
