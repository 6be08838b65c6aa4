use Rattle.history_core.proofs.Common.{ap, ◌∙◌}
use Rattle.history_core.specs.HeldView.{flocks_in}
use Rattle.history_core.proofs.HeldLemmas.{flocks_listed}
use Rattle.history_core.proofs.held_locks.HeldLocks.flock_locks.Goals as goal

pub returns : goal.returns
returns c =
    let flocks = c.args.self.now.possibility.flocks in
    ap flocks_in c.in_ok-locks.ensures ∙ flocks_listed flocks.locks.runs.items flocks.on_first flocks.locks.are_true
