use Rattle.std.proofs.lemmas.Result.{IfOk-weaker}
use Rattle.history_core.proofs.TraceLemmas.{happen_effect}
use Rattle.history_core.proofs.held_locks.HeldLocks.behind.Goals as goal

pub returns-in-Effect : goal.returns-in-Effect
returns-in-Effect c = IfOk-weaker c.behind_request.result _ _
    (λ next h. happen_effect c.args.self.now.possibility c.args.happening next c.in-Effect.is h) c.behind_request.ensures.world
