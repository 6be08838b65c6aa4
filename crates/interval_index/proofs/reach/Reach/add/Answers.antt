use Rattle.interval_index.proofs.Common.{sym, ◌∙◌}
use Rattle.interval_index.proofs.Moving.{of_with}
use Rattle.interval_index.proofs.reach.Reach.add.Goals as goal

pub returns-else-not-outlasts : goal.returns-else-not-outlasts
returns-else-not-outlasts c kept runs its told = of_with kept c.args.self.now runs c.args.run.now told (sym c.outlasts.ensures ∙ c.if-not-outlasts.false)
