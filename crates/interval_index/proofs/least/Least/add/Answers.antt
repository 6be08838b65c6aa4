use Rattle.interval_index.proofs.Common.{sym, ◌∙◌}
use Rattle.interval_index.proofs.Moving.{least_with}
use Rattle.interval_index.proofs.least.Least.add.Goals as goal

pub returns-else-not-precedes : goal.returns-else-not-precedes
returns-else-not-precedes c runs told = least_with c.args.self.now runs c.args.run.now told (sym c.precedes.ensures ∙ c.if-not-precedes.false)
