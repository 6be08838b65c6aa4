use Rattle.interval_index.proofs.Common.{sym, ◌∙◌}
use Rattle.interval_index.proofs.Moving.{told_without}
use Rattle.interval_index.proofs.reach.ReachesSummaryRun.leave.Goals as goal

pub returns : goal.returns
returns c front back told stays = told_without c.args.self.now front back c.args.run.now told (sym c.stays_without.ensures ∙ stays)
