use Rattle.interval_index.proofs.Common.{◌++◌}
use Rattle.interval_index.proofs.Moving.{told_moved}
use Rattle.interval_index.proofs.reach.ReachesSummaryRun.add.Goals as goal

pub returns : goal.returns
returns c front back told = told_moved c.note.new.self front back c.args.run.now (c.note.ensures (front ++ back) told)
