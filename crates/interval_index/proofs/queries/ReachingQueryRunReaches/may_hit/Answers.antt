use Rattle.interval_index.proofs.Common.{◌∙◌}
use Rattle.interval_index.proofs.queries.ReachingQueryRunReaches.may_hit.Goals as goal

pub returns : goal.returns
returns c runs told = c.reaches.ensures ∙ (c.conflicting.ensures runs told).exact c.args.self.now.holder c.args.self.now.byte
