use Rattle.cluster_protocol.proofs.VoteLaws.{majorities}
use Rattle.cluster_protocol.proofs.laws.majorities_meet.Goals as goal

pub returns : goal.returns
returns c = majorities
