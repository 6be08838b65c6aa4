use Rattle.grants_alike.proofs.FollowingLaws.{engines_alike}
use Rattle.grants_alike.proofs.engines_grant_alike.Goals as goal

pub returns : goal.returns
returns c = engines_alike
