use Rattle.lock_server.proofs.Common.{rules_of, state_of}
use Rattle.lock_server.proofs.laws.servers_are_safe.Goals as goal

pub returns : goal.returns
unfolding rules_of state_of
returns c server = server.safe
