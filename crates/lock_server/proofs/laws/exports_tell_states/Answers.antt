use Rattle.lock_server.proofs.ExportLaws.{servers_told}
use Rattle.lock_server.proofs.laws.exports_tell_states.Goals as goal

pub returns : goal.returns
returns c = servers_told
