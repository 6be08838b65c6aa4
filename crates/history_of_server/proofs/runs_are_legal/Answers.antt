use Rattle.history_of_server.proofs.ServerLaws.{runs_are_legal as proved}
use Rattle.history_of_server.proofs.runs_are_legal.Goals as goal

pub returns : goal.returns
returns c = proved
