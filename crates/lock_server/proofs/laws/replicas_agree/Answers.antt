use Rattle.lock_server.proofs.AgreementLaws.{runs_one}
use Rattle.lock_server.proofs.laws.replicas_agree.Goals as goal

pub returns : goal.returns
returns c = runs_one
