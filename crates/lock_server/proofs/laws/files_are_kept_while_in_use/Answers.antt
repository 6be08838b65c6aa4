use Rattle.lock_server.proofs.Common.{state_of}
use Rattle.lock_server.specs.ServerView.{KeepsFile}
use Rattle.lock_server.proofs.SweptLemmas.{kept_while_in_use}
use Rattle.lock_server.proofs.laws.files_are_kept_while_in_use.Goals as goal

pub returns : goal.returns
unfolding KeepsFile state_of
returns c = λ server file. kept_while_in_use server.table file server.swept
