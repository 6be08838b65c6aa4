use Rattle.lock_server.proofs.Common.{[]}
use Rattle.lock_server.proofs.FreedLemmas.{any_but}
use Rattle.lock_server.proofs.freed.Known.nothing.Goals as goal

pub returns : goal.returns
returns c = λ policy F. record { earliest = tt; others = any_but policy F [] F.waits }
