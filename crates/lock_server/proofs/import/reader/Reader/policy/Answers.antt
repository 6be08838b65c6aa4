use Rattle.lock_server.proofs.ReaderLemmas.{fails}
use Rattle.lock_server.proofs.Common.{policy_word}
use Rattle.lock_server.proofs.import.reader.Reader.policy.Goals as goal

pub returns-in_err-word : goal.returns-in_err-word
returns-in_err-word c y rest may is =
    fails _ c.from_residual.result _ _ c.from_residual.ensures.1 (c.in_err-word.ensures (policy_word y) rest tt is)
