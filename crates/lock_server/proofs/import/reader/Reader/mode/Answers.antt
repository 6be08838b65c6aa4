use Rattle.lock_server.proofs.ReaderLemmas.{fails}
use Rattle.lock_server.proofs.Common.{mode_word}
use Rattle.lock_server.proofs.import.reader.Reader.mode.Goals as goal

pub returns-in_err-word : goal.returns-in_err-word
returns-in_err-word c y rest may is =
    fails _ c.from_residual.result _ _ c.from_residual.ensures.1 (c.in_err-word.ensures (mode_word y) rest tt is)
