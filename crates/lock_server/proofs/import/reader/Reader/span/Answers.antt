use Rattle.lock_server.proofs.Common.{◌∷◌}
use Rattle.lock_server.proofs.ReaderLemmas.{fails}
use Rattle.lock_server.proofs.import.reader.Reader.span.Goals as goal

pub returns-in_err-first-clause-again : goal.returns-in_err-first-clause-again
returns-in_err-first-clause-again c y rest may is =
    fails _ c.from_residual.result _ _ c.from_residual.ensures.1 (c.in_err-first.ensures y.first (y.last ∷ rest) tt is)

pub returns-in_err-last-clause-again : goal.returns-in_err-last-clause-again
returns-in_err-last-clause-again c y rest may is =
    let first = c.in_ok-first.ensures y.first (y.last ∷ rest) tt is in
    fails _ c.from_residual-in_err-last.result _ _ c.from_residual-in_err-last.ensures.1 (c.in_err-last.ensures y.last rest tt first.1)
