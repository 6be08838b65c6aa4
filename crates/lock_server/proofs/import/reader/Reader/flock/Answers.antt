use Rattle.lock_server.proofs.Common.{◌∷◌, mode_word}
use Rattle.lock_server.proofs.ReaderLemmas.{fails}
use Rattle.lock_server.proofs.import.reader.Reader.flock.Goals as goal

pub returns-in_err-owner : goal.returns-in_err-owner
returns-in_err-owner c y rest may is =
    fails _ c.from_residual.result _ _ c.from_residual.ensures.1 (c.in_err-owner.ensures y.owner (mode_word y.mode ∷ rest) tt is)

pub returns-in_err-mode : goal.returns-in_err-mode
returns-in_err-mode c y rest may is =
    let owner = c.in_ok-owner.ensures y.owner (mode_word y.mode ∷ rest) tt is in
    fails _ c.from_residual-in_err-mode.result _ _ c.from_residual-in_err-mode.ensures.1 (c.in_err-mode.ensures y.mode rest tt owner.1)

pub returns : goal.returns
returns c y rest may is =
    let owner = c.in_ok-owner.ensures y.owner (mode_word y.mode ∷ rest) tt is in
    let mode = c.in_ok-mode.ensures y.mode rest tt owner.1 in
    (λ i. record { owner = owner.0 i; mode = mode.0 i }, mode.1)
