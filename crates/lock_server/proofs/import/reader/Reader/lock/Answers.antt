use Rattle.lock_server.proofs.Common.{◌∷◌, mode_word}
use Rattle.lock_server.proofs.ReaderLemmas.{fails}
use Rattle.lock_server.proofs.import.reader.Reader.lock.Goals as goal

pub returns-in_err-owner-clause-again : goal.returns-in_err-owner-clause-again
returns-in_err-owner-clause-again c y rest may is =
    fails _ c.from_residual.result _ _ c.from_residual.ensures.1 (c.in_err-owner.ensures y.owner (y.span.first ∷ y.span.last ∷ mode_word y.mode ∷ rest) tt is)

pub returns-in_err-span-clause-again : goal.returns-in_err-span-clause-again
returns-in_err-span-clause-again c y rest may is =
    let owner = c.in_ok-owner.ensures y.owner (y.span.first ∷ y.span.last ∷ mode_word y.mode ∷ rest) tt is in
    fails _ c.from_residual-in_err-span.result _ _ c.from_residual-in_err-span.ensures.1
    (c.in_err-span.ensures.again y.span (mode_word y.mode ∷ rest) may owner.1)

pub returns-in_err-mode-clause-again : goal.returns-in_err-mode-clause-again
returns-in_err-mode-clause-again c y rest may is =
    let owner = c.in_ok-owner.ensures y.owner (y.span.first ∷ y.span.last ∷ mode_word y.mode ∷ rest) tt is in
    let span = c.in_ok-span.ensures.again y.span (mode_word y.mode ∷ rest) may owner.1 in
    fails _ c.from_residual-in_err-mode.result _ _ c.from_residual-in_err-mode.ensures.1 (c.in_err-mode.ensures y.mode rest tt span.1)

pub returns-clause-again : goal.returns-clause-again
returns-clause-again c y rest may is =
    let owner = c.in_ok-owner.ensures y.owner (y.span.first ∷ y.span.last ∷ mode_word y.mode ∷ rest) tt is in
    let span = c.in_ok-span.ensures.again y.span (mode_word y.mode ∷ rest) may owner.1 in
    let mode = c.in_ok-mode.ensures y.mode rest tt span.1 in
    (λ i. record { owner = owner.0 i; mode = mode.0 i; span = span.0 i }, mode.1)
