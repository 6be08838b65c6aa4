use Rattle.lock_server.proofs.Common.{◌∷◌, family_word, flag_word, mode_word}
use Rattle.lock_server.proofs.ReaderLemmas.{fails}
use Rattle.lock_server.proofs.import.reader.Reader.wait.Goals as goal

pub returns-in_err-ticket-clause-again : goal.returns-in_err-ticket-clause-again
returns-in_err-ticket-clause-again c y rest may is =
    fails _ c.from_residual.result _ _ c.from_residual.ensures.1
    (c.in_err-ticket.ensures y.ticket (y.owner ∷ family_word y.family ∷ y.span.first ∷ y.span.last ∷ mode_word y.mode ∷ flag_word y.detect ∷ rest) tt is)

pub returns-in_err-owner-clause-again : goal.returns-in_err-owner-clause-again
returns-in_err-owner-clause-again c y rest may is =
    let ticket = c.in_ok-ticket.ensures y.ticket
    (y.owner ∷ family_word y.family ∷ y.span.first ∷ y.span.last ∷ mode_word y.mode ∷ flag_word y.detect ∷ rest) tt is in
    fails _ c.from_residual-in_err-owner.result _ _ c.from_residual-in_err-owner.ensures.1
    (c.in_err-owner.ensures y.owner (family_word y.family ∷ y.span.first ∷ y.span.last ∷ mode_word y.mode ∷ flag_word y.detect ∷ rest) tt ticket.1)

pub returns-in_err-family-clause-again : goal.returns-in_err-family-clause-again
returns-in_err-family-clause-again c y rest may is =
    let ticket = c.in_ok-ticket.ensures y.ticket
    (y.owner ∷ family_word y.family ∷ y.span.first ∷ y.span.last ∷ mode_word y.mode ∷ flag_word y.detect ∷ rest) tt is in
    let owner = c.in_ok-owner.ensures y.owner (family_word y.family ∷ y.span.first ∷ y.span.last ∷ mode_word y.mode ∷ flag_word y.detect ∷ rest) tt
    ticket.1 in
    fails _ c.from_residual-in_err-family.result _ _ c.from_residual-in_err-family.ensures.1
    (c.in_err-family.ensures y.family (y.span.first ∷ y.span.last ∷ mode_word y.mode ∷ flag_word y.detect ∷ rest) tt owner.1)

pub returns-in_err-span-clause-again : goal.returns-in_err-span-clause-again
returns-in_err-span-clause-again c y rest may is =
    let ticket = c.in_ok-ticket.ensures y.ticket
    (y.owner ∷ family_word y.family ∷ y.span.first ∷ y.span.last ∷ mode_word y.mode ∷ flag_word y.detect ∷ rest) tt is in
    let owner = c.in_ok-owner.ensures y.owner (family_word y.family ∷ y.span.first ∷ y.span.last ∷ mode_word y.mode ∷ flag_word y.detect ∷ rest) tt
    ticket.1 in
    let family = c.in_ok-family.ensures y.family (y.span.first ∷ y.span.last ∷ mode_word y.mode ∷ flag_word y.detect ∷ rest) tt owner.1 in
    fails _ c.from_residual-in_err-span.result _ _ c.from_residual-in_err-span.ensures.1
    (c.in_err-span.ensures.again y.span (mode_word y.mode ∷ flag_word y.detect ∷ rest) may family.1)

pub returns-in_err-mode-clause-again : goal.returns-in_err-mode-clause-again
returns-in_err-mode-clause-again c y rest may is =
    let ticket = c.in_ok-ticket.ensures y.ticket
    (y.owner ∷ family_word y.family ∷ y.span.first ∷ y.span.last ∷ mode_word y.mode ∷ flag_word y.detect ∷ rest) tt is in
    let owner = c.in_ok-owner.ensures y.owner (family_word y.family ∷ y.span.first ∷ y.span.last ∷ mode_word y.mode ∷ flag_word y.detect ∷ rest) tt
    ticket.1 in
    let family = c.in_ok-family.ensures y.family (y.span.first ∷ y.span.last ∷ mode_word y.mode ∷ flag_word y.detect ∷ rest) tt owner.1 in
    let span = c.in_ok-span.ensures.again y.span (mode_word y.mode ∷ flag_word y.detect ∷ rest) may family.1 in
    fails _ c.from_residual-in_err-mode.result _ _ c.from_residual-in_err-mode.ensures.1 (c.in_err-mode.ensures y.mode (flag_word y.detect ∷ rest) tt span.1)

pub returns-in_err-detect-clause-again : goal.returns-in_err-detect-clause-again
returns-in_err-detect-clause-again c y rest may is =
    let ticket = c.in_ok-ticket.ensures y.ticket
    (y.owner ∷ family_word y.family ∷ y.span.first ∷ y.span.last ∷ mode_word y.mode ∷ flag_word y.detect ∷ rest) tt is in
    let owner = c.in_ok-owner.ensures y.owner (family_word y.family ∷ y.span.first ∷ y.span.last ∷ mode_word y.mode ∷ flag_word y.detect ∷ rest) tt
    ticket.1 in
    let family = c.in_ok-family.ensures y.family (y.span.first ∷ y.span.last ∷ mode_word y.mode ∷ flag_word y.detect ∷ rest) tt owner.1 in
    let span = c.in_ok-span.ensures.again y.span (mode_word y.mode ∷ flag_word y.detect ∷ rest) may family.1 in
    let mode = c.in_ok-mode.ensures y.mode (flag_word y.detect ∷ rest) tt span.1 in
    fails _ c.from_residual-in_err-detect.result _ _ c.from_residual-in_err-detect.ensures.1 (c.in_err-detect.ensures y.detect rest tt mode.1)

pub returns-clause-again : goal.returns-clause-again
returns-clause-again c y rest may is =
    let ticket = c.in_ok-ticket.ensures y.ticket
    (y.owner ∷ family_word y.family ∷ y.span.first ∷ y.span.last ∷ mode_word y.mode ∷ flag_word y.detect ∷ rest) tt is in
    let owner = c.in_ok-owner.ensures y.owner (family_word y.family ∷ y.span.first ∷ y.span.last ∷ mode_word y.mode ∷ flag_word y.detect ∷ rest) tt
    ticket.1 in
    let family = c.in_ok-family.ensures y.family (y.span.first ∷ y.span.last ∷ mode_word y.mode ∷ flag_word y.detect ∷ rest) tt owner.1 in
    let span = c.in_ok-span.ensures.again y.span (mode_word y.mode ∷ flag_word y.detect ∷ rest) may family.1 in
    let mode = c.in_ok-mode.ensures y.mode (flag_word y.detect ∷ rest) tt span.1 in
    let detect = c.in_ok-detect.ensures y.detect rest tt mode.1 in
    (λ i. record { ticket = ticket.0 i; owner = owner.0 i; family = family.0 i; span = span.0 i; mode = mode.0 i; detect = detect.0 i }, detect.1)
