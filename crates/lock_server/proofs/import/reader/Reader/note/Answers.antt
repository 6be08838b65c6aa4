use Rattle.lock_server.proofs.Common.{◌∷◌}
use Rattle.lock_server.proofs.ReaderLemmas.{fails}
use Rattle.lock_server.proofs.import.reader.Reader.note.Goals as goal

pub returns-in_err-file : goal.returns-in_err-file
returns-in_err-file c y rest may is =
    fails _ c.from_residual.result _ _ c.from_residual.ensures.1 (c.in_err-file.ensures y.file (y.owner ∷ y.open_file ∷ rest) tt is)

pub returns-in_err-owner : goal.returns-in_err-owner
returns-in_err-owner c y rest may is =
    let file = c.in_ok-file.ensures y.file (y.owner ∷ y.open_file ∷ rest) tt is in
    fails _ c.from_residual-in_err-owner.result _ _ c.from_residual-in_err-owner.ensures.1 (c.in_err-owner.ensures y.owner (y.open_file ∷ rest) tt file.1)

pub returns-in_err-open_file : goal.returns-in_err-open_file
returns-in_err-open_file c y rest may is =
    let file = c.in_ok-file.ensures y.file (y.owner ∷ y.open_file ∷ rest) tt is in
    let owner = c.in_ok-owner.ensures y.owner (y.open_file ∷ rest) tt file.1 in
    fails _ c.from_residual-in_err-open_file.result _ _ c.from_residual-in_err-open_file.ensures.1 (c.in_err-open_file.ensures y.open_file rest tt owner.1)

pub returns : goal.returns
returns c y rest may is =
    let file = c.in_ok-file.ensures y.file (y.owner ∷ y.open_file ∷ rest) tt is in
    let owner = c.in_ok-owner.ensures y.owner (y.open_file ∷ rest) tt file.1 in
    let open_file = c.in_ok-open_file.ensures y.open_file rest tt owner.1 in
    (λ i. record { file = file.0 i; owner = owner.0 i; open_file = open_file.0 i }, open_file.1)
