use Rattle.lock_server.proofs.Common.{◌∷◌, conversion_word, policy_word}
use Rattle.lock_server.proofs.ReaderLemmas.{fails}
use Rattle.lock_server.proofs.import.reader.Reader.rules.Goals as goal

pub returns-in_err-word : goal.returns-in_err-word
returns-in_err-word c y rest may is =
    fails _ c.from_residual.result _ _ c.from_residual.ensures.1 (c.in_err-word.ensures 1 (policy_word y.policy ∷ conversion_word y.conversion ∷ rest) tt is)

pub returns-in_err-policy : goal.returns-in_err-policy
returns-in_err-policy c y rest may is =
    let word = c.in_ok-word.ensures 1 (policy_word y.policy ∷ conversion_word y.conversion ∷ rest) tt is in
    fails _ c.from_residual-in_err-policy.result _ _ c.from_residual-in_err-policy.ensures.1
    (c.in_err-policy.ensures y.policy (conversion_word y.conversion ∷ rest) tt word.1)

pub returns-in_err-conversion : goal.returns-in_err-conversion
returns-in_err-conversion c y rest may is =
    let word = c.in_ok-word.ensures 1 (policy_word y.policy ∷ conversion_word y.conversion ∷ rest) tt is in
    let policy = c.in_ok-policy.ensures y.policy (conversion_word y.conversion ∷ rest) tt word.1 in
    fails _ c.from_residual-in_err-conversion.result _ _ c.from_residual-in_err-conversion.ensures.1
    (c.in_err-conversion.ensures y.conversion rest tt policy.1)

pub returns : goal.returns
returns c y rest may is =
    let word = c.in_ok-word.ensures 1 (policy_word y.policy ∷ conversion_word y.conversion ∷ rest) tt is in
    let policy = c.in_ok-policy.ensures y.policy (conversion_word y.conversion ∷ rest) tt word.1 in
    let conversion = c.in_ok-conversion.ensures y.conversion rest tt policy.1 in
    (λ i. record { policy = policy.0 i; conversion = conversion.0 i }, conversion.1)
