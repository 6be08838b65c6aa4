use Rattle.wait_core.proofs.Common.{rules, refl, cases_from_any, WaitsConflict}
use borrow.Author.Tests.{tests}
use Rattle.std.proofs.lemmas.Iterator.Consumers.{YieldsList-from_rest}
use Rattle.wait_core.proofs.FileLemmas.{any_from_cases}
use Rattle.wait_core.proofs.Wait.conflicts_with_any.Goals as goal

pub returns : goal.returns
returns c =
    let wait = c.args.self.now in
    any_from_cases (λ v. WaitsConflict v wait) c.args.earlier c.any.result
    (cases_from_any _ _ _ (λ v. WaitsConflict v wait) (λ v. ¬ WaitsConflict v wait) c.any.ensures.ran (YieldsList-from_rest c.args.earlier refl)
    (λ x q k. search (rules, tests)) (λ x q k. search (rules, tests)))
