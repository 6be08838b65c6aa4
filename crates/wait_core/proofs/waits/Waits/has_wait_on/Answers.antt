use Rattle.wait_core.proofs.Common.{rules, refl, List, Any, ◌↔◌, subst, IsTrue, cases_from_any, Wait, Bytes, Meet, waits_of}
use borrow.Author.Tests.{tests}
use Rattle.std.proofs.lemmas.Iterator.Consumers.{YieldsList-from_rest}
use Rattle.wait_core.proofs.FileLemmas.{any_from_cases, meets_on}
use Rattle.wait_core.proofs.waits.Waits.has_wait_on.Goals as goal

pub returns : goal.returns
unfolding waits_of
returns c =
    let Meets = λ (v : Wait). Meet Bytes v.span c.args.span in
    let there = any_from_cases Meets c.on.result c.any.result
    (cases_from_any _ _ _ Meets (λ v. ¬ Meets v) c.any.ensures.ran (YieldsList-from_rest c.on.result refl)
    (λ x q k. search (rules, tests)) (λ x q k. search (rules, tests))) in
    let on_file = subst (λ (ws : List Wait). IsTrue c.any.result ↔ Any Meets ws) c.on.ensures there in
    let same = meets_on c.args.self.now.waits.items c.args.file c.args.span in
    (λ yes. same.0 (on_file.0 yes), λ any. on_file.1 (same.1 any))
