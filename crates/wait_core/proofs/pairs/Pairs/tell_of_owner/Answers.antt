use Rattle.wait_core.proofs.Common.{ℕ, ◌≡◌, ◌∙◌, ap, sym, subst, All, Process, locks_of, IsOn, TellsPair}
use Rattle.wait_core.proofs.PairLemmas.{one_process}
use Rattle.wait_core.proofs.pairs.Pairs.tell_of_owner.Goals as goal

pub returns-then-contains-clause-told : goal.returns-then-contains-clause-told
returns-then-contains-clause-told c q itself one few =
    let same : q ≡ c.in-Process.q = one_process q c.in-Process.q (itself ∙ c.in-Process.is) in
    subst (λ (n : ℕ). All (λ wait. IsOn c.args.file c.args.span wait → TellsPair c.tell_of_process.new.self (locks_of c.args.books.now) n wait) c.args.waits)
    (sym same) c.tell_of_process.ensures.told

pub returns-then-contains-clause-others : goal.returns-then-contains-clause-others
returns-then-contains-clause-others c p r few elsewhere =
    c.tell_of_process.ensures.others p r few (λ same. elsewhere (ap (λ (n : ℕ). Process n) same ∙ sym c.in-Process.is))
