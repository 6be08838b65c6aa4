use Rattle.lock_server.proofs.Common.{arith, ℕ, ◌≡◌, ◌≤◌, Option, false, sym, subst, IfNone, IsFromStart, Bound, keeps, pair_cmp, number_behind}
use Rattle.lock_server.proofs.PairLemmas.{from_behind_owner, owner_upto, untrue}
use Rattle.lock_server.proofs.holdings.Holdings.next_owner.Goals as goal

pub returns-clause-least : goal.returns-clause-least
unfolding keeps
returns-clause-least c other file above before = untrue _ (λ kept.
    let starts : Bound (ℕ × ℕ) → Type 0 = λ from. IsFromStart pair_cmp from (other, file) in
    let from = subst starts (sym c.behind_owner.ensures) (from_behind_owner c.args.above other file above) in
    let upto = owner_upto c.in_ok-owner.owner _ other file (c.in_ok-owner.ensures.least (other, file) from kept) in
    omega arith)

pub returns-in_err-owner-clause-none : goal.returns-in_err-owner-clause-none
unfolding keeps
returns-in_err-owner-clause-none c =
    let none : (owner file : ℕ) → number_behind c.args.above ≤ owner → keeps c.args.self.now owner file ≡ false = λ owner file above.
    (let starts : Bound (ℕ × ℕ) → Type 0 = λ from. IsFromStart pair_cmp from (owner, file) in
    c.in_err-owner.ensures.none (owner, file) (subst starts (sym c.behind_owner.ensures) (from_behind_owner c.args.above owner file above))) in
    subst (λ (found : Option ℕ). IfNone found ((owner file : ℕ) → number_behind c.args.above ≤ owner → keeps c.args.self.now owner file ≡ false)) (sym c.from_residual.ensures) none
