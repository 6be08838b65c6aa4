use Rattle.lock_server.proofs.Common.{arith, ℕ, sym, subst, keeps, pair_cmp, IsFromStart, Bound}
use Rattle.lock_server.proofs.PairLemmas.{owner_behind, owner_upto, pair_behind, untrue}
use Rattle.lock_server.proofs.holdings.Holdings.next_file.Goals as goal

pub returns-else-found-owner-clause-none : goal.returns-else-found-owner-clause-none
unfolding keeps
returns-else-found-owner-clause-none c file above = untrue _ (λ kept.
    let at_bound : Bound (ℕ × ℕ) → Type 0 = λ from. IsFromStart pair_cmp from (c.args.owner, file) in
    let behind_it = subst at_bound (sym c.behind.ensures) (pair_behind c.args.owner c.args.above file above) in
    let upto = owner_upto c.in_ok-found.found c.in_ok-found.file c.args.owner file (c.in_ok-found.ensures.least (c.args.owner, file) behind_it kept) in
    let of_found : Bound (ℕ × ℕ) → Type 0 = λ from. IsFromStart pair_cmp from (c.in_ok-found.found, c.in_ok-found.file) in
    let from = owner_behind c.args.owner c.args.above c.in_ok-found.found c.in_ok-found.file (subst of_found c.behind.ensures c.in_ok-found.ensures.from) in
    c.if-found-owner.false (omega arith))
