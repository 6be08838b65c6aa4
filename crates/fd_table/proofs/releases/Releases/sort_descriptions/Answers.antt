use Rattle.fd_table.proofs.Common.{◌≡◌, ap, sym, subst, ◌∙◌, eqb, rules}
use Rattle.std.specs.List.{Contains}
use Rattle.std.proofs.lemmas.List.Sorted.{IsNonDecreasingBy-from_sort, IsPermutation-sym, Contains-permutation}
use Rattle.std.proofs.lemmas.Map.Keys.{IsStrictlyIncreasing-from_distinct, IsDistinct-IsPermutation}
use Rattle.arrayvec.proofs.ArrayVecLemmas.{items-with_items}
use Rattle.fd_table.proofs.ListLemmas.{eqb-flips}
use Rattle.fd_table.proofs.releases.Releases.sort_descriptions.Goals as goal

pub returns-clause-rising : goal.returns-clause-rising
returns-clause-rising c = λ differ.
    let was = c.deref_mut.result.now in
    let sorted = c.sort_unstable.new.self in
    let moved = c.sort_unstable.ensures.permutation in
    let view : was ≡ c.args.self.now.descriptions = c.deref_mut.ensures.value ∙ ap (λ r. r.descriptions) c.self.view_is in
    rw (items-with_items c.self.inside.descriptions sorted (search rules))
    (IsStrictlyIncreasing-from_distinct sorted (IsNonDecreasingBy-from_sort (λ x. x) sorted c.sort_unstable.ensures.sorted)
    (IsDistinct-IsPermutation eqb eqb-flips was sorted moved (rw view differ)))

pub returns-clause-same : goal.returns-clause-same
returns-clause-same c = λ x.
    let was = c.deref_mut.result.now in
    let sorted = c.sort_unstable.new.self in
    let moved = c.sort_unstable.ensures.permutation in
    let view : was ≡ c.args.self.now.descriptions = c.deref_mut.ensures.value ∙ ap (λ r. r.descriptions) c.self.view_is in
    rw (items-with_items c.self.inside.descriptions sorted (search rules)) (
      λ there. subst (λ xs. Contains xs x) view (Contains-permutation sorted was x (IsPermutation-sym was sorted moved) there),
      λ there. Contains-permutation was sorted x moved (subst (λ xs. Contains xs x) (sym view) there),
    )
