use Rattle.std.proofs.Common.{◌++◌, length, append-nil, ap, ◌∙◌, sym, arith}
use Rattle.std.proofs.lemmas.List.{length-append}
use Rattle.std.proofs.lemmas.List.Elements.{filter-append}
use Rattle.std.specs.List.{filter}
use Rattle.arrival_list.proofs.Kept.{none_kept, not_so}
use Rattle.arrival_list.proofs.counting.CountingWalkArrivedCountedU64.see_all.Goals as goal

pub returns-clause-all : goal.returns-clause-all
returns-clause-all g c seen items counts tells passed fits =
    let p = g.Q.Query.hits c.args.self.now.0 in
    let long = length-append seen items in
    let none = none_kept p items (c.may_hit.ensures items tells (not_so c.may_hit.result passed)) in
    counts (omega (arith, fits, long))
    ∙ ap length (sym (filter-append p seen items ∙ (ap (λ l. filter p seen ++ l) none ∙ append-nil (filter p seen))))
