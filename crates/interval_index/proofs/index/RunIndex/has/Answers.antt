use Rattle.interval_index.proofs.Common.{◌≡◌, None, Some, sym, ap, ◌∙◌, subst, find, AreOrdered, is_from}
use Rattle.interval_index.proofs.Order.{cut_at, held_found, none_found, nothing_there, other_there, runs_of}
use Rattle.interval_index.proofs.index.RunIndex.has.Goals as goal

pub first_from-requires : goal.first_from-requires
first_from-requires c = cut_at c.args.first c.args.holder c.self.inside.runs.items c.self.invariant

pub returns-in_default-clause-no : goal.returns-in_default-clause-no
returns-in_default-clause-no c isnt =
    let runs = c.args.self.now.runs in
    let none : find (is_from c.args.first c.args.holder) runs ≡ None = ap (find (is_from c.args.first c.args.holder)) (sym (ap runs_of c.self.view_is)) ∙ (sym c.first_from.ensures ∙ c.in_default.is) in
    none_found c.args.first c.args.holder runs (nothing_there c.args.first c.args.holder runs none)

pub returns-clause-yes : goal.returns-clause-yes
returns-clause-yes c is_so =
    let found : find (is_from c.args.first c.args.holder) c.args.self.now.runs ≡ Some c.in-Some.run' =
    ap (find (is_from c.args.first c.args.holder)) (sym (ap runs_of c.self.view_is)) ∙ (sym c.first_from.ensures ∙ c.in-Some.is) in
    held_found c.args.first c.args.holder c.args.self.now.runs (subst AreOrdered (ap runs_of c.self.view_is) c.self.invariant) (c.in-Some.run', found, sym c.has_key.ensures ∙ is_so)

pub returns-clause-no : goal.returns-clause-no
returns-clause-no c isnt =
    let is = ap runs_of c.self.view_is in
    let runs = c.args.self.now.runs in
    let found : find (is_from c.args.first c.args.holder) runs ≡ Some c.in-Some.run' = ap (find (is_from c.args.first c.args.holder)) (sym is) ∙ (sym c.first_from.ensures ∙ c.in-Some.is) in
    none_found c.args.first c.args.holder runs
    (other_there c.args.first c.args.holder runs c.in-Some.run' (subst AreOrdered is c.self.invariant) found (sym c.has_key.ensures ∙ isnt))
