use Rattle.std.proofs.Common.{ℕ, ◌≡◌, None, Some, sym, ap, ◌∙◌, subst}
use Rattle.std.specs.List.{find, last_or}
use Rattle.std.specs.Option.{IfNone}
use Rattle.range_core.specs.Changes.{mode_in}
use Rattle.owner_runs.specs.Tests.{ends_from}
use Rattle.owner_runs.specs.Trees.{AreOrdered}
use Rattle.owner_runs.proofs.CutLemmas.{cut_at}
use Rattle.owner_runs.proofs.ExtentLemmas.{extent_between, none_first, none_last}
use Rattle.owner_runs.proofs.Views.{runs_of}
use Rattle.owner_runs.proofs.run_tree.RunTree.extent.Goals as goal

pub first_from-requires : goal.first_from-requires
first_from-requires c = cut_at 0 c.self.inside.runs.items c.self.invariant

pub returns-in_err-first-clause-none : goal.returns-in_err-first-clause-none
returns-in_err-first-clause-none c =
    let runs = c.args.self.now.items in
    let none : find (ends_from 0) runs ≡ None = ap (find (ends_from 0)) (sym (ap runs_of c.self.view_is)) ∙ (sym c.first_from.ensures ∙ c.in_err-first.was) in
    subst (λ o. IfNone o ((byte : ℕ) → mode_in runs byte ≡ None)) (sym c.from_residual.ensures) (none_first runs none)

pub returns-in_err-last-clause-none : goal.returns-in_err-last-clause-none
returns-in_err-last-clause-none c =
    let runs = c.args.self.now.items in
    let none : last_or None runs ≡ None = ap (last_or None) (sym (ap runs_of c.self.view_is)) ∙ (sym c.last.ensures ∙ c.in_err-last.was) in
    subst (λ o. IfNone o ((byte : ℕ) → mode_in runs byte ≡ None)) (sym c.from_residual-in_err-last.ensures) (none_last runs none)

pub returns-clause-some : goal.returns-clause-some
returns-clause-some c =
    let runs = c.args.self.now.items in
    let is = ap runs_of c.self.view_is in
    let first : find (ends_from 0) runs ≡ Some c.in_ok-first.first = ap (find (ends_from 0)) (sym is) ∙ (sym c.first_from.ensures ∙ c.in_ok-first.was) in
    let last : last_or None runs ≡ Some c.in_ok-last.last = ap (last_or None) (sym is) ∙ (sym c.last.ensures ∙ c.in_ok-last.was) in
    let extent = extent_between runs c.in_ok-first.first c.in_ok-last.last (subst AreOrdered is c.self.invariant) first last in
    extent.outside

pub returns-clause-ends : goal.returns-clause-ends
returns-clause-ends c =
    let runs = c.args.self.now.items in
    let is = ap runs_of c.self.view_is in
    let first : find (ends_from 0) runs ≡ Some c.in_ok-first.first = ap (find (ends_from 0)) (sym is) ∙ (sym c.first_from.ensures ∙ c.in_ok-first.was) in
    let last : last_or None runs ≡ Some c.in_ok-last.last = ap (last_or None) (sym is) ∙ (sym c.last.ensures ∙ c.in_ok-last.was) in
    let extent = extent_between runs c.in_ok-first.first c.in_ok-last.last (subst AreOrdered is c.self.invariant) first last in
    (extent.first, extent.last)

pub returns-clause-range : goal.returns-clause-range
returns-clause-range c =
    let runs = c.args.self.now.items in
    let is = ap runs_of c.self.view_is in
    let first : find (ends_from 0) runs ≡ Some c.in_ok-first.first = ap (find (ends_from 0)) (sym is) ∙ (sym c.first_from.ensures ∙ c.in_ok-first.was) in
    let last : last_or None runs ≡ Some c.in_ok-last.last = ap (last_or None) (sym is) ∙ (sym c.last.ensures ∙ c.in_ok-last.was) in
    let extent = extent_between runs c.in_ok-first.first c.in_ok-last.last (subst AreOrdered is c.self.invariant) first last in
    extent.range
