use Rattle.std.proofs.Common.{ℕ, ◌≡◌, ◌≤◌, None, Some, [], sym, ap, ◌∙◌, subst, arith}
use Rattle.std.specs.List.{filter, find}
use Rattle.std.specs.Option.{IfNone}
use Rattle.range_core.specs.Changes.{mode_in}
use Rattle.owner_runs.specs.Tests.{ends_from, meets}
use Rattle.owner_runs.specs.Trees.{AreOrdered}
use Rattle.owner_runs.proofs.CutLemmas.{cut_at}
use Rattle.owner_runs.proofs.FindLemmas.{late_found, next_found, no_more, none_found, others_left}
use Rattle.owner_runs.proofs.Views.{runs_of}
use Rattle.owner_runs.proofs.run_tree.RunTree.meeting.Goals as goal

pub first_from-requires : goal.first_from-requires
first_from-requires c = cut_at c.args.first c.self.inside.runs.items c.self.invariant

pub returns-in_err-run-clause-none : goal.returns-in_err-run-clause-none
returns-in_err-run-clause-none c =
    let runs = c.args.self.now.items in
    let none : find (ends_from c.args.first) runs ≡ None = ap (find (ends_from c.args.first)) (sym (ap runs_of c.self.view_is)) ∙ (sym c.first_from.ensures ∙ c.in_err-run.was) in
    subst (λ o. IfNone o ((byte : ℕ) → c.args.first ≤ byte → byte ≤ c.args.last → mode_in runs byte ≡ None)) (sym c.from_residual.ensures)
    (λ byte from upto. none_found c.args.first byte runs none from)

pub returns-in_err-run-clause-nothing : goal.returns-in_err-run-clause-nothing
returns-in_err-run-clause-nothing c =
    let runs = c.args.self.now.items in
    let none : find (ends_from c.args.first) runs ≡ None = ap (find (ends_from c.args.first)) (sym (ap runs_of c.self.view_is)) ∙ (sym c.first_from.ensures ∙ c.in_err-run.was) in
    subst (λ o. IfNone o (filter (meets c.args.first c.args.last) runs ≡ [])) (sym c.from_residual.ensures)
    (no_more c.args.first c.args.last runs none)

pub returns-then-run-last-clause-run : goal.returns-then-run-last-clause-run
returns-then-run-last-clause-run c =
    let runs = c.args.self.now.items in
    let is = ap runs_of c.self.view_is in
    let found : find (ends_from c.args.first) runs ≡ Some c.in_ok-run.run' = ap (find (ends_from c.args.first)) (sym is) ∙ (sym c.first_from.ensures ∙ c.in_ok-run.was) in
    next_found c.args.first runs c.in_ok-run.run' (subst AreOrdered is c.self.invariant) found

pub returns-then-run-last-clause-others : goal.returns-then-run-last-clause-others
returns-then-run-last-clause-others c =
    let runs = c.args.self.now.items in
    let is = ap runs_of c.self.view_is in
    let ordered = subst AreOrdered is c.self.invariant in
    let found : find (ends_from c.args.first) runs ≡ Some c.in_ok-run.run' = ap (find (ends_from c.args.first)) (sym is) ∙ (sym c.first_from.ensures ∙ c.in_ok-run.was) in
    let next = next_found c.args.first runs c.in_ok-run.run' ordered found in
    others_left c.args.first c.args.last runs c.in_ok-run.run' ordered found c.if-run-last.true next.reaches

pub returns-else-run-last-clause-none : goal.returns-else-run-last-clause-none
returns-else-run-last-clause-none c byte from upto =
    let runs = c.args.self.now.items in
    let is = ap runs_of c.self.view_is in
    let found : find (ends_from c.args.first) runs ≡ Some c.in_ok-run.run' = ap (find (ends_from c.args.first)) (sym is) ∙ (sym c.first_from.ensures ∙ c.in_ok-run.was) in
    let next = next_found c.args.first runs c.in_ok-run.run' (subst AreOrdered is c.self.invariant) found in
    let late = c.if-run-last.false in
    next.free byte from (omega arith)

pub returns-else-run-last-clause-nothing : goal.returns-else-run-last-clause-nothing
returns-else-run-last-clause-nothing c =
    let runs = c.args.self.now.items in
    let is = ap runs_of c.self.view_is in
    let found : find (ends_from c.args.first) runs ≡ Some c.in_ok-run.run' = ap (find (ends_from c.args.first)) (sym is) ∙ (sym c.first_from.ensures ∙ c.in_ok-run.was) in
    late_found c.args.first c.args.last runs c.in_ok-run.run' (subst AreOrdered is c.self.invariant) found c.if-run-last.false
