use Rattle.std.proofs.Common.{ℕ, ◌≡◌, None, Some, sym, ap, ◌∙◌, subst, arith}
use Rattle.std.specs.List.{find}
use Rattle.std.specs.Option.{IfNone}
use Rattle.range_core.specs.Changes.{mode_in}
use Rattle.range_core.specs.Ranges.{Covers, HeldConflicts, IsFirstHit}
use Rattle.summary_tree.specs.Cuts.{both}
use Rattle.owner_runs.specs.Tests.{conflicts, ends_from}
use Rattle.owner_runs.specs.Trees.{AreOrdered}
use Rattle.owner_runs.proofs.CutLemmas.{conflict_found, cut_at, first_hit_of, none_conflicts}
use Rattle.owner_runs.proofs.Views.{runs_of}
use Rattle.owner_runs.proofs.run_tree.RunTree.first_hit.Goals as goal

pub first_where_from-requires : goal.first_where_from-requires
first_where_from-requires c = cut_at c.args.span.first c.self.inside.runs.items c.self.invariant

pub returns-in_err-run-clause-none : goal.returns-in_err-run-clause-none
returns-in_err-run-clause-none c =
    let runs = c.args.self.now.items in
    let test = both (ends_from c.args.span.first) (conflicts c.args.against) in
    let none : find test runs ≡ None = ap (find test) (sym (ap runs_of c.self.view_is)) ∙ (sym c.first_where_from.ensures ∙ c.in_err-run.was) in
    subst (λ o. IfNone o ((byte : ℕ) → Covers c.args.span byte → ¬ HeldConflicts (mode_in runs byte) c.args.against)) (sym c.from_residual.ensures)
    (λ byte covers. none_conflicts c.args.span.first byte c.args.against runs none covers.0)

pub returns-then-span-run-clause-none : goal.returns-then-span-run-clause-none
returns-then-span-run-clause-none c byte covers =
    let runs = c.args.self.now.items in
    let is = ap runs_of c.self.view_is in
    let test = both (ends_from c.args.span.first) (conflicts c.args.against) in
    let found : find test runs ≡ Some c.in_ok-run.run' = ap (find test) (sym is) ∙ (sym c.first_where_from.ensures ∙ c.in_ok-run.was) in
    let first = conflict_found c.args.span.first c.args.against runs c.in_ok-run.run' (subst AreOrdered is c.self.invariant) found in
    let upto = covers.1 in
    let behind = c.if-span-run.true in
    first.least byte covers.0 (omega arith)

pub returns-clause-hit : goal.returns-clause-hit
returns-clause-hit c =
    let runs = c.args.self.now.items in
    let is = ap runs_of c.self.view_is in
    let test = both (ends_from c.args.span.first) (conflicts c.args.against) in
    let found : find test runs ≡ Some c.in_ok-run.run' = ap (find test) (sym is) ∙ (sym c.first_where_from.ensures ∙ c.in_ok-run.was) in
    let first = conflict_found c.args.span.first c.args.against runs c.in_ok-run.run' (subst AreOrdered is c.self.invariant) found in
    subst (λ byte. IsFirstHit (mode_in runs) c.args.span c.args.against byte) (sym c.max.ensures)
    (first_hit_of (mode_in runs) c.args.span c.args.against c.in_ok-run.run' first c.requires.0 c.if-span-run.false)
