use Rattle.interval_index.proofs.Common.{◌≡◌, true, false, Some, None, Option, List, [], refl, sym, ap, ◌∙◌, subst, arith, find, is_some, Holder, Run, Reaching, holder_of, RunContents, IsLeastOf, AreOrdered, begins_after, blocks}
use Rattle.std.specs.Option.{IfNone}
use Rattle.interval_index.specs.Standing.{HolderConflict}
use Rattle.summary_tree.specs.Cuts.{before}
use Rattle.interval_index.proofs.Blocking.{found_from_any}
use Rattle.interval_index.proofs.InTheWay.{first_begins, least_is_first, met_begins, met_reaches, never_none, told_first}
use Rattle.interval_index.proofs.Order.{cut_beyond}
use Rattle.interval_index.proofs.Standings.{run_from_conflict}
use Rattle.interval_index.proofs.index.RunIndex.first_in_the_way.Goals as goal

abbrev runs_of : RunContents → List Run
runs_of contents = contents.runs

pub returns-in_err-run-clause-none : goal.returns-in_err-run-clause-none
returns-in_err-run-clause-none c modes of =
    let runs = c.args.self.now.runs in
    let none : find (blocks c.args.holder c.args.span c.args.wanted) runs ≡ None = sym c.first.ensures ∙ c.in_err-run.was in
    subst (λ o. IfNone o (HolderConflict modes c.args.holder c.args.span c.args.wanted → ⊥)) (sym c.from_residual.ensures) (λ k.
    let found : is_some (find (blocks c.args.holder c.args.span c.args.wanted) runs) ≡ true = found_from_any c.args.holder c.args.span c.args.wanted runs (run_from_conflict modes c.args.holder c.args.span c.args.wanted runs of k) in
    let isnt : is_some (find (blocks c.args.holder c.args.span c.args.wanted) runs) ≡ false = ap is_some none in
    absurd (cc))

pub returns-then-span-run-clause-first : goal.returns-then-span-run-clause-first
returns-then-span-run-clause-first c modes of =
    let runs = c.args.self.now.runs in
    let run = c.in_ok-run.run' in
    let ordered = subst AreOrdered (ap runs_of c.self.view_is) c.self.invariant in
    told_first modes c.args.holder c.args.span c.args.wanted run.span.first (holder_of run) c.in_the_way.result c.in_the_way.ensures.byte (c.in_the_way.ensures.holder ∙ c.holder.ensures)
    (first_begins modes c.args.holder c.args.span c.args.wanted run runs of ordered (sym c.first.ensures ∙ c.in_ok-run.was) c.if-span-run.true)

pub returns-then-span-run-clause-run : goal.returns-then-span-run-clause-run
returns-then-span-run-clause-run c =
    let ordered = subst AreOrdered (ap runs_of c.self.view_is) c.self.invariant in
    met_begins c.args.holder c.args.span c.args.wanted c.in_ok-run.run' c.args.self.now.runs ordered (sym c.first.ensures ∙ c.in_ok-run.was) c.in_the_way.result c.holder.result
    c.in_the_way.ensures.holder c.in_the_way.ensures.run c.in_the_way.ensures.byte

pub walk_before-requires : goal.walk_before-requires
walk_before-requires c = cut_beyond c.args.span.first c.self.inside.runs.items c.self.invariant

pub returns-in_err-least-clause-none : goal.returns-in_err-least-clause-none
returns-in_err-least-clause-none c modes of =
    let first = c.args.span.first in
    let query : Reaching = record { holder = c.args.holder; byte = first; wanted = c.args.wanted } in
    let is = ap runs_of c.self.view_is in
    let ordered = subst AreOrdered is c.self.invariant in
    let walked : IsLeastOf query c.walk_before.new.found (before (begins_after first) c.self.inside.runs.items) = c.walk_before.ensures [] (record { exact = λ bound. refl }) in
    let told = subst (λ (xs : List Run). IsLeastOf query None (before (begins_after first) xs)) is (subst (λ (o : Option Holder). IsLeastOf query o (before (begins_after first) c.self.inside.runs.items)) c.in_err-least.was walked) in
    absurd (never_none c.args.holder c.args.span c.args.wanted c.in_ok-run.run' c.args.self.now.runs ordered (sym c.first.ensures ∙ c.in_ok-run.was) (omega arith) told)

pub returns-clause-first : goal.returns-clause-first
returns-clause-first c modes of =
    let first = c.args.span.first in
    let query : Reaching = record { holder = c.args.holder; byte = first; wanted = c.args.wanted } in
    let is = ap runs_of c.self.view_is in
    let ordered = subst AreOrdered is c.self.invariant in
    let least = c.in_ok-least.field-0 in
    let walked : IsLeastOf query c.walk_before.new.found (before (begins_after first) c.self.inside.runs.items) = c.walk_before.ensures [] (record { exact = λ bound. refl }) in
    let told = subst (λ (xs : List Run). IsLeastOf query (Some least) (before (begins_after first) xs)) is (subst (λ (o : Option Holder). IsLeastOf query o (before (begins_after first) c.self.inside.runs.items)) c.in_ok-least.was walked) in
    told_first modes c.args.holder c.args.span c.args.wanted first least c.in_the_way-2.result c.in_the_way-2.ensures.byte c.in_the_way-2.ensures.holder
    (least_is_first modes c.args.holder c.args.span c.args.wanted least c.args.self.now.runs of ordered c.requires told)

pub returns-clause-run : goal.returns-clause-run
returns-clause-run c =
    let ordered = subst AreOrdered (ap runs_of c.self.view_is) c.self.invariant in
    met_reaches c.args.holder c.args.span c.args.wanted c.in_ok-run.run' c.args.self.now.runs ordered (sym c.first.ensures ∙ c.in_ok-run.was) c.in_the_way-2.result c.in_ok-least.field-0
    c.in_the_way-2.ensures.holder c.in_the_way-2.ensures.run c.in_the_way-2.ensures.byte (omega arith)
