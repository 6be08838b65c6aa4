use Rattle.interval_index.proofs.Common.{List, sym, ap, ◌∙◌, subst, is_some, Run, RunContents, AreOrdered}
use Rattle.interval_index.proofs.Blocking.{any_from_found, found_from_any}
use Rattle.interval_index.proofs.Standings.{conflict_from_run, run_from_conflict}
use Rattle.interval_index.proofs.index.RunIndex.is_blocked.Goals as goal

abbrev runs_of : RunContents → List Run
runs_of contents = contents.runs

pub returns-clause-runs : goal.returns-clause-runs
returns-clause-runs c =
    let e = c.is_some.ensures ∙ ap is_some c.first.ensures in
    let ordered = subst AreOrdered (ap runs_of c.self.view_is) c.self.invariant in (
      λ h. any_from_found c.args.holder c.args.span c.args.wanted c.args.self.now.runs c.requires ordered (sym e ∙ h),
      λ a. e ∙ found_from_any c.args.holder c.args.span c.args.wanted c.args.self.now.runs a,
    )

pub returns-clause-modes : goal.returns-clause-modes
returns-clause-modes c modes of =
    let e = c.is_some.ensures ∙ ap is_some c.first.ensures in
    let ordered = subst AreOrdered (ap runs_of c.self.view_is) c.self.invariant in
    let runs = c.args.self.now.runs in (
      λ h. conflict_from_run modes c.args.holder c.args.span c.args.wanted runs of (any_from_found c.args.holder c.args.span c.args.wanted runs c.requires ordered (sym e ∙ h)),
      λ k. e ∙ found_from_any c.args.holder c.args.span c.args.wanted runs (run_from_conflict modes c.args.holder c.args.span c.args.wanted runs of k),
    )
