use Rattle.script_search.proofs.LoopLemmas.{none_any, none_more, refuted, some_any}
use Rattle.shown_run.specs.ShownRuns.{ShownByRun}
use Rattle.shown_run.proofs.runs.outcome_in.Goals as goal

pub loop-finding-preserved : goal.loop-finding-preserved
loop-finding-preserved c =
    none_more (ShownByRun c.args.script.now c.args.journal.now) c.args.fail_on.now c.loop-finding.finding-index _ c.loop-finding-test.true
    c.loop-finding.invariant (refuted c.in_ok-shows.field-0 _ c.if-branch.false c.in_ok-shows.ensures)

pub returns-then-branch : goal.returns-then-branch
returns-then-branch c =
    some_any (ShownByRun c.args.script.now c.args.journal.now) c.args.fail_on.now c.loop-finding.finding-index _ c.loop-finding-test.true
    (c.in_ok-shows.ensures.0 c.if-branch.true)

pub returns : goal.returns
returns c =
    none_any (ShownByRun c.args.script.now c.args.journal.now) c.args.fail_on.now c.loop-finding.finding-index c.loop-finding-test.false
    c.loop-finding.invariant
