use Rattle.std.proofs.Common.{rules, ◌≡◌, false, get_or, is_some}
use Rattle.explore_core.specs.declared.finding.Finding.TheVariants.{Deadlock}
use Rattle.explore_run.specs.Explorations.{run_in}
use Rattle.explore_run.proofs.TextLemmas.{none_at_all, none_more, none_of}
use Rattle.explore_run.proofs.text.outcome_of.Goals as goal

pub loop-finding-preserved : goal.loop-finding-preserved
loop-finding-preserved c =
    let fail_on = c.args.fail_on.now in
    let i = c.loop-finding.finding-index in
    let none : is_some c.run_in.result ≡ false = search rules in
    none_more c.args.explored.now fail_on i Deadlock c.loop-finding-test.true c.loop-finding.invariant
    (none_of c.run_in.result (run_in c.args.explored.now (get_or fail_on i Deadlock)) none c.run_in.ensures)

pub returns-then-explored : goal.returns-then-explored
returns-then-explored c =
    (none_at_all c.args.explored.now c.args.fail_on.now c.loop-finding.finding-index c.loop-finding-test.false c.loop-finding.invariant, c.if-explored.true)

pub returns-else-explored : goal.returns-else-explored
returns-else-explored c =
    (none_at_all c.args.explored.now c.args.fail_on.now c.loop-finding.finding-index c.loop-finding-test.false c.loop-finding.invariant, c.if-explored.false)
