use Rattle.script_core.proofs.explained.OneTextLaws.{runs_have_one, scripts_have_one}
use Rattle.script_core.proofs.laws.explanations_have_one_text.Goals as goal

pub returns-clause-run : goal.returns-clause-run
returns-clause-run c = runs_have_one c.locks_have_one_report.ensures c.step_has_one_outcome.ensures

pub returns-clause-script : goal.returns-clause-script
returns-clause-script c =
    scripts_have_one c.locks_have_one_report.ensures c.arrivals_have_one_drain.ensures c.step_has_one_outcome.ensures
