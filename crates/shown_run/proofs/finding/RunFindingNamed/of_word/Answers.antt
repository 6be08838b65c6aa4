use Rattle.std.proofs.Common.{rules, ◌≢◌}
use Rattle.shown_run.specs.declared.finding.RunFinding.{RunFinding}
use Rattle.shown_run.specs.declared.finding.RunFinding.TheVariants.{Found, BadDescriptor}
use Rattle.shown_run.specs.ShownRuns.{run_finding_word}
use Rattle.shown_run.proofs.finding.RunFindingNamed.of_word.Goals as goal

pub returns-in-None : goal.returns-in-None
returns-in-None c = at
  where
    at : (finding : RunFinding) → c.args.word.now ≢ run_finding_word finding
    at (Found finding) = c.in-None.ensures finding
    at BadDescriptor = search rules
