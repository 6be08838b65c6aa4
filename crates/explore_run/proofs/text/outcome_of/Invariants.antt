use Rattle.std.proofs.Common.{All, take}
use Rattle.std.specs.Prelude.{IsNone}
use Rattle.explore_run.specs.Explorations.{run_in}
use Rattle.explore_run.proofs.text.outcome_of.Given as goal

abbrev pub invariant-loop-finding : goal.invariant-loop-finding
invariant-loop-finding l = All (λ finding. IsNone (run_in l.explored finding)) (take l.finding-index l.fail_on)
