use Rattle.std.proofs.Common.{◌≡◌, ◌++◌, flat_map, take}
use Rattle.explore_run.specs.Explorations.{finding_line}
use Rattle.explore_run.specs.FindingWords.{all_findings}
use Rattle.explore_run.proofs.text.push_findings.Given as goal

abbrev pub invariant-loop-finding : goal.invariant-loop-finding
invariant-loop-finding l = l.text.items ≡ l.fn.text.items ++ flat_map (finding_line l.explored) (take l.finding-index all_findings)
