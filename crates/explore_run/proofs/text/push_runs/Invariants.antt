use Rattle.std.proofs.Common.{◌≡◌, ◌++◌, ℕ, List, take}
use Rattle.explore_run.specs.Explorations.{AreRunsPrinted}
use Rattle.explore_run.specs.FindingWords.{all_findings}
use Rattle.explore_run.proofs.text.push_runs.Given as goal

abbrev pub invariant-loop-finding : goal.invariant-loop-finding
invariant-loop-finding l =
    (more : List ℕ) × AreRunsPrinted l.fn.script l.fn.explored (take l.finding-index all_findings) more × (l.text.items ≡ l.fn.text.items ++ more)
