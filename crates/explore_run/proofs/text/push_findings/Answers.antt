use Rattle.std.proofs.Common.{◌∙◌, ◌++◌, ℕ, List, Option, ap}
use Rattle.explore_core.specs.declared.finding.Finding.TheVariants.{Deadlock}
use Rattle.explore_run.specs.FindingWords.{all_findings}
use Rattle.explore_run.specs.Explorations.{found_text}
use Rattle.explore_run.proofs.TextLemmas.{findings_more}
use Rattle.explore_run.proofs.text.push_findings.Goals as goal

pub loop-finding-preserved : goal.loop-finding-preserved
loop-finding-preserved c =
    let explored = c.args.explored.now in
    findings_more explored all_findings c.loop-finding.finding-index Deadlock c.args.text.now.items c.loop-finding.text.items c.push_str.new.text.items
    c.push_found.new.text.items c.loop-finding-test.true c.loop-finding.invariant
    (c.in_ok-push_str.ensures ∙ ap (λ (l : List ℕ). c.loop-finding.text.items ++ l) c.word_of.ensures)
    (c.in_ok-push_found.ensures
    ∙ ap (λ (r : Option (List ℕ)). c.push_str.new.text.items ++ found_text explored.is_complete explored.situations r) c.run_in.ensures)
