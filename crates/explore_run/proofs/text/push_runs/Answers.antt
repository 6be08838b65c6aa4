use Rattle.std.proofs.Common.{◌∙◌, ◌++◌, ℕ, List, Option, ap, append_assoc, get_or, subst, sym, take}
use Rattle.std.proofs.lemmas.List.{take_more}
use Rattle.explore_core.specs.declared.finding.Finding.{Finding}
use Rattle.explore_core.specs.declared.finding.Finding.TheVariants.{Deadlock}
use Rattle.explore_run.specs.FindingWords.{all_findings}
use Rattle.explore_run.specs.Explorations.{AreRunsPrinted, IsRunPrinted, run_in}
use Rattle.explore_run.proofs.TextLemmas.{runs_more}
use Rattle.explore_run.proofs.text.push_runs.Goals as goal

pub loop-finding-preserved : goal.loop-finding-preserved
loop-finding-preserved c =
    let script = c.args.script.now in
    let explored = c.args.explored.now in
    let i = c.loop-finding.finding-index in
    let item = get_or all_findings i Deadlock in
    let before = c.loop-finding.invariant in
    let own = c.in_ok-push_run.ensures in
    let is_own : IsRunPrinted script item (run_in explored item) own.0 =
    subst (λ (o : Option (List ℕ)). IsRunPrinted script item o own.0) c.run_in.ensures own.1 in (
      before.0 ++ own.0,
      subst (λ (l : List Finding). AreRunsPrinted script explored l (before.0 ++ own.0)) (sym (take_more all_findings i Deadlock c.loop-finding-test.true))
          (runs_more script explored (take i all_findings) item before.0 own.0 before.1 is_own),
      own.2 ∙ ap (λ (l : List ℕ). l ++ own.0) before.2 ∙ append_assoc c.args.text.now.items before.0 own.0,
    )
