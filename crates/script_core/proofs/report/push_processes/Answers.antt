use Rattle.script_core.proofs.ReportReadingLemmas.{no_processes, one_process_more, few_line}
use Rattle.script_core.specs.declared.report.ReportLine.TheVariants.{Process}
use Rattle.script_core.proofs.report.push_processes.Goals as goal

pub loop-index-init : goal.loop-index-init
loop-index-init c = (λ rules processes accepted S has run. no_processes S.states accepted c.args.lines.now.items, λ few. few)

pub loop-index-preserved : goal.loop-index-preserved
loop-index-preserved c = (
  (λ rules processes accepted S has run.
      one_process_more S.states accepted c.args.lines.now.items c.loop-index.lines.items c.push.new.self.items c.line_of.result c.loop-index.index
      (c.loop-index.invariant.0 rules processes accepted S has run) (c.line_of.ensures.is rules processes accepted S has run) c.in_ok-push.ensures.items),
  (λ few. few_line c.loop-index.lines.items c.push.new.self.items (Process c.line_of.result) (c.loop-index.invariant.1 few) c.line_of.ensures.few c.in_ok-push.ensures.items),
)
