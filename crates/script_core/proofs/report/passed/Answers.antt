use Rattle.script_core.proofs.Common.{refl}
use Rattle.script_core.proofs.ReportReadingLemmas.{skips_one}
use Rattle.script_core.proofs.report.passed.Goals as goal

pub loop-index-preserved : goal.loop-index-preserved
loop-index-preserved c =
    skips_one c.args.lines.now c.args.text.now c.loop-index.index _ c.loop-index-test.true c.loop-index.invariant
    (λ is. let yes = c.in_ok-is_line.ensures.1 is in let no = c.if-branch.false in cc) (c.if-not-may_be_left_out.ensures.0 refl)
