use Rattle.std.proofs.Common.{rules, ◌≡◌, Err, Result, subst, sym}
use Rattle.script_core.specs.declared.script.Cause.{Cause}
use Rattle.history_text.specs.declared.line.HistoryLine.{HistoryLine}
use Rattle.history_text.specs.HistoryReading.{LineGives}
use Rattle.history_check.specs.Checked.{requested_in}
use Rattle.history_check.proofs.reading.read_line.Goals as goal

pub returns-in_err-head : goal.returns-in_err-head
returns-in_err-head c =
    let refused : c.from_residual.result ≡ Err c.in_err-head.field-0.0 = search rules in
    subst (λ (said : Result HistoryLine Cause). LineGives (requested_in c.args.judge.now) c.args.line.now said) (sym refused)
    (c.in_err-head.ensures (requested_in c.args.judge.now))
