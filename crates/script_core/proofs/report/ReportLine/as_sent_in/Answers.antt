use Rattle.script_core.proofs.Common.{arith}
use Rattle.script_core.proofs.ReportReadingLemmas.{no_sent, sent_less, is_sent_in}
use Rattle.script_core.proofs.report.ReportLine.as_sent_in.Goals as goal

pub returns-in_err-sent-in-Process : goal.returns-in_err-sent-in-Process
returns-in_err-sent-in-Process c =
    rw c.from_residual.ensures
    (no_sent c.args.self.now c.in-Process.told c.args.text.now c.sent_in.result c.in-Process.is c.sent_in.ensures c.in_err-sent-in-Process.was)

pub returns-then-sent-told : goal.returns-then-sent-told
returns-then-sent-told c =
    sent_less c.args.self.now c.in-Process.told c.args.text.now c.in_ok-sent-in-Process.sent c.in-Process.is c.in_ok-sent-in-Process.ensures
    (omega arith)

pub returns-else-sent-told : goal.returns-else-sent-told
returns-else-sent-told c =
    is_sent_in c.args.self.now c.in-Process.told c.args.text.now c.in_ok-sent-in-Process.sent c.is_reported.result c.then_some.result c.in-Process.is
    (omega arith) (omega arith) c.in_ok-sent-in-Process.ensures c.is_reported.ensures c.then_some.ensures
