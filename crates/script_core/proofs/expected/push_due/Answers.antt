use Rattle.script_core.proofs.Common.{codes, line_text}
use Rattle.script_core.proofs.TextLemmas.{then_pushed}
use Rattle.script_core.proofs.expected.push_due.Goals as goal

pub returns-in_ok-write-in-Some : goal.returns-in_ok-write-in-Some
returns-in_ok-write-in-Some c =
    rw c.in-Some.is
    (then_pushed c.push_str.result c.args.text.now.items c.write.new.out.items c.push_str.new.text.items (line_text c.in-Some.line) (codes " expected")
    c.in_ok-write-in-Some.ensures c.push_str.ensures)
