use Rattle.diagnosis.specs.Lines.{IsReadUpTo}
use Rattle.diagnosis.proofs.lines.line_at.Given as goal

abbrev pub invariant-loop : goal.invariant-loop
invariant-loop l = IsReadUpTo l.fn.bytes l.counter l.rest
