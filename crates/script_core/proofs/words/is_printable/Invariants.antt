use Rattle.script_core.proofs.Common.{◌≡◌, take, is_printable}
use Rattle.script_core.proofs.words.is_printable.Given as goal

abbrev pub invariant-loop-byte : goal.invariant-loop-byte
invariant-loop-byte l = l.printable ≡ is_printable (take l.byte-index l.line)
