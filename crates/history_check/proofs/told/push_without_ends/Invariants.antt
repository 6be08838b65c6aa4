use Rattle.std.proofs.Common.{◌≡◌, ◌++◌, ◌==◌, take}
use Rattle.std.specs.Prelude.{filter, not}
use Rattle.history_check.proofs.told.push_without_ends.Given as goal

abbrev pub invariant-loop-byte : goal.invariant-loop-byte
invariant-loop-byte l = l.text.items ≡ l.fn.text.items ++ filter (λ byte. not (byte == 10)) (take l.byte-index l.line)
