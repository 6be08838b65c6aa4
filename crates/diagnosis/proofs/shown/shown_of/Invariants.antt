use Rattle.std.proofs.Common.{◌≡◌, string_bytes, take}
use Rattle.diagnosis.specs.Shown.{shown}
use Rattle.diagnosis.proofs.shown.shown_of.Given as goal

abbrev pub invariant-loop-byte : goal.invariant-loop-byte
invariant-loop-byte l = string_bytes l.text ≡ shown (take l.byte-index l.bytes)
