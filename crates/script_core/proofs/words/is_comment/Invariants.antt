use Rattle.script_core.proofs.Common.{◌≡◌, drop}
use Rattle.script_core.specs.Words.{begins_with_hash}
use Rattle.script_core.proofs.words.is_comment.Given as goal

abbrev pub invariant-loop-byte : goal.invariant-loop-byte
invariant-loop-byte l = begins_with_hash l.byte-items ≡ begins_with_hash (drop l.byte-index l.byte-items)
