use Rattle.std.proofs.Common.{◌≡◌, take}
use Rattle.expectations.specs.Expectations.{last_note}
use Rattle.expectations.proofs.seen.last_note.Given as goal

abbrev pub invariant-loop-entry : goal.invariant-loop-entry
invariant-loop-entry l = l.last ≡ last_note l.p l.n (take l.entry-index l.journal)
