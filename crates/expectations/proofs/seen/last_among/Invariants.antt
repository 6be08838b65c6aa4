use Rattle.std.proofs.Common.{◌≡◌, filter, take}
use Rattle.expectations.specs.Expectations.{is_about, last_of}
use Rattle.expectations.proofs.seen.last_among.Given as goal

abbrev pub invariant-loop-note : goal.invariant-loop-note
invariant-loop-note l = l.last ≡ last_of (filter (is_about l.p l.n) (take l.note-index l.notes))
