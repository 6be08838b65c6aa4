use Rattle.std.proofs.Common.{map, string_bytes}
use Rattle.lockreplay.proofs.GivenWordLemmas.{ArePassed}
use Rattle.lockreplay.proofs.given_words.place_of.Given as goal

abbrev pub invariant-loop-place : goal.invariant-loop-place
invariant-loop-place l = ArePassed l.flag (map string_bytes l.words) l.place
