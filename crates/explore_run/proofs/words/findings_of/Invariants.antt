use Rattle.std.proofs.Common.{◌≡◌, ◌++◌, length, map}
use denote.Text.{Utf8}
use denote.Shadow.{shadow}
use Rattle.explore_run.specs.FindingWords.{pieces_of}
use Rattle.explore_run.proofs.words.findings_of.Given as goal

abbrev pub invariant-loop-word : goal.invariant-loop-word
invariant-loop-word g l = shadow (Utf8 l.rest) × (pieces_of l.fn.list ≡ map g.F.Named.name l.findings.items ++ pieces_of l.rest)

abbrev pub decreases-loop-word : goal.decreases-loop-word
decreases-loop-word g l = length l.rest
