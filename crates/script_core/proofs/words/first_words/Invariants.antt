use Rattle.script_core.proofs.Common.{take, ◌≤◌, texts}
use Rattle.script_core.proofs.WordLemmas.{Reached}
use Rattle.script_core.proofs.words.first_words.Given as goal

abbrev pub invariant-loop-at : goal.invariant-loop-at
invariant-loop-at l = Reached l.line (texts (take l.count l.room)) l.start l.at × (l.count ≤ 9)
