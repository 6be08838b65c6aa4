use Rattle.history_judge.proofs.Common.{All}
use Rattle.std.specs.Prelude.{true}
use Rattle.history_judge.proofs.FilesLemmas.{MayEndBy}
use Rattle.history_judge.proofs.files.Files.may_end.Given as goal

abbrev pub invariant-loop-file : goal.invariant-loop-file
invariant-loop-file l = All (λ p. MayEndBy p.1.now true) l.yielded
