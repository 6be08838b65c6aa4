use Rattle.std.proofs.Common.{◌≡◌}
use Rattle.std.specs.Vec.{vec_len}
use Rattle.wait_core_tests.proofs.listed.empty_books.Given as goal

abbrev pub invariant-loop-file : goal.invariant-loop-file
invariant-loop-file l = vec_len l.books ≡ l._file
