use Rattle.lock_server.proofs.Common.{file_words, table_state}
use Rattle.lock_server.proofs.ExportLemmas.{IsFilePiece}
use Rattle.lock_server.proofs.WalkLemmas.{Walked}
use Rattle.lock_server.proofs.table.Table.put_files.Given as goal

abbrev pub invariant-loop-number : goal.invariant-loop-number
invariant-loop-number l =
    (goal.iterator-loop-number).can_next l.number-iterator ×
    (goal.iterator-loop-number).is_finite l.number-iterator ×
    Walked (IsFilePiece (table_state l.self)) file_words l.yielded l.initial.out l.initial.behind l.out l.behind
