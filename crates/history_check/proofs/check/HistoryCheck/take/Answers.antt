use Rattle.history_check.proofs.CheckLemmas.{ended_where, limited}
use Rattle.history_check.proofs.check.HistoryCheck.take.Goals as goal

pub returns-then-byte-eq10-clause-checked : goal.returns-then-byte-eq10-clause-checked
returns-then-byte-eq10-clause-checked c = λ judging front checked.
    ended_where c.end_line.result judging c.args.self.now c.end_line.new.self front c.args.byte c.if-byte-eq10.true c.requires.unfound checked
    (c.end_line.ensures.judges judging)

pub returns-then-byte-eq10-clause-limit : goal.returns-then-byte-eq10-clause-limit
returns-then-byte-eq10-clause-limit c = λ is judging front rest checked.
    limited judging c.args.self.now front c.requires.unfound checked (c.end_line.ensures.limit is) rest
