use Rattle.replay_core.proofs.CheckingLemmas.{ended_where}
use Rattle.replay_core.proofs.checking.Checking.take.Goals as goal

pub returns-then-byte-eq10-clause-checked : goal.returns-then-byte-eq10-clause-checked
returns-then-byte-eq10-clause-checked c = λ front checked.
    ended_where c.end_line.result c.args.self.now c.end_line.new.self front c.args.byte c.if-byte-eq10.true c.requires.unfound checked c.end_line.ensures.judges
