use Rattle.owner_runs.proofs.WriteLemmas.{none_told}
use Rattle.owner_runs.proofs.writes.Writes.may_conflict.Goals as goal

-- src/writes.rt:60:5
pub returns-in-Read : goal.returns-in-Read
returns-in-Read c = λ runs told none. rw c.in-Read.is (none_told c.args.self.now.count runs told none)
