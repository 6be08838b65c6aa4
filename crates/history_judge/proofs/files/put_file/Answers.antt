use Rattle.history_judge.proofs.FilesLemmas.{inserts_updated}
use Rattle.history_judge.proofs.files.put_file.Goals as goal

pub returns-clause-ok : goal.returns-clause-ok
returns-clause-ok c = inserts_updated c.args.files.now _ c.args.file c.args.history c.in_ok-insert.ensures.updates c.in_ok-insert.ensures.entries
