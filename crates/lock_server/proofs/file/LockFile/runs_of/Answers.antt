use Rattle.lock_server.proofs.Common.{◌∙◌, sym, modes_of, file_state}
use Rattle.lock_server.proofs.CountLemmas.{count_runs, no_runs, runs_of_same}
use Rattle.lock_server.proofs.file.LockFile.runs_of.Goals as goal

pub returns-in-Some : goal.returns-in-Some
unfolding file_state
returns-in-Some c =
    let counted = c.len.ensures in
    counted.3 ∙ count_runs (modes_of c.in-Some.list.now) counted.0 counted.1 counted.2
    ∙ runs_of_same (modes_of c.in-Some.list.now) ((file_state c.args.self.now).bytes c.args.owner) c.in-Some.ensures

pub returns-in-None : goal.returns-in-None
unfolding file_state
returns-in-None c = sym (no_runs ((file_state c.args.self.now).bytes c.args.owner) (λ byte. sym (c.in-None.ensures byte)))
