use Rattle.lock_server.proofs.Common.{Description, byte_modes_of, modes_of, file_state}
use Rattle.lock_server.proofs.RunLemmas.{first_run_as, if_none, nothing_begins}
use Rattle.lock_server.proofs.file.LockFile.lock_from.Goals as goal

pub returns-in_err-list-clause-none : goal.returns-in_err-list-clause-none
unfolding file_state
returns-in_err-list-clause-none c =
    if_none c.from_residual.result _ (nothing_begins (λ byte. byte_modes_of c.args.self.now.book (Description c.args.owner) byte) c.in_err-list.ensures c.args.byte)

pub returns-clause-first : goal.returns-clause-first
unfolding file_state
returns-clause-first c =
    first_run_as (modes_of c.in_ok-list.list.now) (λ byte. byte_modes_of c.args.self.now.book (Description c.args.owner) byte) c.in_ok-list.ensures
    c.args.byte (c.in_ok-mode.mode, c.in_ok-mode.span) c.in_ok-mode.ensures.first
