use Rattle.lock_server.proofs.Common.{byte_modes_of, file_state}
use Rattle.lock_server.proofs.NumberLemmas.{first_by_number}
use Rattle.lock_server.proofs.file.LockFile.blocker.Goals as goal

pub returns-clause-some : goal.returns-clause-some
unfolding file_state
returns-clause-some c =
    first_by_number (byte_modes_of c.args.self.now.book) c.args.self.now.numbers c.args.owner c.args.span c.args.mode c.in_ok-found.found
    c.in-Description.holder c.in-Description.is c.in_ok-found.ensures.some
