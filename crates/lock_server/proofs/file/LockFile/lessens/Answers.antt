use Rattle.lock_server.proofs.Common.{◌≡◌, ap, Some, Mode, Read, Write, file_state}
use Rattle.lock_server.proofs.FreedLemmas.{takes_nothing_by_read, takes_nothing_by_write}
use Rattle.lock_server.proofs.file.LockFile.lessens.Goals as goal

pub returns-in-Read : goal.returns-in-Read
returns-in-Read c = λ none.
    let is : c.args.mode ≡ Read = c.in-Read.is in
    takes_nothing_by_read (file_state c.args.self.now) c.args.owner c.args.span (Some c.args.mode) (ap (λ (m : Mode). Some m) is) (c.has_against.ensures none)

pub returns-in-Write : goal.returns-in-Write
returns-in-Write c = λ none.
    let is : c.args.mode ≡ Write = c.in-Write.is in
    takes_nothing_by_write (file_state c.args.self.now) c.args.owner c.args.span (Some c.args.mode) (ap (λ (m : Mode). Some m) is)
