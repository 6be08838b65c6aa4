use Rattle.lock_book.proofs.DecideLemmas.{byte_conflict_or_not, flock_conflict_or_not, process_blocks_or_not}
use Rattle.lock_book.proofs.laws.conflicts_are_decided.Goals as goal

pub returns-clause-bytes : goal.returns-clause-bytes
returns-clause-bytes c = byte_conflict_or_not

pub returns-clause-flocks : goal.returns-clause-flocks
returns-clause-flocks c = flock_conflict_or_not

pub returns-clause-processes : goal.returns-clause-processes
returns-clause-processes c = process_blocks_or_not
