use Rattle.lock_book.proofs.SomeChangesLaws.{stand_for_some}
use Rattle.lock_book.proofs.laws.books_stand_for_some.Goals as goal

pub returns : goal.returns
returns c = stand_for_some c.owners_stand_for_runs.ensures
