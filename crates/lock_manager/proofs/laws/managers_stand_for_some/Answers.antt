use Rattle.lock_manager.proofs.some.SomeStateLaws.{stand_for_some}
use Rattle.lock_manager.proofs.laws.managers_stand_for_some.Goals as goal

pub returns : goal.returns
returns c = stand_for_some c.tables_stand_for_some.ensures c.books_stand_for_some.ensures
