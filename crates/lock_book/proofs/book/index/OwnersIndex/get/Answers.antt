use Rattle.lock_book.proofs.IndexedLemmas.{kept_by_index, told_by_index}
use Rattle.lock_book.proofs.book.index.OwnersIndex.get.Goals as goal

pub returns-clause-kept : goal.returns-clause-kept
returns-clause-kept c lists indexed = kept_by_index c.args.self.now lists indexed c.as_deref.result c.as_deref.ensures.cases

pub returns-clause-told : goal.returns-clause-told
returns-clause-told c lists indexed =
    told_by_index c.owners_stand_for_runs.ensures c.args.self.now lists indexed c.as_deref.result c.as_deref.ensures.cases
