use Rattle.lock_book.proofs.Common.{◌∙◌}
use Rattle.lock_book.proofs.OwnerListLemmas.{all_from, found_from_rising}
use Rattle.lock_book.proofs.book.lists.OwnerLists.iter.Goals as goal

pub returns-clause-lists : goal.returns-clause-lists
returns-clause-lists c = c.iter_from.ensures.lists ∙ all_from c.args.self.now

pub returns-clause-found : goal.returns-clause-found
returns-clause-found c = found_from_rising c.args.self.now c.iter_from.ensures.rising
