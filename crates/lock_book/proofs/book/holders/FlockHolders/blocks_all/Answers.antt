use Rattle.lock_book.proofs.HolderLemmas.{conflict_for_all}
use Rattle.lock_book.proofs.book.holders.FlockHolders.blocks_all.Goals as goal

pub returns : goal.returns
returns c =
    let holders = c.args.self.now in
    let all = conflict_for_all holders.locks c.args.wanted holders.places.entries holders.ordered holders.shared holders.exclusive in
    (λ yes. all.0 (c.conflict_twice.ensures.0 yes), λ given. c.conflict_twice.ensures.1 (all.1 given))
