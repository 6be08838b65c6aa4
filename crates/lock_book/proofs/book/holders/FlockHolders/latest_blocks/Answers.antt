use Rattle.lock_book.proofs.Common.{arith, common_steps}
use Rattle.lock_book.proofs.HolderLemmas.{latest_conflicts}
use Rattle.lock_book.proofs.book.holders.FlockHolders.latest_blocks.Goals as goal

pub returns-then-lock-description : goal.returns-then-lock-description
returns-then-lock-description c = λ yes.
    latest_conflicts c.args.self.now.places.entries c.in-Some.lock c.args.description c.args.wanted
    (c.args.self.now.stands c.in-Some.lock c.in-Some.is) (grind (arith, common_steps, c.if-lock-description.true)) (c.conflicts_with.ensures.0 yes)
