use Rattle.lock_book.proofs.Common.{arith, common_steps}
use Rattle.lock_book.proofs.HolderLemmas.{conflict_near}
use Rattle.lock_book.proofs.book.holders.FlockHolders.blocked.Goals as goal

pub returns-then-conflict_twice : goal.returns-then-conflict_twice
returns-then-conflict_twice c = grind (arith, common_steps, conflict_near)

pub returns-else-conflicts_with : goal.returns-else-conflicts_with
returns-else-conflicts_with c =
    let holders = c.args.self.now in
    let near = conflict_near holders.locks c.args.description c.args.wanted holders.places.entries holders.ordered holders.shared holders.exclusive in
    (λ yes. absurd (let no = c.if-conflicts_with.false in cc), λ conflict. c.conflicts_with.ensures.1 (near.0 conflict))
