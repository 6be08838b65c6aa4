use Rattle.lock_server.proofs.Common.{inr}
use Rattle.lock_server.proofs.ReachedLemmas.{known_among, not_new}
use Rattle.lock_server.proofs.table.reached.Reached.add.Goals as goal

pub returns-else-branch-clause-adds : goal.returns-else-branch-clause-adds
returns-else-branch-clause-adds c =
    let known = not_new _ c.in_ok-insert.field-0 c.in_ok-insert.ensures.added c.if-branch.false in
    inr (c.reserve.ensures.items, known_among c.args.self.now.owners.items c.args.owner (c.args.self.now.among c.args.owner known))
