use Rattle.lock_server.proofs.Common.{◌==◌, arith, eqb-true, is_of_kind}
use Rattle.std.proofs.Common.{◌&&◌}
use Rattle.lock_server.proofs.AskingLemmas.{both, none_hits}
use Rattle.lock_server.proofs.asking.OfOwnerQueryPendingHull.may_hit.Goals as goal

pub returns : goal.returns
returns c waits within none =
    let owner = c.args.self.now.owner in
    let kind = c.args.self.now.kind in
    none_hits c.args.hull.now (λ wait. is_of_kind kind wait && (wait.owner == owner))
    (λ wait inside hit.
    (let is = eqb-true wait.owner owner (both (is_of_kind kind wait) (wait.owner == owner) hit).1 in
    c.meets.ensures none wait.owner wait.owner inside.owner (omega (arith, is)) (omega (arith, is)))) waits within
