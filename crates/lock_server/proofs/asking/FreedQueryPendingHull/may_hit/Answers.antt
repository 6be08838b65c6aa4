use Rattle.lock_server.proofs.Common.{◌≡◌, ◌==◌, sym, subst, true, false, arith, list_any, eqb-true, Freed, Nobody, Of, Meeting, is_among, reaches}
use Rattle.lock_server.proofs.AskingLemmas.{both, none_hits, reaches_told}
use Rattle.lock_server.proofs.asking.FreedQueryPendingHull.may_hit.Goals as goal

pub returns-in-Nobody : goal.returns-in-Nobody
returns-in-Nobody c waits within none =
    subst (λ (freed : Freed). list_any (is_among freed) waits ≡ false) (sym c.in-Nobody.is)
    (none_hits c.args.hull.now (is_among Nobody) (λ wait inside hit. (let never : false ≡ true = hit in cc)) waits within)

pub returns-then-meets : goal.returns-then-meets
returns-then-meets c waits within none =
    let owner = c.in-Of.owner in
    let reach = c.in-Of.reach in
    subst (λ (freed : Freed). list_any (is_among freed) waits ≡ false) (sym c.in-Of.is)
    (none_hits c.args.hull.now (is_among (Of owner reach))
    (λ wait inside hit. c.meets-then-meets.ensures none wait inside (reaches_told reach wait (both (wait.owner == owner) (reaches reach wait) hit).1)) waits within)

pub returns-else-meets : goal.returns-else-meets
returns-else-meets c waits within none =
    let owner = c.in-Of.owner in
    let reach = c.in-Of.reach in
    subst (λ (freed : Freed). list_any (is_among freed) waits ≡ false) (sym c.in-Of.is)
    (none_hits c.args.hull.now (is_among (Of owner reach))
    (λ wait inside hit.
    (let is = eqb-true wait.owner owner (both (wait.owner == owner) (reaches reach wait) hit).0 in
    c.meets.ensures none wait.owner wait.owner inside.owner (omega (arith, is)) (omega (arith, is)))) waits within)

pub returns-in-Meeting : goal.returns-in-Meeting
returns-in-Meeting c waits within none =
    let reach = c.in-Meeting.reach in
    subst (λ (freed : Freed). list_any (is_among freed) waits ≡ false) (sym c.in-Meeting.is)
    (none_hits c.args.hull.now (is_among (Meeting reach)) (λ wait inside hit. c.meets-in-Meeting.ensures none wait inside (reaches_told reach wait hit)) waits within)
