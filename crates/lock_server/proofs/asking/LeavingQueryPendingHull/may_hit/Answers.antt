use Rattle.lock_server.proofs.Common.{◌≡◌, ◌==◌, sym, subst, false, arith, list_any, eqb-true, nat_tests, is_within, is_leaving, is_byte_wait, is_of_bytes}
use Rattle.lock_server.specs.declared.leaving.Leaving.{Leaving}
use Rattle.lock_server.proofs.AskingLemmas.{both, none_hits}
use Rattle.lock_server.proofs.asking.LeavingQueryPendingHull.may_hit.Goals as goal

pub returns-in-BytesOf : goal.returns-in-BytesOf
returns-in-BytesOf c waits within none =
    let owner = c.in-BytesOf.owner in
    subst (λ (leaving : Leaving). list_any (is_leaving leaving) waits ≡ false) (sym c.in-BytesOf.is)
    (none_hits c.args.hull.now (is_byte_wait owner)
    (λ wait inside hit.
    (let is = eqb-true wait.owner owner (both (is_of_bytes wait.family) (wait.owner == owner) hit).1 in
    c.meets.ensures none wait.owner wait.owner inside.owner (omega (arith, is)) (omega (arith, is)))) waits within)

pub returns-in-Of : goal.returns-in-Of
returns-in-Of c waits within none =
    let owners = c.in-Of.owners in
    subst (λ (leaving : Leaving). list_any (is_leaving leaving) waits ≡ false) (sym c.in-Of.is)
    (none_hits c.args.hull.now (λ wait. is_within owners.first owners.last wait.owner)
    (λ wait inside hit. c.meets-in-Of.ensures none wait.owner wait.owner inside.owner (grind (arith, nat_tests)) (grind (arith, nat_tests))) waits within)
