use Rattle.lock_server.proofs.Common.{◌≡◌, ◌<◌, ◌-◌, ◌∙◌, arith, false, true, get_or, subst, sym, get_or_default}
use Rattle.lock_server.proofs.import.order.first_misplaced.Goals as goal

pub returns-then-not-is_before : goal.returns-then-not-is_before
returns-then-not-is_before g c = λ pairs.
    let items = c.args.items.now in
    let i = c.loop-i.i in
    let one = c.index-items-i.result in
    let other = c.index-items-i-in-loop-i.result in
    let within = c.loop-i-test.true in
    let before : i - 1 < i = (let least = c.loop-i.auto.i in omega arith) in
    let second = get_or_default items i one other within ∙ sym c.index-items-i-in-loop-i.is in
    let may = subst (λ x. g.T.Placed.may_precede x other) (sym c.index-items-i.is)
    (subst (λ x. g.T.Placed.may_precede (get_or items (i - 1) one) x) second (pairs (i - 1) i one before within)) in
    let yes = c.is_before.ensures may in
    let h : false ≡ true = sym c.if-not-is_before.true ∙ yes in absurd (cc)
