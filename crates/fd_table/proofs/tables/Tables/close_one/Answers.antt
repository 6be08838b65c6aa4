use Rattle.fd_table.proofs.Common.{rules, arith, ◌≡◌, ◌≢◌, None, refl, sym, ◌∙◌, common_steps, Updates-with_value, view_of}
use Rattle.fd_table.proofs.RowsLemmas.{AreRows-with_key, WithKey-with_key, key_within, has_row-with_key}
use Rattle.fd_table.proofs.ViewLemmas.{closed_one}
use Rattle.fd_table.proofs.EntryLemmas.{some_is, removed_after_write}
use Rattle.fd_table.proofs.ChangeLemmas.{one_less, entries_dropped, seen_dropped, closes_last, entries_unshared, seen_unshared, closes_shared}
use Rattle.fd_table.proofs.tables.Tables.close_one.Goals as goal

pub invariant_of-self-clause-rowed : goal.invariant_of-self-clause-rowed
invariant_of-self-clause-rowed c = grind (arith, common_steps, AreRows-with_key)

pub invariant_of-self-clause-entered : goal.invariant_of-self-clause-entered
invariant_of-self-clause-entered c =
    let t = c.args.self.now in
    let held = sym c.key_at.ensures ∙ c.in_ok-key.was in
    let was = c.index_mut-opened.ensures.value in
    rw c.set_key.ensures
    (entries_unshared t.rows.items t.opened _ t.made c.args.p c.args.fd c.in_ok-key.key c.index_mut-opened.result.now t.entered held was (omega (arith, c.if-opened-gt1.true))
    (Updates-with_value t.opened c.in_ok-key.key (one_less c.index_mut-opened.result.now) (some_is _ _ was)))

pub returns-then-opened-gt1-clause-step : goal.returns-then-opened-gt1-clause-step
unfolding view_of
returns-then-opened-gt1-clause-step c = λ D h.
    let t = c.args.self.now in
    let held = sym c.key_at.ensures ∙ c.in_ok-key.was in
    let was = c.index_mut-opened.ensures.value in
    let entry = c.index_mut-opened.result.now in
    let more : entry.users ≢ 1 = omega (arith, c.if-opened-gt1.true) in
    let updates = Updates-with_value t.opened c.in_ok-key.key (one_less entry) (some_is _ _ was) in
    let seen = seen_unshared t.rows.items t.opened _ c.args.p c.args.fd c.in_ok-key.key entry held was updates in
    let after = closed_one (view_of t) _ D c.args.p c.args.fd (λ q k. rw c.set_key.ensures (seen q k))
    (record { made = refl; sizes = λ file. refl; born = λ q. rw c.set_key.ensures (has_row-with_key t.rows.items c.args.p c.args.fd None q) }) h in (
      closes_shared t.rows.items t.opened _ t.made c.args.p c.args.fd c.in_ok-key.key entry (view_of t) _ D (λ q k. refl) (λ q k. rw c.set_key.ensures refl)
          t.entered held was more updates h after,
      after,
    )

pub returns-then-opened-gt1-clause-rows : goal.returns-then-opened-gt1-clause-rows
returns-then-opened-gt1-clause-rows c = search (rules, WithKey-with_key, key_within)

pub invariant_of-self-2-clause-rowed : goal.invariant_of-self-2-clause-rowed
invariant_of-self-2-clause-rowed c = grind (arith, common_steps, AreRows-with_key)

pub invariant_of-self-2-clause-entered : goal.invariant_of-self-2-clause-entered
invariant_of-self-2-clause-entered c =
    let t = c.args.self.now in
    let entry = c.index_mut-opened.result.now in
    let was = c.index_mut-opened.ensures.value in
    rw c.set_key.ensures
    (entries_dropped t.rows.items t.opened c.remove.new.self t.made c.args.p c.args.fd c.in_ok-key.key entry t.entered (sym c.key_at.ensures ∙ c.in_ok-key.was) was
    (omega (arith, c.if-opened-gt1.false, (t.entered.each c.in_ok-key.key entry was).used)) (removed_after_write t.opened c.remove.new.self c.in_ok-key.key entry c.remove.ensures.updates))

pub returns-clause-step : goal.returns-clause-step
unfolding view_of
returns-clause-step c = λ D h.
    let t = c.args.self.now in
    let held = sym c.key_at.ensures ∙ c.in_ok-key.was in
    let entry = c.index_mut-opened.result.now in
    let was = c.index_mut-opened.ensures.value in
    let one : entry.users ≡ 1 = omega (arith, c.if-opened-gt1.false, (t.entered.each c.in_ok-key.key entry was).used) in
    let updates = removed_after_write t.opened c.remove.new.self c.in_ok-key.key entry c.remove.ensures.updates in
    let seen = seen_dropped t.rows.items t.opened c.remove.new.self t.made c.args.p c.args.fd c.in_ok-key.key entry t.entered held was one updates in
    let after = closed_one (view_of t) _ D c.args.p c.args.fd (λ q k. rw c.set_key.ensures (seen q k))
    (record { made = refl; sizes = λ file. refl; born = λ q. rw c.set_key.ensures (has_row-with_key t.rows.items c.args.p c.args.fd None q) }) h in (
      closes_last t.rows.items t.opened c.remove.new.self t.made c.args.p c.args.fd c.in_ok-key.key entry (view_of t) _ D (λ q k. refl) (λ q k. rw c.set_key.ensures refl)
          t.entered held was one updates h after,
      after,
    )

pub returns-clause-rows : goal.returns-clause-rows
returns-clause-rows c = search (rules, WithKey-with_key, key_within)
