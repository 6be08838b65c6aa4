use Rattle.fd_table.proofs.Common.{common_steps, Some, refl, sym, ◌∙◌, arith, Updates-with_value, view_of}
use Rattle.fd_table.proofs.RowsLemmas.{AreRows-with_key, key_within, has_row-with_key}
use Rattle.fd_table.proofs.ViewLemmas.{shared}
use Rattle.fd_table.proofs.EntryLemmas.{some_is}
use Rattle.fd_table.proofs.ChangeLemmas.{few_users, one_more, entries_shared, seen_shared}
use Rattle.fd_table.proofs.tables.Tables.share.Goals as goal

pub overflow_add-index_mut : goal.overflow_add-index_mut
overflow_add-index_mut c =
    let t = c.args.self.now in
    omega (arith, few_users t.processes t.limits t.rows.items t.opened t.made c.in-Some.key _ t.rowed t.entered c.index_mut.ensures.value)

pub invariant_of-self-clause-rowed : goal.invariant_of-self-clause-rowed
invariant_of-self-clause-rowed c = grind (arith, common_steps, AreRows-with_key)

pub invariant_of-self-clause-entered : goal.invariant_of-self-clause-entered
invariant_of-self-clause-entered c =
    let t = c.args.self.now in
    let was = c.index_mut.ensures.value in
    rw c.set_key.ensures
    (entries_shared t.rows.items t.opened _ t.made c.args.p c.args.to c.in-Some.key _ t.entered (key_within t.rows.items c.args.p c.args.from c.in-Some.key (sym c.key_at.ensures ∙ c.in-Some.is)).0 c.requires.within c.requires.closed was
    (Updates-with_value t.opened c.in-Some.key _ (some_is _ _ was)))

pub returns-in-Some-clause-step : goal.returns-in-Some-clause-step
unfolding view_of
returns-in-Some-clause-step c = λ D description h refers.
    let t = c.args.self.now in
    let was = c.index_mut.ensures.value in
    shared (view_of t) _ D c.args.p c.args.from c.args.to description
    (λ q k. rw c.set_key.ensures
    (seen_shared t.rows.items t.opened _ c.args.p c.args.to c.args.from c.in-Some.key _ c.requires.within (sym c.key_at.ensures ∙ c.in-Some.is) was
    (Updates-with_value t.opened c.in-Some.key (one_more c.index_mut.result.now) (some_is _ _ was)) q k))
    (record { made = refl; sizes = λ file. refl; born = λ q. rw c.set_key.ensures (has_row-with_key t.rows.items c.args.p c.args.to (Some c.in-Some.key) q) })
    refers h
