use Rattle.fd_table.proofs.Common.{rules, ◌+◌, Some, refl, ap, inl, arith, common_steps, Slab, Opened, view_of, limits_of, seen_in}
use Rattle.fd_table.proofs.RowsLemmas.{AreRows-with_key, row_inside, has_row-with_key}
use Rattle.fd_table.proofs.ViewLemmas.{opened_new, stands_for_view}
use Rattle.fd_table.proofs.ChangeLemmas.{new_entry, entries_opened, seen_opened}
use Rattle.fd_table.proofs.CallLemmas.{same, row_full, lowest_free}
use Rattle.fd_table.proofs.tables.Tables.open_file.Goals as goal

pub returns-in_default-clause-step : goal.returns-in_default-clause-step
unfolding view_of limits_of
returns-in_default-clause-step c = λ n D h.
    let t = c.args.self.now in (
      D,
      (
        omega arith,
        inl (row_full t.processes t.limits t.rows.items t.opened t.made c.args.p (view_of t) D t.rowed t.entered (λ q k. refl) h c.requires c.in_default.ensures.none),
        same D,
      ),
      h,
    )

pub invariant_of-self-2-clause-rowed : goal.invariant_of-self-2-clause-rowed
invariant_of-self-2-clause-rowed c = grind (arith, common_steps, AreRows-with_key)

pub invariant_of-self-2-clause-entered : goal.invariant_of-self-2-clause-entered
invariant_of-self-2-clause-entered c = search (rules, entries_opened, row_inside)

pub returns-clause-step : goal.returns-clause-step
unfolding view_of limits_of
returns-clause-step c = λ n D h.
    let t = c.args.self.now in
    let least = c.in-Some.ensures.some in (
      _,
      (
        omega arith,
        omega (arith, h.made),
        lowest_free t.processes t.limits t.rows.items t.opened t.made c.args.p c.in-Some.fd (view_of t) D t.rowed t.entered (λ q k. refl) h least,
        same _,
      ),
      opened_new (view_of t) _ D c.args.p c.in-Some.fd c.args.file c.args.access
          (λ q k. rw c.set_key.ensures
          (seen_opened t.rows.items t.opened c.insert.new.self t.made c.args.p c.in-Some.fd c.in_ok-key.key (new_entry (t.made + 1) c.args.file c.args.access) t.entered
          least.within c.in_ok-key.ensures.was_vacant c.in_ok-key.ensures.updates q k))
          refl (λ x. refl) (λ q. rw c.set_key.ensures (has_row-with_key t.rows.items c.args.p c.in-Some.fd (Some c.in_ok-key.key) q)) h,
    )

pub returns-in_err-key-clause-memory : goal.returns-in_err-key-clause-memory
unfolding view_of limits_of
returns-in_err-key-clause-memory c = λ n D h.
    let t = c.args.self.now in
    let least = c.in-Some.ensures.some in (
      (
        omega arith,
        omega (arith, h.made),
        c.in-Some.fd,
        lowest_free t.processes t.limits t.rows.items t.opened t.made c.args.p c.in-Some.fd (view_of t) D t.rowed t.entered (λ q k. refl) h least,
      ),
      stands_for_view (view_of t) _ D (λ q k. ap (λ (s : Slab Opened). seen_in t.rows.items s q k) c.in_err-key.ensures.err)
          (record { made = refl; sizes = λ file. refl; born = λ q. refl }) h,
    )
