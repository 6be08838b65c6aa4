use Rattle.fd_table.proofs.Common.{IsSome, refl, rules, view_of, limits_of, key_at}
use Rattle.fd_table.proofs.RowsLemmas.{row_from_key}
use Rattle.fd_table.proofs.EntryLemmas.{value_of_some}
use Rattle.fd_table.proofs.CallLemmas.{same, open_at_key, row_full, lowest_free}
use Rattle.fd_table.proofs.tables.Tables.dup.Goals as goal

pub returns-in_default-clause-step : goal.returns-in_default-clause-step
unfolding view_of limits_of
returns-in_default-clause-step c = λ D h.
    let t = c.args.self.now in
    let there : IsSome (key_at t.rows.items c.args.p c.args.fd) = search rules in
    let key = value_of_some (key_at t.rows.items c.args.p c.args.fd) there in (
      D,
      (
        open_at_key t.rows.items t.opened t.made c.args.p c.args.fd (view_of t) D t.entered (λ q k. refl) h there,
        row_full t.processes t.limits t.rows.items t.opened t.made c.args.p (view_of t) D t.rowed t.entered (λ q k. refl) h
            (row_from_key t.rows.items c.args.p c.args.fd key.0 key.1) c.in_default.ensures.none,
        same D,
      ),
      h,
    )

pub returns-clause-step : goal.returns-clause-step
unfolding view_of limits_of
returns-clause-step c = λ D h.
    let t = c.args.self.now in
    let there : IsSome (key_at t.rows.items c.args.p c.args.fd) = search rules in
    let open_one = value_of_some (D.description_of c.args.p c.args.fd) (open_at_key t.rows.items t.opened t.made c.args.p c.args.fd (view_of t) D t.entered (λ q k. refl) h there) in (
      _,
      (
        open_one.0,
        open_one.1,
        lowest_free t.processes t.limits t.rows.items t.opened t.made c.args.p c.in-Some.free (view_of t) D t.rowed t.entered (λ q k. refl) h c.in-Some.ensures.some,
        same _,
      ),
      c.share.ensures.step D open_one.0 h open_one.1,
    )
