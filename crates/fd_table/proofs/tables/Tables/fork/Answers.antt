use Rattle.fd_table.proofs.Common.{common_steps, ◌≡◌, ◌<◌, List, false, length, set, refl, sym, ap, subst, ◌∙◌, arith, Keys, row_at, has_row, AreEntries, view_of, seen_in}
use Rattle.fd_table.specs.Descriptors.{with_child}
use Rattle.fd_table.specs.TablesView.{processes_of, IsSeen}
use Rattle.fd_table.proofs.RowsLemmas.{row-short}
use Rattle.fd_table.proofs.ViewLemmas.{forked}
use Rattle.std.specs.Prelude.{slice_index_or, None}
use Rattle.fd_table.proofs.EntryLemmas.{seen_by}
use Rattle.fd_table.proofs.CallLemmas.{same}
use Rattle.fd_table.proofs.ChangeLemmas.{few_users}
use Rattle.fd_table.proofs.ForkLemmas.{AreCounted, row_of_alive, row_of_unborn, row_read, AreRows-forked, entries_forked, seen_forked, has_row-forked}
use Rattle.fd_table.proofs.tables.Tables.fork.Goals as goal

pub add_users-requires : goal.add_users-requires
unfolding view_of
add_users-requires c = λ key entry is.
    let t = c.args.self.now in
    let row : c.in_ok-row.row ≡ row_at t.rows.items c.args.p = row_read t.rows.items c.from.result c.args.p c.in_ok-row.row c.index.result.now c.from.ensures (row_of_alive t.rows.items c.args.p c.requires) c.index.ensures c.in_ok-row.ensures in
    omega (arith, few_users t.processes t.limits t.rows.items t.opened t.made key entry t.rowed t.entered is, ap length row, row-short t.processes t.limits t.rows.items t.rowed c.args.p)

pub invariant_of-self-clause-rowed : goal.invariant_of-self-clause-rowed
unfolding view_of
invariant_of-self-clause-rowed c = grind (arith, common_steps, row_read, row_of_alive, AreRows-forked)

pub invariant_of-self-clause-entered : goal.invariant_of-self-clause-entered
unfolding view_of
invariant_of-self-clause-entered c =
    let t = c.args.self.now in
    let unborn : has_row t.rows.items c.args.child ≡ false = sym c.born.ensures ∙ c.if-born.false in
    let row : c.in_ok-row.row ≡ row_at t.rows.items c.args.p = row_read t.rows.items c.from.result c.args.p c.in_ok-row.row c.index.result.now c.from.ensures (row_of_alive t.rows.items c.args.p c.requires) c.index.ensures c.in_ok-row.ensures in
    let after : set t.rows.items c.from-2.result c.in_ok-row.row ≡ set t.rows.items c.args.child (row_at t.rows.items c.args.p) =
    ap (λ place. set t.rows.items place c.in_ok-row.row) c.from-2.ensures ∙ ap (set t.rows.items c.args.child) row in
    subst (λ (rows : List Keys). AreEntries rows c.add_users.new.opened t.made) (sym after)
    (entries_forked t.rows.items t.opened c.add_users.new.opened t.made c.args.p c.args.child (omega (arith, t.rowed.count)) (row_of_unborn t.rows.items c.args.child unborn)
    (subst (λ (keys : Keys). AreCounted t.opened c.add_users.new.opened keys) row c.add_users.ensures) t.entered)

pub returns-clause-step : goal.returns-clause-step
unfolding view_of processes_of
returns-clause-step c = λ n D h.
    let t = c.args.self.now in
    let unborn : has_row t.rows.items c.args.child ≡ false = sym c.born.ensures ∙ c.if-born.false in
    let row : c.in_ok-row.row ≡ row_at t.rows.items c.args.p = row_read t.rows.items c.from.result c.args.p c.in_ok-row.row c.index.result.now c.from.ensures (row_of_alive t.rows.items c.args.p c.requires) c.index.ensures c.in_ok-row.ensures in
    let after : set t.rows.items c.from-2.result c.in_ok-row.row ≡ set t.rows.items c.args.child (row_at t.rows.items c.args.p) =
    ap (λ place. set t.rows.items place c.in_ok-row.row) c.from-2.ensures ∙ ap (set t.rows.items c.args.child) row in
    let inside : c.args.child < length t.rows.items = omega (arith, t.rowed.count) in (
      with_child D c.args.p c.args.child,
      ((omega arith, omega arith, h.ever_alive c.args.child ∙ unborn), same (with_child D c.args.p c.args.child)),
      forked (view_of t) _ D c.args.p c.args.child
          (λ q k. ap (λ (rows : List Keys). seen_in rows c.add_users.new.opened q k) after
          ∙ seen_forked t.rows.items t.opened c.add_users.new.opened c.args.p c.args.child inside (subst (λ (keys : Keys). AreCounted t.opened c.add_users.new.opened keys) row c.add_users.ensures) q k)
          refl (λ x. refl)
          (λ q. ap (λ (rows : List Keys). has_row rows q) after ∙ has_row-forked t.rows.items c.args.p c.args.child inside c.requires q) h,
    )

pub returns-clause-unborn : goal.returns-clause-unborn
unfolding view_of
returns-clause-unborn c = λ D h fd.
    let t = c.args.self.now in
    let unborn : has_row t.rows.items c.args.child ≡ false = sym c.born.ensures ∙ c.if-born.false in
    subst (λ (row : Keys). IsSeen (seen_by t.opened (slice_index_or row fd None)) D c.args.child fd) (row_of_unborn t.rows.items c.args.child unborn) (h.seen c.args.child fd)
