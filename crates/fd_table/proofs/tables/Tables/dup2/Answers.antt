use Rattle.fd_table.proofs.Common.{◌≢◌, IsSome, refl, sym, ◌∙◌, arith, rules, Descriptors, with_descriptor, key_at, without_one, view_of, limits_of}
use Rattle.fd_table.proofs.ViewLemmas.{stands_for_same}
use Rattle.fd_table.proofs.EntryLemmas.{value_of_some}
use Rattle.fd_table.proofs.CallLemmas.{open_at_key}
use Rattle.fd_table.proofs.ReleasedLemmas.{without_one-other, moves_onto_itself, moves_elsewhere, moved_after_close}
use Rattle.fd_table.proofs.tables.Tables.dup2.Goals as goal

pub returns-then-to-fd-clause-step : goal.returns-then-to-fd-clause-step
unfolding view_of limits_of
returns-then-to-fd-clause-step c = λ D h.
    let t = c.args.self.now in
    let there : IsSome (key_at t.rows.items c.args.p c.args.fd) = search rules in
    let refers = value_of_some (D.description_of c.args.p c.args.fd) (open_at_key t.rows.items t.opened t.made c.args.p c.args.fd (view_of t) D t.entered (λ q k. refl) h there) in
    (D, (refers.0, refers.1, omega arith, refl, moves_onto_itself D c.args.p c.args.fd c.args.to refers.0 c.of.result c.if-to-fd.true c.of.ensures), h)

pub returns-clause-step : goal.returns-clause-step
unfolding view_of limits_of
returns-clause-step c = λ D h.
    let t = c.args.self.now in
    let there : IsSome (key_at t.rows.items c.args.p c.args.fd) = search rules in
    let refers = value_of_some (D.description_of c.args.p c.args.fd) (open_at_key t.rows.items t.opened t.made c.args.p c.args.fd (view_of t) D t.entered (λ q k. refl) h there) in
    let apart : c.args.fd ≢ c.args.to = λ same. c.if-to-fd.false (sym same) in
    let step = c.close_one.ensures.step D h in
    let between : Descriptors = without_one D c.args.p c.args.to in
    let after : Descriptors = with_descriptor D c.args.p c.args.to refers.0 in
    let stands = c.share.ensures.step between refers.0 step.1 (without_one-other D c.args.p c.args.to c.args.fd apart ∙ refers.1) in (
      after,
      (
        refers.0,
        refers.1,
        omega arith,
        refl,
        moves_elsewhere D c.args.p c.args.fd c.args.to refers.0 c.close_one.result c.of-released.result refers.1 apart step.0 c.of-released.ensures,
      ),
      stands_for_same (view_of c.share.new.self) (with_descriptor between c.args.p c.args.to refers.0) after (moved_after_close D c.args.p c.args.to refers.0) stands,
    )
