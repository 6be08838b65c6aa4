use Rattle.lock_server.proofs.Common.{◌≡◌, ◌∙◌, sym, subst, true, false, Option, Some, None, is_some, Mode, entry_in, entry_of, table_state}
use Rattle.std.proofs.lemmas.Bool.{false≢true}
use Rattle.lock_server.specs.Calls.{SetsUncrossed}
use Rattle.lock_server.specs.TableView.{HasEntry}
use Rattle.lock_server.proofs.EntryMoves.{none_from_test, on_err, some_from_test, unlocks_nothing}
use Rattle.lock_server.proofs.table.Table.set_uncrossed.Goals.{else-is_none-via-then-is_none+else-not-contains_key, else-is_none-via-else-is_none}
use Rattle.lock_server.proofs.table.Table.set_uncrossed.Goals as goal

pub returns-then-not-contains_key-clause-ok : goal.returns-then-not-contains_key-clause-ok
unfolding table_state entry_of
returns-then-not-contains_key-clause-ok c =
    let table = c.args.self.now in
    let found = entry_in table.files c.args.file in
    let test : is_some found ≡ false = sym c.if-not-contains_key.ensures in
    let unlock : is_some c.args.mode ≡ false = c.if-is_none.ensures in
    subst (λ (mode : Option Mode). SetsUncrossed (table_state table) c.args.file c.args.owner c.args.span mode (table_state table)) (sym (none_from_test c.args.mode unlock))
    (unlocks_nothing table.files table.tickets table.waiters c.args.file c.args.owner c.args.span (none_from_test found test))

pub returns-in_err-open-clause-unlock : goal.returns-in_err-open-clause-unlock
unfolding entry_of
returns-in_err-open-clause-unlock c unlock whole =
    let table = c.args.self.now in
    let found = entry_in table.files c.args.file in
    let there : HasEntry table c.args.file = elim c.else-is_none.branch [
      | else-is_none-via-then-is_none+else-not-contains_key w ↦
          let test : is_some found ≡ true = sym w.if-not-contains_key.ensures in
          let entry = some_from_test found test in record { entry = entry.0; is = entry.1 }
      | else-is_none-via-else-is_none w ↦
          let test : is_some c.args.mode ≡ true = w.if-is_none.ensures in
          let mode = some_from_test c.args.mode test in absurd (let none : None ≡ Some mode.0 = sym unlock ∙ mode.1 in cc)
    ] in
    absurd (false≢true (c.in_err-open.ensures.there there))

pub returns-in_err-open-clause-swept : goal.returns-in_err-open-clause-swept
returns-in_err-open-clause-swept c = on_err c.from_residual.result _ c.in_err-open.ensures.swept
