use Rattle.lock_server.proofs.Common.{arith, ℕ, ◌≡◌, ◌≢◌, ◌∙◌, inl, inr, refl, sym, ap, Some, None, common_steps, Reserved, Waits, Granted, entry_of, table_state, place_at}
use Rattle.lock_server.proofs.IndexLemmas.{file_written}
use Rattle.lock_server.proofs.StateLemmas.{SameFile-itself}
use Rattle.lock_server.proofs.EntryMoves.{leaves_by, left_changes, left_indexed, lent_of_wait, no_wait, not_pending, some_unless, wait_of_ticket}
use Rattle.lock_server.proofs.table.Table.cancel.Goals as goal

pub returns-in_default : goal.returns-in_default
returns-in_default c = record {
  some = tt;
  wait = tt;
  none = (
    not_pending c.args.self.now c.args.ticket (λ file is. (let h : None ≡ Some (Waits file) = sym c.in_default.is ∙ c.place.ensures ∙ is in cc)),
    record { files = λ file. SameFile-itself _; grants = refl; crossed = λ owner. refl },
  );
  others = tt;
  entries = λ file. refl;
}

pub returns-in-Reserved : goal.returns-in-Reserved
returns-in-Reserved c =
    let told : Some c.in-Some.place ≡ place_at c.args.self.now.tickets c.args.ticket = sym c.in-Some.is ∙ c.place.ensures in
    let none : (file : ℕ) → place_at c.args.self.now.tickets c.args.ticket ≢ Some (Waits file) = λ file is. elim c.in-Reserved.is [
      | inl reserved ↦ (let h : Some Reserved ≡ Some (Waits file) = ap Some (sym reserved) ∙ told ∙ is in cc)
      | inr granted ↦ (let h : Some Granted ≡ Some (Waits file) = ap Some (sym granted) ∙ told ∙ is in cc)
    ] in record {
      some = tt;
      wait = tt;
      none = (not_pending c.args.self.now c.args.ticket none, record { files = λ file. SameFile-itself _; grants = refl; crossed = λ owner. refl });
      others = tt;
      entries = λ file. refl;
    }

pub unwrap-locks-requires : goal.unwrap-locks-requires
unwrap-locks-requires c = grind (arith, common_steps, lent_of_wait)

pub unwrap-wait-requires : goal.unwrap-wait-requires
unwrap-wait-requires c =
    let table = c.args.self.now in
    let after = c.cancel.new.self in
    let waits : place_at table.tickets c.args.ticket ≡ Some (Waits c.in-Waits.file) =
    sym c.place.ensures ∙ c.in-Some.is ∙ ap Some c.in-Waits.is in
    let written = file_written table.files (c.get_mut.follows.lender after) c.in-Waits.file _ c.unwrap-locks.result after c.get_mut.ensures.value c.unwrap-locks.ensures (c.get_mut.follows.holds after) in
    some_unless c.cancel.result c.cancel.ensures.none
    (λ none. no_wait c.args.ticket _ none.0 (wait_of_ticket table c.args.ticket c.in-Waits.file waits c.unwrap-locks.result.now written.0))

pub invariant_of-self : goal.invariant_of-self
invariant_of-self c =
    let table = c.args.self.now in
    let after = c.cancel.new.self in
    let left = rw c.unwrap-wait.ensures at c.cancel.ensures.some in
    let written = file_written table.files (c.get_mut.follows.lender after) c.in-Waits.file _ c.unwrap-locks.result after c.get_mut.ensures.value c.unwrap-locks.ensures (c.get_mut.follows.holds after) in record {
      indexed = left_indexed table.files (c.get_mut.follows.lender after) table.tickets table.waiters c.in-Waits.file c.unwrap-locks.result.now after written.0 written.1 table.indexed
          c.forget.new.self c.end_for.new.self c.unwrap-wait.result c.forget.ensures.grants left.1 left.2 left.3 c.forget.ensures.place c.end_for.ensures;
    }

pub returns-clause-some : goal.returns-clause-some
unfolding table_state entry_of
returns-clause-some c =
    let table = c.args.self.now in
    let after = c.cancel.new.self in
    let left = rw c.unwrap-wait.ensures at c.cancel.ensures.some in
    let written = file_written table.files (c.get_mut.follows.lender after) c.in-Waits.file _ c.unwrap-locks.result after c.get_mut.ensures.value c.unwrap-locks.ensures (c.get_mut.follows.holds after) in record {
      before = left.1;
      wait = c.unwrap-wait.result;
      after = left.2;
      of_ticket = left.0;
      leaves = leaves_by table.files (c.get_mut.follows.lender after) table.tickets table.waiters c.in-Waits.file c.unwrap-locks.result.now after written.0 written.1 table.indexed
          c.forget.new.self c.end_for.new.self c.unwrap-wait.result c.forget.ensures.grants left.1 left.2 left.3 c.forget.ensures.place c.end_for.ensures;
      changes = left_changes table.files (c.get_mut.follows.lender after) table.tickets table.waiters c.in-Waits.file c.unwrap-locks.result.now after written.0 written.1 table.indexed
          c.forget.new.self c.end_for.new.self c.unwrap-wait.result c.forget.ensures.grants left.1 left.2 left.3 c.forget.ensures.place c.end_for.ensures;
    }

pub returns-clause-wait : goal.returns-clause-wait
unfolding table_state entry_of
returns-clause-wait c =
    let table = c.args.self.now in
    let after = c.cancel.new.self in
    let left = rw c.unwrap-wait.ensures at c.cancel.ensures.some in
    let written = file_written table.files (c.get_mut.follows.lender after) c.in-Waits.file _ c.unwrap-locks.result after c.get_mut.ensures.value c.unwrap-locks.ensures (c.get_mut.follows.holds after) in (
      left.0,
      left.1,
      left.2,
      leaves_by table.files (c.get_mut.follows.lender after) table.tickets table.waiters c.in-Waits.file c.unwrap-locks.result.now after written.0 written.1 table.indexed
          c.forget.new.self c.end_for.new.self c.unwrap-wait.result c.forget.ensures.grants left.1 left.2 left.3 c.forget.ensures.place c.end_for.ensures,
    )
