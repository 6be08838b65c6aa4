use Rattle.lock_server.proofs.Common.{ℕ, ◌≡◌, ◌↔◌, sym, ap, subst, None, FileState, entry_of, on_ok_weaker, state_at, table_state}
use Rattle.std.specs.Prelude.{IfOk, IsFalse}
use Rattle.std.proofs.lemmas.Result.{on_err_weaker}
use Rattle.lock_server.proofs.IndexLemmas.{file_written}
use Rattle.lock_server.proofs.EntryMoves.{kept_indexed, uncrossed_by}
use Rattle.lock_server.proofs.TableMoves.{same_by}
use Rattle.lock_server.proofs.table.Table.set_there.Goals as goal

pub invariant_of-self : goal.invariant_of-self
invariant_of-self c =
    let table = c.args.self.now in
    let after = c.set.new.self in
    let written = file_written table.files (c.get_mut.follows.lender after) c.args.file _ c.unwrap-locks.result after c.get_mut.ensures.value c.unwrap-locks.ensures (c.get_mut.follows.holds after) in record {
      indexed = kept_indexed table.files _ table.tickets table.waiters c.args.file c.unwrap-locks.result.now after written.0 written.1 table.indexed c.set.ensures.waits;
    }

pub returns-clause-ok : goal.returns-clause-ok
unfolding table_state entry_of
returns-clause-ok c =
    let table = c.args.self.now in
    let after = c.set.new.self in
    let written = file_written table.files (c.get_mut.follows.lender after) c.args.file _ c.unwrap-locks.result after c.get_mut.ensures.value c.unwrap-locks.ensures (c.get_mut.follows.holds after) in
    on_ok_weaker c.set.result
    (uncrossed_by table.files _ table.tickets table.waiters c.args.file c.unwrap-locks.result.now after written.0 written.1 table.indexed c.set.ensures.waits c.args.owner c.args.span c.args.mode)
    c.set.ensures.ok

pub returns-clause-err : goal.returns-clause-err
unfolding table_state entry_of
returns-clause-err c =
    let table = c.args.self.now in
    let after = c.set.new.self in
    let written = file_written table.files (c.get_mut.follows.lender after) c.args.file _ c.unwrap-locks.result after c.get_mut.ensures.value c.unwrap-locks.ensures (c.get_mut.follows.holds after) in
    on_err_weaker c.set.result (same_by table.files _ table.tickets table.waiters c.args.file c.unwrap-locks.result.now after written.0 written.1) c.set.ensures.err

pub returns-clause-had : goal.returns-clause-had
unfolding table_state entry_of
returns-clause-had c =
    let table = c.args.self.now in
    let after = c.set.new.self in
    let written = file_written table.files (c.get_mut.follows.lender after) c.args.file _ c.unwrap-locks.result after c.get_mut.ensures.value c.unwrap-locks.ensures (c.get_mut.follows.holds after) in
    subst (λ (F : FileState). IfOk c.set.result (λ had. IsFalse had ↔ ((byte : ℕ) → F.bytes c.args.owner byte ≡ None))) (sym (ap state_at written.0)) c.set.ensures.had
