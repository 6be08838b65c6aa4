use Rattle.lock_server.proofs.Common.{◌∙◌, ap, subst, sym, option_copied_mut, Files, is_within, entry_of, table_state}
use Rattle.lock_server.specs.TableView.{StripsLocksOn}
use Rattle.lock_server.proofs.ClientLemmas.{strips_by, strips_nothing}
use Rattle.lock_server.proofs.EntryMoves.{kept_indexed}
use Rattle.lock_server.proofs.IndexLemmas.{file_written}
use Rattle.lock_server.proofs.TableMoves.{state_by}
use Rattle.lock_server.proofs.table.Table.strip_locks.Goals as goal

pub invariant_of-self : goal.invariant_of-self
invariant_of-self c =
    let table = c.args.self.now in
    let after = c.strip_locks.new.self in
    let written = file_written table.files (c.get_mut.follows.lender after) c.args.file _ c.in-Some.locks after c.get_mut.ensures.value c.in-Some.is (c.get_mut.follows.holds after) in record {
      indexed = kept_indexed table.files _ table.tickets table.waiters c.args.file c.in-Some.locks.now after written.0 written.1 table.indexed c.strip_locks.ensures.waits;
    }

pub returns-in-Some-clause-strips : goal.returns-in-Some-clause-strips
unfolding table_state entry_of
returns-in-Some-clause-strips c =
    let table = c.args.self.now in
    let after = c.strip_locks.new.self in
    let written = file_written table.files (c.get_mut.follows.lender after) c.args.file _ c.in-Some.locks after c.get_mut.ensures.value c.in-Some.is (c.get_mut.follows.holds after) in
    strips_by table.files _ table.tickets table.waiters c.args.file table.indexed c.in-Some.locks.now after written.0 written.1 c.strip_locks.ensures.waits
    (is_within c.args.owners.first c.args.owners.last) c.strip_locks.ensures.strips

pub returns-in_default-clause-strips : goal.returns-in_default-clause-strips
unfolding table_state entry_of
returns-in_default-clause-strips c =
    let table = c.args.self.now in
    subst (λ (m : Files). StripsLocksOn (state_by table.files table.tickets table.waiters) c.args.file (is_within c.args.owners.first c.args.owners.last) (state_by m table.tickets table.waiters))
    (sym c.get_mut.follows.holds-at-none)
    (strips_nothing table.files table.tickets table.waiters c.args.file (is_within c.args.owners.first c.args.owners.last) table.indexed (sym c.get_mut.ensures.value ∙ ap option_copied_mut c.in_default.is))
