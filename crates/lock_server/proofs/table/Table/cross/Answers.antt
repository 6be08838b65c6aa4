use Rattle.lock_server.proofs.Common.{refl, [], ◌∷◌, table_state, entry_of}
use Rattle.lock_server.proofs.CrossLemmas.{Crosses-by, CrossesBy-crosses}
use Rattle.lock_server.proofs.StateLemmas.{SameFile-itself}
use Rattle.lock_server.proofs.TableMoves.{indexed, state_by, tickets_known, waiters_known, waits_in}
use Rattle.lock_server.proofs.WaiterMoves.{waiters_crossed}
use Rattle.lock_server.proofs.table.Table.cross.Goals as goal

pub invariant_of-self : goal.invariant_of-self
invariant_of-self c =
    let table = c.args.self.now in record {
      indexed = indexed table.files table.tickets c.cross.new.self (tickets_known table.files table.tickets table.waiters table.indexed)
          (waiters_crossed (waits_in table.files) table.waiters c.cross.new.self c.args.owner (waiters_known table.files table.tickets table.waiters table.indexed) c.cross.ensures);
    }

pub returns-clause-crosses : goal.returns-clause-crosses
unfolding table_state entry_of
returns-clause-crosses c =
    let table = c.args.self.now in
    let known = waiters_known table.files table.tickets table.waiters table.indexed in record {
      files = λ file. SameFile-itself _;
      grants = refl;
      crossed = Crosses-by (state_by table.files table.tickets table.waiters) (state_by table.files table.tickets c.cross.new.self) table.waiters c.cross.new.self (c.args.owner ∷ []) (λ owner. refl) (λ owner. refl)
          (waiters_crossed (waits_in table.files) table.waiters c.cross.new.self c.args.owner known c.cross.ensures)
          (CrossesBy-crosses (waits_in table.files) table.waiters known c.cross.new.self c.args.owner c.cross.ensures);
    }
