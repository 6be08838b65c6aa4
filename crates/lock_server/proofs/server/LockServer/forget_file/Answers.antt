use Rattle.lock_server.proofs.Common.{∥∥₁_map, through_at, table_state}
use Rattle.lock_server.proofs.HoldingLemmas.{kept_file_forgotten}
use Rattle.lock_server.proofs.SafeClientLemmas.{safe_file_forgotten}
use Rattle.lock_server.proofs.SweptLemmas.{all_swept_but}
use Rattle.lock_server.proofs.TakenLemmas.{tickets_once}
use Rattle.lock_server.proofs.server.LockServer.forget_file.Goals as goal

pub invariant_of-self : goal.invariant_of-self
invariant_of-self c =
    let old = c.args.self.now.table in
    let new = c.forget_file.new.self in
    record {
      safe = ∥∥₁_map c.args.self.now.safe (λ safe.
          safe_file_forgotten _ (table_state old) c.args.file (table_state new) safe c.forget_file.ensures.forgets (tickets_once new));
      swept = all_swept_but old new c.args.file c.forget_file.ensures.others (λ idle. c.forget_file.ensures.gone) c.args.self.now.swept;
      kept = kept_file_forgotten c.args.self.now.holdings c.leave_file.new.self (table_state old) (table_state new) (through_at c.args.self.now.openings)
          (through_at c.forget_file-2.new.self) c.args.file c.leave_file.ensures c.forget_file.ensures.forgets c.forget_file-2.ensures c.args.self.now.kept;
    }
