use Rattle.lock_server.proofs.Common.{∥∥₁_map, through_at, table_state}
use Rattle.lock_server.proofs.HoldingLemmas.{kept_owners_forgotten}
use Rattle.lock_server.proofs.KnownLemmas.{settled_known}
use Rattle.lock_server.proofs.SafeClientLemmas.{safe_owners_forgotten}
use Rattle.lock_server.proofs.TakenLemmas.{tickets_once}
use Rattle.lock_server.proofs.server.LockServer.forget_owners.Goals as goal

pub forget_owners-requires-clause-kept : goal.forget_owners-requires-clause-kept
forget_owners-requires-clause-kept c = record { nothing = λ owner file unkept. (c.args.self.now.kept.gone owner file unkept).nothing }

pub forget_owners-requires-clause-settled : goal.forget_owners-requires-clause-settled
forget_owners-requires-clause-settled c file = settled_known _ c.args.self.now.table file c.args.self.now.safe

pub leave_all-requires : goal.leave_all-requires
leave_all-requires c owner file unkept = (c.args.self.now.kept.gone owner file unkept).unseen

pub invariant_of-self : goal.invariant_of-self
invariant_of-self c =
    let old = c.args.self.now.table in
    let new = c.forget_owners.new.self in
    record {
      safe = ∥∥₁_map c.args.self.now.safe (λ safe.
          safe_owners_forgotten _ (table_state old) c.args.first c.args.last (table_state new) safe c.forget_owners.ensures.forgets (tickets_once new));
      swept = c.forget_owners.ensures.swept c.args.self.now.swept;
      kept = kept_owners_forgotten _ c.args.self.now.holdings c.leave_all.new.self (table_state old) (table_state new) (through_at c.args.self.now.openings)
          (through_at c.leave_all.new.openings) c.args.first c.args.last c.forget_owners.ensures.forgets c.leave_all.ensures.notes c.leave_all.ensures.gone c.leave_all.ensures.others
          c.args.self.now.kept;
    }
