use Rattle.lock_server.proofs.Common.{through_at, table_state}
use Rattle.lock_server.proofs.HoldingLemmas.{kept_fetched}
use Rattle.lock_server.proofs.ServerLemmas.{safe_after_fetch}
use Rattle.lock_server.proofs.SweptLemmas.{all_swept}
use Rattle.lock_server.proofs.server.LockServer.next_grant.Goals as goal

pub invariant_of-self : goal.invariant_of-self
invariant_of-self c = record {
  safe = safe_after_fetch _ c.args.self.now.table c.next_grant.new.self c.next_grant.result c.args.self.now.safe c.next_grant.ensures.fetched;
  swept = all_swept c.args.self.now.table c.next_grant.new.self c.next_grant.ensures.entries c.args.self.now.swept;
  kept = kept_fetched c.args.self.now.holdings (through_at c.args.self.now.openings) (table_state c.args.self.now.table) c.next_grant.result (table_state c.next_grant.new.self)
      c.next_grant.ensures.fetched c.args.self.now.kept;
}
