use Rattle.lock_server.proofs.HoldingLemmas.{kept_opening}
use Rattle.lock_server.proofs.SafeLemmas.{safe_opening}
use Rattle.lock_server.proofs.server.LockServer.new.Goals as goal

pub invariant_of-result : goal.invariant_of-result
invariant_of-result c = record {
  safe = ∣ safe_opening _ _ c.new.ensures.opening ∣₁;
  swept = c.new.ensures.swept;
  kept = kept_opening _ _ _ c.new.ensures.opening c.new-2.ensures;
}
