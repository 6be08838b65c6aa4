use Rattle.lock_server.proofs.Common.{◌≤◌}
use Rattle.lock_server.proofs.holdings.Holdings.are_few.Given as goal

abbrev pub invariant-loop-owner : goal.invariant-loop-owner
invariant-loop-owner l = record {
  known : l.known ≤ l.pairs;
  pairs : l.pairs ≤ l.files;
}
