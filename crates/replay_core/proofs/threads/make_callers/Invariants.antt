use Rattle.replay_core.proofs.Common.{◌≡◌, ◌++◌, map, vec_len, into_iter_items, Caller, AreOf}
use Rattle.replay_core.proofs.threads.make_callers.Given as goal

abbrev pub invariant-loop-client : goal.invariant-loop-client
invariant-loop-client l = record {
  all : map (λ (caller : Caller). caller.client) l.callers.items ++ into_iter_items l.client-iterator ≡ l.fn.clients.items;
  count : l.process ≡ vec_len l.callers;
  each : AreOf l.fn.arrivals l.callers.items;
}
