use Rattle.replay_core.proofs.Common.{◌≡◌, length, vec_len, requests_sent, AreCounts}
use Rattle.replay_core.proofs.replays.sent_counts.Given as goal

abbrev pub invariant-loop-index : goal.invariant-loop-index
invariant-loop-index l = (vec_len l.counts ≡ l.index) × AreCounts l.counts.items (λ p. length (requests_sent p l.fn.arrivals))
