use Rattle.replay_core.proofs.Common.{◌≡◌, List, length, vec_len, Event, AreCounts}
use Rattle.session_core.specs.SequencerView.{sent_by, HasTold}
use Rattle.replay_core.proofs.replays.counts_sent.Given as goal

abbrev pub invariant-loop-index : goal.invariant-loop-index
invariant-loop-index l = record {
  many : vec_len l.counts ≡ l.index;
  counts : (journal : List Event) → HasTold l.sequencer journal → AreCounts l.counts.items (λ p. length (sent_by l.sequencer journal p));
}
