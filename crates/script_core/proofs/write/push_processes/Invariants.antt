use Rattle.script_core.proofs.Common.{◌≡◌, ℕ, List, ◌++◌, state_at, Event, manager_in, HasTold, Extends, process_lines, AreCounts}
use Rattle.script_core.proofs.write.push_processes.Given as goal

abbrev pub invariant-loop-index : goal.invariant-loop-index
invariant-loop-index l = record {
  extends : Extends l.fn.text.items l.text.items;
  written : (journal : List Event) (counts : ℕ → ℕ) → HasTold l.sequencer journal → AreCounts l.sent counts
      → l.text.items ≡ l.fn.text.items ++ process_lines (state_at (manager_in l.sequencer)) journal counts 1 l.index;
}
