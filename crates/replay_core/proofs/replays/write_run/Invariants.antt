use Rattle.replay_core.proofs.Common.{◌≡◌, ℕ, ◌+◌, List, [], Option, None, Some, process_limit, Request}
use Rattle.session_core.specs.declared.sequencer.Sequencer.{Sequencer}
use Rattle.script_core.specs.declared.reader.ScriptReader.{ScriptReader}
use Rattle.script_core.specs.ScriptView.{HandsOut, rules_in, unread_in}
use Rattle.replay_core.specs.Replays.{WritesRun}
use Rattle.replay_core.proofs.replays.write_run.Given as goal

-- these arrivals were run, and what they told was written; and this is the next one, if there is one
pub record RunsUpTo (bytes : List ℕ) (reader : ScriptReader) (next : Option (ℕ × Request)) (sequencer : Sequencer) (before after : List ℕ) : Type 0 where
  pub arrivals : List (ℕ × Request)
  pub run : WritesRun (rules_in reader) (process_limit (rules_in reader).limits) arrivals sequencer before after
  pub hands : HandsOut bytes reader arrivals next

abbrev pub invariant-loop-next : goal.invariant-loop-next
invariant-loop-next l = record {
  run : RunsUpTo l.bytes l.reader l.next l.sequencer l.fn.text.items l.text.items;
  written : l.told.items ≡ [];
}

-- how much is left, where there is a next arrival
abbrev pub left : Option (ℕ × Request) → ℕ → ℕ
left None unread = 0
left (Some arrival) unread = unread + 1

abbrev pub decreases-loop-next : goal.decreases-loop-next
decreases-loop-next l = left l.next (unread_in l.reader)
