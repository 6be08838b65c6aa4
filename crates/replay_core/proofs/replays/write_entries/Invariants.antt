use Rattle.replay_core.proofs.Common.{◌≡◌, ◌++◌, flat_map, take, entry_line}
use Rattle.replay_core.proofs.replays.write_entries.Given as goal

abbrev pub invariant-loop-entry : goal.invariant-loop-entry
invariant-loop-entry l = l.text.items ≡ l.fn.text.items ++ flat_map entry_line (take l.entry-index l.entries)
