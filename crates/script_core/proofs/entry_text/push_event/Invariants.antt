use Rattle.script_core.proofs.Common.{◌≡◌, ◌++◌, codes, flat_map, take, request_text, tag, note_text}
use Rattle.script_core.proofs.entry_text.push_event.Given as goal

abbrev pub invariant-loop-note : goal.invariant-loop-note
invariant-loop-note l =
    l.text.items ≡ l.fn.text.items ++ (tag l.entry.p l.entry.n ++ codes " " ++ request_text l.entry.request ++ flat_map note_text (take l.note-index l.notes))
