use Rattle.session_core.proofs.Common.{◌≡◌, drop, answers_in, reply_among}
use Rattle.session_core.proofs.entry.find_reply.Given as goal

-- what isn't found among the notes so far is what the others say
abbrev pub invariant-loop-note : goal.invariant-loop-note
invariant-loop-note l = reply_among l.n (answers_in l.p 0 l.notes) ≡ reply_among l.n (answers_in l.p 0 (drop l.note-index l.notes))
