use Rattle.session_core.proofs.Common.{◌≡◌, ◌+◌, drop, answers_from, answers_to, reply_among}
use Rattle.session_core.proofs.session.Session.find_answer.Given as goal

-- what isn't found in the entries so far is what the others say
abbrev pub invariant-loop-entry : goal.invariant-loop-entry
invariant-loop-entry l =
    reply_among l.n (answers_to l.p l.entry-items)
    ≡ reply_among l.n (answers_from l.p (l.entry-index + 1) (drop l.entry-index l.entry-items))
