use Rattle.session_core.proofs.Common.{◌≡◌, ◌≤◌, ℕ, drop, answers_in, latest, processes_in, last_of}
use Rattle.session_core.proofs.answers.LastAnswers.tell.Given as goal

-- with the answers among the notes that are left, it comes to what all of them make of what was known
abbrev pub invariant-loop-note : goal.invariant-loop-note
invariant-loop-note l = record {
  processes : processes_in l.self ≡ processes_in l.fn.self;
  latest_is : (p : ℕ) → 1 ≤ p → p ≤ processes_in l.fn.self →
      latest (last_of l.self p) (answers_in p 0 (drop l.note-index l.notes)) ≡ latest (last_of l.fn.self p) (answers_in p 0 l.notes);
}
