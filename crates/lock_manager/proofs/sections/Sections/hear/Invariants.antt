use Rattle.lock_manager.proofs.Common.{◌≡◌, ◌≤◌, ℕ, take, vec_len, visit_in, refused_in}
use Rattle.lock_manager.specs.Sections.{last_refused}
use Rattle.lock_manager.proofs.sections.Sections.hear.Given as goal

-- the answers so far are the last ones to their processes
abbrev pub invariant-loop-note : goal.invariant-loop-note
invariant-loop-note l = record {
  visits : (q section : ℕ) → visit_in l.self q section ≡ visit_in l.initial.self q section;
  refused : (q : ℕ) → 1 ≤ q → q ≤ vec_len l.initial.self.seats
      → refused_in l.self q ≡ last_refused (take l.note-index l.told) q (refused_in l.initial.self q);
  all : vec_len l.self.seats ≡ vec_len l.initial.self.seats;
}
