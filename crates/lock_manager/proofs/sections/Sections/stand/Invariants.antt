use Rattle.lock_manager.proofs.Common.{◌≡◌, ℕ, nat_le, not, if◌then◌else◌, false, None, vec_len, state_numbered, visit_in, refused_in}
use Rattle.lock_manager.specs.Sections.{has_ended, is_live}
use Rattle.lock_manager.proofs.sections.Sections.stand.Given as goal

-- the processes up to here are marked, and the others are as they were
abbrev pub invariant-loop-place : goal.invariant-loop-place
invariant-loop-place l = record {
  visits : (q section : ℕ) → visit_in l.self q section
      ≡ (if nat_le q l.place then (if has_ended (state_numbered l.states q) then None else visit_in l.initial.self q section) else visit_in l.initial.self q section);
  refused : (q : ℕ) → refused_in l.self q
      ≡ (if nat_le q l.place then (if not (is_live (state_numbered l.states q)) then false else refused_in l.initial.self q) else refused_in l.initial.self q);
  all : vec_len l.self.seats ≡ vec_len l.initial.self.seats;
}
