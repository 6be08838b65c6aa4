-- What is known of tickets and of owners, where a file changes: for `Table::cancel`, `Table::dismiss_one`, `Table::give_back_place` and others.
use Rattle.lock_server.proofs.Common.{arith, ℕ, ◌≡◌, ◌≢◌, ◌==◌, inl, inr, sym, refl, subst, true, Bool, Option, Some, List, [], ◌∷◌, Any, common_steps, ◌&&◌, AllPairs, MutBor, option_copied_mut, cases_Bool, cases_eq, eqb-true, Pending, LockFile, Files, Tickets, Waiters, FileState, SameFile, file_state, PutsEntry, entry_in, IsDetectedOf, IsIndexed, state_in, detected_waits}
use Rattle.std.specs.Option.{option_map}
use Rattle.lock_server.proofs.ListLemmas.{Any-here, Any-there}

-- the entry that was lent, and what a write through it puts there
pub file_written : (old new : Files) (file : ℕ) (lent : Option (MutBor LockFile)) (locks : MutBor LockFile) (after : LockFile)
    → option_copied_mut lent ≡ entry_in old file → lent ≡ Some locks
    → PutsEntry old new file (option_map (λ _. after) (entry_in old file)) → (entry_in old file ≡ Some locks.now) × PutsEntry old new file (Some after)
file_written old new file lent locks after value is writes = grind (arith, common_steps)

-- a file that keeps its waits leaves those of every file
pub waits_kept : (old new : Files) (file : ℕ) (before after : LockFile) → PutsEntry old new file (Some after) → entry_in old file ≡ Some before
    → (file_state after).waits ≡ (file_state before).waits → (other : ℕ) → (state_in new other).waits ≡ (state_in old other).waits
waits_kept old new file before after puts was same other = grind (arith, common_steps, cases_eq)

-- the files but the one are the same
pub same_from_eq : (F G : FileState) → G ≡ F → SameFile F G
same_from_eq F G e = grind (arith, common_steps)

-- what is known holds where each file has the waits that it had
pub IsIndexed-same : (old new : Files) (tickets : Tickets) (waiters : Waiters)
    → ((file : ℕ) → (state_in new file).waits ≡ (state_in old file).waits)
    → IsIndexed old tickets waiters → IsIndexed new tickets waiters
IsIndexed-same old new tickets waiters same known = record {
  pending = λ ticket file. rw (same file) (known.pending ticket file);
  granted = known.granted;
  once_on_a_file = λ file. subst (λ (waits : List Pending). AllPairs (λ v w. v.ticket ≢ w.ticket) waits) (sym (same file)) (known.once_on_a_file file);
  granted_once = known.granted_once;
  detected = λ owner file. rw (same file) (known.detected owner file);
  crossed = known.crossed;
}

-- whether the wait is detected, and of the owner
abbrev pub is_detected_of : ℕ → Pending → Bool
is_detected_of owner wait = wait.detect && (wait.owner == owner)

detected_by_test : (owner : ℕ) (wait : Pending) → is_detected_of owner wait ≡ true → IsDetectedOf owner wait
detected_by_test owner wait test = grind (arith, common_steps, cases_Bool, eqb-true)

-- where detected waits of an owner are counted there is one
pub some_detected : (owner : ℕ) (waits : List Pending) → detected_waits waits owner ≢ 0 → Any (IsDetectedOf owner) waits
some_detected owner [] some = absurd (some refl)
some_detected owner (wait ∷ waits) some = elim (cases_Bool (is_detected_of owner wait)) [
  | inl here ↦ Any-here (IsDetectedOf owner) wait waits (detected_by_test owner wait here)
  | inr apart ↦ Any-there (IsDetectedOf owner) wait waits (some_detected owner waits (λ none. some (rw apart none)))
]
