-- The entries of files: for `Table::add_steps`, `Table::blocker`, `Table::blocks` and `Table::holds_back`.
use Rattle.lock_server.proofs.Common.{ℕ, ◌≡◌, ◌∙◌, sym, ap, Option, Some, None, inl, inr, [], Bor, option_copied, Mode, HeldConflicts, Owner, Process, Description, Family, Bytes, Whole, Policy, Held, Queue, IsBlockedIn, Pending, as_wait, by_owner, locks_on, untouched, IsBlockedUnless, IsHeldBack, LockFile, Table, file_state, state_at, entry_in, table_state, entry_of}
use Rattle.lock_server.proofs.ListLemmas.{Any-nil}

-- a file with an entry has its state
pub found_state : (table : Table) (file : ℕ) (found : Option (Bor LockFile)) (locks : Bor LockFile)
    → option_copied found ≡ entry_in table.files file → found ≡ Some locks
    → (table_state table).files file ≡ file_state locks.now
unfolding table_state entry_of
found_state table file found locks value is = ap state_at (sym value ∙ ap option_copied is)

-- and one without an entry is untouched
pub not_found_state : (table : Table) (file : ℕ) (found : Option (Bor LockFile)) → option_copied found ≡ entry_in table.files file → found ≡ None
    → (table_state table).files file ≡ untouched
unfolding table_state entry_of
not_found_state table file found value is = ap state_at (sym value ∙ ap option_copied is)

nobody : (owner : Owner) (byte : ℕ) (wanted : Mode) → ¬ HeldConflicts (by_owner untouched.bytes owner byte) wanted
nobody (Process process) byte wanted conflicts = conflicts
nobody (Description number) byte wanted conflicts = conflicts

free_in : (family : Family) (wait : Pending) → ¬ IsBlockedIn family (locks_on untouched) (as_wait wait)
free_in Bytes wait conflict = nobody conflict.other conflict.byte wait.mode conflict.blocks.conflicts
free_in Whole wait conflict = conflict.conflicts

-- on an untouched file nothing is in the way
pub untouched_free : (wait : Pending) → ¬ IsHeldBack untouched wait
untouched_free wait held = free_in wait.family wait held

pub untouched_open : (policy : Policy) (wait : Pending) (Had : Type 0) → ¬ IsBlockedUnless policy untouched [] wait Had
untouched_open Held wait Had blocked = untouched_free wait blocked
untouched_open Queue wait Had blocked = elim blocked [ inl held ↦ untouched_free wait held | inr behind ↦ Any-nil _ behind.0 ]
