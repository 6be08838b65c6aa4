-- Byte locks by owner's number and by owner are the same locks where no process has one: for `LockFile` and `Pending::is_blocked_by_lock`.
use Rattle.lock_server.proofs.Common.{ℕ, ◌≡◌, sym, refl, subst, Mode, Span, Owner, Process, Description, byte_modes_of, ByteModes, LockFile, by_owner, locks_on, file_state}
use Rattle.lock_book.specs.declared.Blocker.{Blocker}
use Rattle.lock_book.specs.Books.{flock_modes_of}
use Rattle.lock_book.specs.Conflicts.{IsFirstBlocker}
use Rattle.wait_core.specs.Locks.{Locks}
use Rattle.lock_server.specs.FileView.{by_number}
use Rattle.lock_server.specs.Locks.{AreOfNumbers, as_blocker}

at_each : (modes : ByteModes) → AreOfNumbers modes → (owner : Owner) (byte : ℕ) → by_owner (by_number modes) owner byte ≡ modes owner byte
at_each modes of_numbers (Process process) byte = sym (of_numbers.processes process byte)
at_each modes of_numbers (Description number) byte = refl

-- functions are equal where their values are
pub by_owner-by_number : (modes : ByteModes) → AreOfNumbers modes → by_owner (by_number modes) ≡ modes
by_owner-by_number modes of_numbers i owner byte = at_each modes of_numbers owner byte i

-- the first lock in the way is told by its owner's number
pub first_by_number : (modes : ByteModes) → AreOfNumbers modes → (owner : ℕ) (span : Span) (wanted : Mode) (found : Blocker) (holder : ℕ)
    → found.owner ≡ Description holder → IsFirstBlocker modes (Description owner) span wanted found
    → IsFirstBlocker (by_owner (by_number modes)) (Description owner) span wanted
    (as_blocker (record { owner = holder; mode = found.mode; span = found.span }))
first_by_number modes of_numbers owner span wanted found holder is first =
    subst (λ (m : ByteModes). IsFirstBlocker m (Description owner) span wanted (record { owner = Description holder; mode = found.mode; span = found.span }))
    (sym (by_owner-by_number modes of_numbers))
    (subst (λ (o : Owner). IsFirstBlocker modes (Description owner) span wanted (record { owner = o; mode = found.mode; span = found.span })) is first)

-- the locks of a book, as `wait_core` defines blocking: on each file the same
abbrev pub locks_in : LockFile → Locks
locks_in file = record { bytes = λ n. byte_modes_of file.book; flocks = λ n. flock_modes_of file.book }

pub locks_on-file_state : (file : LockFile) → AreOfNumbers (byte_modes_of file.book) → locks_on (file_state file) ≡ locks_in file
unfolding file_state
locks_on-file_state file of_numbers i =
    record { bytes = λ n. by_owner-by_number (byte_modes_of file.book) of_numbers i; flocks = λ n. flock_modes_of file.book }
