-- Which lock a request asks for, and what is the first to stand in its way.
use Rattle.std.specs.Prelude.{◌≡◌, ◌≢◌, ℕ, ◌≤◌, Ok, Some, List, ◌∷◌, ◌++◌, All, true, false}
use Rattle.range_core.specs.declared.Mode.{Mode}
use Rattle.range_core.specs.declared.Span.{Span}
use Rattle.range_core.specs.Ranges.{Conflict, HeldConflicts}
use Rattle.range_core.specs.Resolving.{resolution}
use Rattle.lock_book.specs.declared.Blocker.{Blocker}
use Rattle.lock_book.specs.declared.Held.{Held}
use Rattle.lock_book.specs.declared.Owner.TheVariants.{Description}
use Rattle.lock_book.specs.Changes.{whole_file}
use Rattle.lock_book.specs.Conflicts.{ByteModes, FlockModes, IsFirstBlocker}
use Rattle.fd_table.specs.declared.tables.Look.{Look}
use Rattle.fd_table.specs.Descriptors.{look_at}
use Rattle.wait_core.specs.declared.Family.{Family}
use Rattle.wait_core.specs.declared.Family.TheVariants.{Bytes, Whole}
use Rattle.wait_core.specs.declared.Policy.{Policy}
use Rattle.wait_core.specs.declared.Policy.TheVariants.{Queue}
use Rattle.wait_core.specs.declared.Wait.{Wait}
use Rattle.wait_core.specs.Blocking.{IsBlockedByLock, WaitsConflict}
use Rattle.wait_core.specs.Locks.{Locks}
use Rattle.lock_manager.specs.declared.request.Lock.{Lock}
use Rattle.lock_manager.specs.declared.request.LkCmd.{LkCmd}
use Rattle.lock_manager.specs.declared.request.FlockOp.{FlockOp}
use Rattle.lock_manager.specs.declared.request.InTheWay.{InTheWay}
use Rattle.lock_manager.specs.declared.request.InTheWay.TheVariants as obstacles
use Rattle.lock_manager.specs.declared.request.Request.{Request}
use Rattle.lock_manager.specs.declared.request.Request.TheVariants.{OpenFile, Dup, DupTo, CloseFd, Seek, Resize, Lk, Flock, Fork, Exit, Signal, Kill, Enter, Leave, Bail}
use Rattle.lock_manager.specs.State.{State}
use Rattle.lock_manager.specs.LockWords.{wanted_mode, wanted_lock}
use Rattle.lock_manager.specs.FlockCalls.{flock_wanted_mode, wanted_flock}

-- the lock command asks for a lock: on the file of its descriptor, for the range that it describes there
-- (POSIX.1-2017 fcntl, DESCRIPTION, F_SETLKW; fcntl_locking(2), F_OFD_SETLKW)
pub record AsksForBytes (S : State) (p n fd : ℕ) (cmd : LkCmd) (lock : Lock) (wait : Wait) : Type 0 where
  pub look : Look
  pub of_open : look_at S.descriptors p fd ≡ Some look
  pub span : Span
  pub of_range : resolution lock.whence lock.start lock.len look.offset look.size ≡ Ok span
  pub mode : Mode
  pub of_kind : wanted_mode lock.kind ≡ Some mode
  pub is : wait ≡ wanted_lock cmd p n look span mode

-- flock asks for a lock: of the open file description of its descriptor, on the whole file (flock(2))
pub record AsksForWhole (S : State) (p n fd : ℕ) (op : FlockOp) (wait : Wait) : Type 0 where
  pub look : Look
  pub of_open : look_at S.descriptors p fd ≡ Some look
  pub mode : Mode
  pub of_op : flock_wanted_mode op ≡ Some mode
  pub is : wait ≡ wanted_flock p n look mode

-- in the state S the request number n of process p asks for this lock, as it would wait: by a lock command, also one that only asks,
-- or by flock (POSIX.1-2017 fcntl; fcntl_locking(2); flock(2))
abbrev pub AsksFor : State → ℕ → ℕ → Request → Wait → Type 0
AsksFor S p n (Lk fd cmd lock) wait = AsksForBytes S p n fd cmd lock wait
AsksFor S p n (Flock fd op nb) wait = AsksForWhole S p n fd op wait
AsksFor S p n (OpenFile file access) wait = ⊥
AsksFor S p n (Dup fd) wait = ⊥
AsksFor S p n (DupTo fd to) wait = ⊥
AsksFor S p n (CloseFd fd) wait = ⊥
AsksFor S p n (Seek fd offset) wait = ⊥
AsksFor S p n (Resize fd size) wait = ⊥
AsksFor S p n (Fork child) wait = ⊥
AsksFor S p n Exit wait = ⊥
AsksFor S p n (Signal target) wait = ⊥
AsksFor S p n (Kill target) wait = ⊥
AsksFor S p n (Enter section visit) wait = ⊥
AsksFor S p n (Leave section) wait = ⊥
AsksFor S p n Bail wait = ⊥

-- the first of these of which this holds
pub record IsFirstOf {X : Type 0} (Holds : X → Type 0) (xs : List X) (x : X) : Type 0 where
  pub before : List X
  pub after : List X
  pub place : xs ≡ before ++ x ∷ after
  pub holds : Holds x
  pub none : All (λ other. ¬ Holds other) before

-- the line of the report says the lock that a get command would report (POSIX.1-2017 fcntl, DESCRIPTION, F_GETLK, "the first lock")
pub record IsFirstByteLock (modes : ByteModes) (wait : Wait) (held : Held) : Type 0 where
  pub blocker : Blocker
  pub first : IsFirstBlocker modes wait.owner wait.span wait.mode blocker
  pub is : held ≡ record { file = wait.file; whole = false; owner = blocker.owner; mode = blocker.mode; span = blocker.span }

-- the line says a flock lock of another description that conflicts with the one that is asked for (flock(2))
pub record IsFlockAgainst (wait : Wait) (held : Held) : Type 0 where
  pub whole : held.whole ≡ true
  pub another : held.owner ≢ wait.owner
  pub conflicts : Conflict held.mode wait.mode

-- the line says the flock lock of the least description that conflicts with the one that is asked for, another one than that asks (flock(2);
-- which is the first is this project's choice)
pub record IsFirstFlock (flocks : FlockModes) (wait : Wait) (held : Held) : Type 0 where
  pub description : ℕ
  pub mode : Mode
  pub holds : flocks description ≡ Some mode
  pub another : Description description ≢ wait.owner
  pub conflicts : Conflict mode wait.mode
  pub least : (other : ℕ) → Description other ≢ wait.owner → HeldConflicts (flocks other) wait.mode → description ≤ other
  pub is : held ≡ record { file = wait.file; whole = true; owner = Description description; mode = mode; span = whole_file }

-- the line says the first held lock that is in the way of a request for a lock of this family
abbrev pub IsFirstLockOf : Family → Locks → Wait → Held → Type 0
IsFirstLockOf Bytes locks wait held = IsFirstByteLock (locks.bytes wait.file) wait held
IsFirstLockOf Whole locks wait held = IsFirstFlock (locks.flocks wait.file) wait held

-- what is the first in the way of the request: the first held lock; or, where none is, and under the queue policy, the earliest wait
-- that conflicts with it (which is the first is this project's choice)
abbrev pub IsFirstInTheWay : Policy → Locks → List Wait → Wait → InTheWay → Type 0
IsFirstInTheWay policy locks waits wait (obstacles.Lock held) = IsFirstLockOf wait.family locks wait held
IsFirstInTheWay policy locks waits wait (obstacles.Wait other) =
    (policy ≡ Queue) × (¬ IsBlockedByLock locks wait) × IsFirstOf (λ v. WaitsConflict v wait) waits other
