-- A reader that waits for a writer in both engines, beside a wait by flock: states that are alike (this project's choice of an example).
use Rattle.std.specs.Prelude.{ℕ, ◌+◌, suc, ◌==◌, true, false, ◌&&◌, if◌then◌else◌, Option, Some, None, List, [], ◌∷◌}
use Rattle.range_core.specs.declared.Mode.{Mode}
use Rattle.range_core.specs.declared.Mode.TheVariants.{Read, Write}
use Rattle.range_core.specs.declared.Span.{Span}
use Rattle.range_core.specs.Changes.{is_covered}
use Rattle.lock_book.specs.declared.Owner.{Owner}
use Rattle.lock_book.specs.declared.Owner.TheVariants.{Process, Description}
use Rattle.lock_book.specs.Changes.{Change, FlockChange, whole_file}
use Rattle.wait_core.specs.declared.Family.TheVariants.{Bytes, Whole}
use Rattle.wait_core.specs.declared.Policy.TheVariants.{Held}
use Rattle.wait_core.specs.declared.Wait.{Wait}
use Rattle.lock_manager.specs.declared.request.Note.TheVariants.{Answer}
use Rattle.lock_manager.specs.declared.request.Reply.TheVariants as replies
use Rattle.lock_manager.specs.State.{State, opening_state}
use Rattle.lock_manager.specs.Settling.{Settles as ManagerSettles, granted}
use Rattle.lock_server.specs.declared.Pending.{Pending}
use Rattle.lock_server.specs.Files.{FileState}
use Rattle.lock_server.specs.Settling.{Settles as ServerSettles}
use Rattle.grants_alike.specs.Alike.{Numbers, AreAlike}

-- a number for each owner: even ones for processes, and odd ones for descriptions
abbrev pub number_of : Owner → Option ℕ
number_of (Process p) = Some (p + p)
number_of (Description description) = Some (suc (description + description))

-- all owners have numbers, and all descriptions their own ones
abbrev pub all_numbers : Numbers
all_numbers = record { of_owner = number_of; of_description = λ description. Some description }

-- bytes 0 to 9
abbrev pub first_bytes : Span
first_bytes = record { first = 0; last = 9 }

-- bytes 5 to 14
abbrev pub later_bytes : Span
later_bytes = record { first = 5; last = 14 }

-- process 1 sets a lock of this mode on bytes 0 to 9 of file 0, or none
abbrev pub set_by_writer : Option Mode → Change
set_by_writer mode = record { file = 0; owner = Process 1; span = first_bytes; mode = mode }

-- description 6 has file 0 shared by flock
abbrev pub shared_by_flock : FlockChange
shared_by_flock = record { file = 0; description = 6; mode = Some Read }

-- process 2 waits, by its third request, for a read lock on bytes 5 to 14 of file 0
abbrev pub reader : Wait
reader = record { p = 2; n = 3; file = 0; family = Bytes; owner = Process 2; span = later_bytes; mode = Read }

-- the owner of process 2 waits with ticket 30 for the same
abbrev pub pending_reader : Pending
pending_reader = record { ticket = 30; owner = 4; family = Bytes; span = later_bytes; mode = Read; detect = true }

-- process 3 waits, by its first request, to have file 0 alone by flock, through description 5
abbrev pub flocker : Wait
flocker = record { p = 3; n = 1; file = 0; family = Whole; owner = Description 5; span = whole_file; mode = Write }

-- description 5 waits with ticket 31 for the same
abbrev pub pending_flocker : Pending
pending_flocker = record { ticket = 31; owner = 5; family = Whole; span = whole_file; mode = Write; detect = false }

-- the manager after these changes of byte locks, where both wait
abbrev pub manager_with : List Change → State
manager_with changes = record opening_state { changes = changes; flock_changes = shared_by_flock ∷ []; waits = reader ∷ flocker ∷ [] }

-- the manager where process 1 has its write lock
abbrev pub manager_before : State
manager_before = manager_with (set_by_writer (Some Write) ∷ [])

-- the manager where the write lock went
abbrev pub manager_unlocked : State
manager_unlocked = manager_with (set_by_writer (Some Write) ∷ set_by_writer None ∷ [])

-- what an owner has on the byte that has this mode on a range, and nothing else
abbrev pub mode_on : ℕ → Span → Mode → ℕ → ℕ → Option Mode
mode_on owner span mode other byte = if owner == other && is_covered span byte then Some mode else None

-- description 6 has a read lock by flock, and nobody else has one
abbrev pub shared_by_6 : ℕ → Option Mode
shared_by_6 owner = if 6 == owner then Some Read else None

-- the server's file where process 1, here 2, has its write lock
abbrev pub file_before : FileState
file_before = record { bytes = mode_on 2 first_bytes Write; flocks = shared_by_6; waits = pending_reader ∷ pending_flocker ∷ [] }

-- the server's file where the write lock went
abbrev pub file_unlocked : FileState
file_unlocked = record { bytes = λ owner byte. None; flocks = shared_by_6; waits = pending_reader ∷ pending_flocker ∷ [] }

-- the server's file where process 2, here 4, has its read lock
abbrev pub file_after : FileState
file_after = record { bytes = mode_on 4 later_bytes Read; flocks = shared_by_6; waits = pending_flocker ∷ [] }

-- the manager and the server are alike where the reader waits for the writer, and neither grants; they are so where the write lock went,
-- and then both grant the read lock, and not the lock by flock, which waits for another
pub record AReaderFollowsAWriter : Type 0 where
  pub alike_before : AreAlike all_numbers 0 manager_before file_before
  pub manager_waits : ManagerSettles Held manager_before [] manager_before
  pub server_waits : ServerSettles Held file_before [] file_before
  pub alike_unlocked : AreAlike all_numbers 0 manager_unlocked file_unlocked
  pub manager_grants : ManagerSettles Held manager_unlocked (Answer 2 3 replies.Ok ∷ []) (granted manager_unlocked [] reader (flocker ∷ []))
  pub server_grants : ServerSettles Held file_unlocked (pending_reader ∷ []) file_after
