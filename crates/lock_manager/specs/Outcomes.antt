-- What a request comes to, before the waits are settled: what is told, and the state.
use Rattle.std.specs.Prelude.{◌≡◌, ℕ, List, [], ◌∷◌, ◌++◌}
use Rattle.fd_table.specs.declared.FdFault.{FdFault}
use Rattle.fd_table.specs.declared.FdFault.TheVariants.{BadFd, TooMany, Invalid, Taken, Memory}
use Rattle.range_core.specs.declared.RangeFault.{RangeFault}
use Rattle.range_core.specs.declared.RangeFault.TheVariants as range_faults
use Rattle.wait_core.specs.declared.Wait.{Wait}
use Rattle.lock_manager.specs.declared.request.Errno.{Errno}
use Rattle.lock_manager.specs.declared.request.Errno.TheVariants.{EBADF, EINVAL, EOVERFLOW, EAGAIN, EMFILE}
use Rattle.lock_manager.specs.declared.request.Reply.{Reply}
use Rattle.lock_manager.specs.declared.request.Reply.TheVariants as replies
use Rattle.lock_manager.specs.declared.request.Note.{Note}
use Rattle.lock_manager.specs.declared.request.Note.TheVariants as notes
use Rattle.lock_manager.specs.declared.request.ProcState.TheVariants as states
use Rattle.lock_manager.specs.State.{State, with_process}

-- the notes so far, and the state (this project's choice)
pub record Outcome : Type 0 where
  pub told : List Note
  pub after : State

-- the caller is answered, and then these grants were made (this project's choice)
abbrev pub answered_then : State → ℕ → ℕ → Reply → List Note → Outcome
answered_then S p n reply grants = record { told = notes.Answer p n reply ∷ grants; after = S }

-- the caller is answered (this project's choice)
abbrev pub answered : State → ℕ → ℕ → Reply → Outcome
answered S p n reply = answered_then S p n reply []

-- the caller is refused, and the state stays
-- (POSIX.1-2017, "Error Numbers"; that the state stays is this project's choice)
abbrev pub refused : State → ℕ → ℕ → Errno → Outcome
refused S p n error = answered S p n (replies.Err error)

-- the caller waits, last in order of arrival, and then these grants were made
-- (POSIX.1-2017 fcntl, DESCRIPTION, F_SETLKW; fcntl_locking(2), F_OFD_SETLKW)
abbrev pub waits_then : State → Wait → List Note → Outcome
waits_then S wait grants =
    record {
      told = notes.Waits wait.p wait.n ∷ grants;
      after = with_process (record S { waits = S.waits ++ wait ∷ [] }) wait.p states.Waiting;
    }

-- the error of a range that there isn't (POSIX.1-2017 fcntl, ERRORS, EINVAL and EOVERFLOW)
abbrev pub range_error : RangeFault → Errno
range_error range_faults.Invalid = EINVAL
range_error range_faults.Overflow = EOVERFLOW

-- the caller is refused as the call on descriptors was, and the state stays; want of memory is no outcome
-- (POSIX.1-2017 open, dup, close, fork, lseek and ftruncate, ERRORS)
abbrev pub IsRefusal : State → ℕ → ℕ → FdFault → Outcome → Type 0
IsRefusal S p n BadFd outcome = outcome ≡ refused S p n EBADF
IsRefusal S p n TooMany outcome = outcome ≡ refused S p n EMFILE
IsRefusal S p n Invalid outcome = outcome ≡ refused S p n EINVAL
IsRefusal S p n Taken outcome = outcome ≡ refused S p n EAGAIN
IsRefusal S p n (Memory memory) outcome = ⊥
