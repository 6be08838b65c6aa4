-- What effects a request may have under the locks of a file, what they leave, and what its answer says of them: the standards' own freedom,
-- and nothing of this project's policies.
use Rattle.std.specs.Prelude.{◌≡◌, ◌≢◌, ℕ, Bool, true, false, ⊤, Option, Some, None}
use Rattle.range_core.specs.declared.Mode.{Mode}
use Rattle.range_core.specs.declared.Span.{Span}
use Rattle.history_core.specs.declared.request.Action.{Action}
use Rattle.history_core.specs.declared.request.Action.TheVariants.{Set, Wait, Get, Unlock, Flock, FlockWait, FlockUnlock, Close, Gone}
use Rattle.history_core.specs.declared.request.Answer.{Answer}
use Rattle.history_core.specs.declared.request.Answer.TheVariants.{Done, Busy, Interrupted, Deadlock, Free, Held, Error}
use Rattle.range_core.specs.Ranges.{Modes}
use Rattle.history_core.specs.Locks.{FileLocks, BlocksBytes, BlocksFlock, IsHeld, bytes_without, with_bytes, with_flock, without_owner}

-- what a request has done: nothing, what it asks for, nothing since a lock was in the way, or it saw the others' byte locks
pub data Effect : Type 0 where
  NotYet : Effect
  Did : Effect
  WasBlocked : Effect
  Saw : (ℕ → Modes) → Effect

-- a byte lock that doesn't wait: it is set where no other lock conflicts, and refused where one does
-- (POSIX.1-2017 fcntl, DESCRIPTION, F_SETLK, "If a shared or exclusive lock cannot be set, fcntl() shall return immediately")
abbrev pub SetMay : FileLocks → ℕ → Mode → Span → Effect → Type 0
SetMay locks owner mode span Did = ¬ BlocksBytes locks.bytes owner mode span
SetMay locks owner mode span WasBlocked = BlocksBytes locks.bytes owner mode span
SetMay locks owner mode span other = ⊥

-- a byte lock that may wait: it is set where no other lock conflicts
-- (POSIX.1-2017 fcntl, DESCRIPTION, F_SETLKW, "the thread shall wait until the request can be satisfied")
abbrev pub WaitMay : FileLocks → ℕ → Mode → Span → Effect → Type 0
WaitMay locks owner mode span Did = ¬ BlocksBytes locks.bytes owner mode span
WaitMay locks owner mode span other = ⊥

-- a get sees the byte locks of other owners (POSIX.1-2017 fcntl, DESCRIPTION, F_GETLK)
abbrev pub GetMay : FileLocks → ℕ → Effect → Type 0
GetMay locks owner (Saw seen) = seen ≡ bytes_without locks.bytes owner
GetMay locks owner other = ⊥

-- a flock lock that doesn't wait (flock(2), DESCRIPTION, "To make a nonblocking request, include LOCK_NB"; one for the mode that is held
-- isn't refused, this project's choice)
abbrev pub FlockMay : FileLocks → ℕ → Mode → Effect → Type 0
FlockMay locks owner mode Did = ¬ BlocksFlock locks.flocks owner mode
FlockMay locks owner mode WasBlocked = BlocksFlock locks.flocks owner mode × (locks.flocks owner ≢ Some mode)
FlockMay locks owner mode other = ⊥

-- a flock lock that may wait (flock(2), DESCRIPTION, "A call to flock() may block if an incompatible lock is held by another process")
abbrev pub FlockWaitMay : FileLocks → ℕ → Mode → Effect → Type 0
FlockWaitMay locks owner mode Did = ¬ BlocksFlock locks.flocks owner mode
FlockWaitMay locks owner mode other = ⊥

-- a removal of locks is done at any moment (POSIX.1-2017 fcntl, F_UNLCK; flock(2), LOCK_UN; POSIX.1-2017 close)
abbrev pub RemovalMay : Effect → Type 0
RemovalMay Did = ⊤
RemovalMay other = ⊥

-- under these locks the owner's request may have this effect
abbrev pub MayHave : FileLocks → ℕ → Action → Effect → Type 0
MayHave locks owner (Set mode span) effect = SetMay locks owner mode span effect
MayHave locks owner (Wait mode span) effect = WaitMay locks owner mode span effect
MayHave locks owner (Get mode span) effect = GetMay locks owner effect
MayHave locks owner (Unlock span) effect = RemovalMay effect
MayHave locks owner (Flock mode) effect = FlockMay locks owner mode effect
MayHave locks owner (FlockWait mode) effect = FlockWaitMay locks owner mode effect
MayHave locks owner FlockUnlock effect = RemovalMay effect
MayHave locks owner Close effect = RemovalMay effect
MayHave locks owner Gone effect = RemovalMay effect

-- what a request that is done leaves of the locks
abbrev pub locks_when_done : FileLocks → ℕ → Action → FileLocks
locks_when_done locks owner (Set mode span) = with_bytes locks owner span (Some mode)
locks_when_done locks owner (Wait mode span) = with_bytes locks owner span (Some mode)
locks_when_done locks owner (Get mode span) = locks
locks_when_done locks owner (Unlock span) = with_bytes locks owner span None
locks_when_done locks owner (Flock mode) = with_flock locks owner (Some mode)
locks_when_done locks owner (FlockWait mode) = with_flock locks owner (Some mode)
locks_when_done locks owner FlockUnlock = with_flock locks owner None
locks_when_done locks owner Close = without_owner locks owner
locks_when_done locks owner Gone = without_owner locks owner

-- what an effect leaves: all but what is done changes nothing
abbrev pub locks_behind : FileLocks → ℕ → Action → Effect → FileLocks
locks_behind locks owner action Did = locks_when_done locks owner action
locks_behind locks owner action other = locks

-- a conversion, which may lose its owner's old lock before it sets the new one, and where it sets none
-- (flock(2), DESCRIPTION, "Converting a lock (shared to exclusive, or vice versa) is not guaranteed to be atomic: the existing lock is first
-- removed, and then a new lock is established"; that it may do so again, and where it ends in vain, this project's choice: Linux does)
abbrev pub Converts : Option Mode → Action → Type 0
Converts (Some held) (Flock mode) = held ≢ mode
Converts (Some held) (FlockWait mode) = held ≢ mode
Converts held other = ⊥

-- the request may wait (POSIX.1-2017 fcntl, F_SETLKW; flock(2))
abbrev pub may_wait : Action → Bool
may_wait (Wait mode span) = true
may_wait (FlockWait mode) = true
may_wait other = false

-- the request is one for a byte lock that may wait (POSIX.1-2017 fcntl, ERRORS, EDEADLK)
abbrev pub may_deadlock : Action → Bool
may_deadlock (Wait mode span) = true
may_deadlock other = false

-- whose lock it was may be left out (this project's choice)
abbrev pub HeldBy : Bool → (ℕ → Modes) → ℕ → Mode → Span → Option ℕ → Mode → Span → Type 0
HeldBy runs seen owner asked span (Some other) mode bytes = IsHeld runs seen owner asked span other mode bytes
HeldBy runs seen owner asked span None mode bytes = (other : ℕ) × IsHeld runs seen owner asked span other mode bytes

-- what a get may tell that saw these locks: that nothing is in the way, or what is
-- (POSIX.1-2017 fcntl, DESCRIPTION, F_GETLK, "If no lock is found that would prevent this lock from being created")
abbrev pub GetMayTell : Bool → (ℕ → Modes) → ℕ → Action → Answer → Type 0
GetMayTell runs seen owner (Get mode span) Free = ¬ BlocksBytes seen owner mode span
GetMayTell runs seen owner (Get mode span) (Held other held bytes) = HeldBy runs seen owner mode span other held bytes
GetMayTell runs seen owner action answer = ⊥

-- what a request may be told that has done nothing: a signal or a deadlock ended its wait, which changes nothing; for who waits for whom
-- isn't judged (POSIX.1-2017 fcntl, DESCRIPTION, F_SETLKW, "fcntl() shall be interrupted"; ERRORS, EDEADLK; flock(2), ERRORS, EINTR)
abbrev pub NothingMayTell : Action → Answer → Type 0
NothingMayTell action Interrupted = may_wait action ≡ true
NothingMayTell action Deadlock = may_deadlock action ≡ true
NothingMayTell action other = ⊥

-- the owner's request may be told this, by what it has done; `error` whatever it was
abbrev pub MayTell : Bool → ℕ → Action → Effect → Answer → Type 0
MayTell runs owner action effect Error = ⊤
MayTell runs owner action Did Done = ⊤
MayTell runs owner action WasBlocked Busy = ⊤
MayTell runs owner action (Saw seen) answer = GetMayTell runs seen owner action answer
MayTell runs owner action NotYet answer = NothingMayTell action answer
MayTell runs owner action effect answer = ⊥
