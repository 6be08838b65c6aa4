-- Words on the lock commands of fcntl and their arguments.
use Rattle.std.specs.Prelude.{ℕ, zero, suc, ◌+◌, ◌-◌, ◌==◌, ◌&&◌, ◌||◌, not, Bool, true, false, if◌then◌else◌, ℤ, pos, negsuc, Option, Some, None}
use Rattle.range_core.specs.declared.TheConstants.{OFFMAX}
use Rattle.range_core.specs.declared.Mode.{Mode}
use Rattle.range_core.specs.declared.Mode.TheVariants as modes
use Rattle.range_core.specs.declared.Kind.{Kind}
use Rattle.range_core.specs.declared.Kind.TheVariants.{Read, Write, Unlock}
use Rattle.range_core.specs.declared.Span.{Span}
use Rattle.lock_book.specs.declared.Owner.{Owner}
use Rattle.lock_book.specs.declared.Owner.TheVariants.{Process, Description}
use Rattle.lock_book.specs.declared.Blocker.{Blocker}
use Rattle.fd_table.specs.declared.Access.{Access}
use Rattle.fd_table.specs.declared.Access.TheVariants.{R, W, Rw}
use Rattle.fd_table.specs.declared.tables.Look.{Look}
use Rattle.wait_core.specs.declared.Family.TheVariants.{Bytes}
use Rattle.wait_core.specs.declared.Wait.{Wait}
use Rattle.lock_manager.specs.declared.request.Lock.{Lock}
use Rattle.lock_manager.specs.declared.request.LkCmd.{LkCmd}
use Rattle.lock_manager.specs.declared.request.LkCmd.TheVariants.{GetLk, SetLk, SetLkW, OGetLk, OSetLk, OSetLkW}
use Rattle.lock_manager.specs.declared.request.Reply.{Reply}
use Rattle.lock_manager.specs.declared.request.Reply.TheVariants as replies

-- whether the command is for open file description locks (fcntl_locking(2), "Open file description locks")
abbrev pub is_ofd : LkCmd → Bool
is_ofd GetLk = false
is_ofd SetLk = false
is_ofd SetLkW = false
is_ofd OGetLk = true
is_ofd OSetLk = true
is_ofd OSetLkW = true

-- whether the command only asks (POSIX.1-2017 fcntl, DESCRIPTION, F_GETLK; fcntl_locking(2), F_OFD_GETLK)
abbrev pub is_get : LkCmd → Bool
is_get GetLk = true
is_get OGetLk = true
is_get SetLk = false
is_get SetLkW = false
is_get OSetLk = false
is_get OSetLkW = false

-- whether the command waits where a lock is in the way (POSIX.1-2017 fcntl, DESCRIPTION, F_SETLKW; fcntl_locking(2), F_OFD_SETLKW)
abbrev pub may_wait : LkCmd → Bool
may_wait GetLk = false
may_wait SetLk = false
may_wait SetLkW = true
may_wait OGetLk = false
may_wait OSetLk = false
may_wait OSetLkW = true

-- whether the kind is F_UNLCK (POSIX.1-2017 fcntl, DESCRIPTION, l_type)
abbrev pub is_unlock : Kind → Bool
is_unlock Read = false
is_unlock Write = false
is_unlock Unlock = true

-- whether l_pid is 0 (fcntl_locking(2), "Open file description locks", l_pid)
abbrev pub is_zero : ℤ → Bool
is_zero (pos zero) = true
is_zero (pos (suc n)) = false
is_zero (negsuc n) = false

-- an OFD command whose l_pid isn't 0, or a get command with F_UNLCK
-- (fcntl_locking(2), ERRORS, EINVAL; F_UNLCK in a get command is this project's choice)
abbrev pub is_bad_argument : LkCmd → Lock → Bool
is_bad_argument cmd lock = (is_ofd cmd && not (is_zero lock.pid)) || (is_get cmd && is_unlock lock.kind)

-- the mode that is asked for, and none for an unlock (POSIX.1-2017 fcntl, DESCRIPTION, l_type)
abbrev pub wanted_mode : Kind → Option Mode
wanted_mode Read = Some modes.Read
wanted_mode Write = Some modes.Write
wanted_mode Unlock = None

-- whether the access mode allows the lock: a read lock needs a descriptor open for reading, and a write lock one open
-- for writing (POSIX.1-2017 fcntl, ERRORS, EBADF)
abbrev pub permits : Access → Mode → Bool
permits R modes.Read = true
permits R modes.Write = false
permits W modes.Read = false
permits W modes.Write = true
permits Rw mode = true

-- the process of a traditional lock, and -1 for an OFD lock (fcntl_locking(2), F_OFD_GETLK)
abbrev pub reported_pid : Owner → ℤ
reported_pid (Process p) = pos p
reported_pid (Description d) = negsuc 0

-- the blocker as a lock description from SEEK_SET, with the length 0 where it ends at the largest offset
-- (POSIX.1-2017 fcntl, DESCRIPTION, F_GETLK and l_len)
abbrev pub held_reply : Blocker → Reply
held_reply blocker =
    let span = blocker.span in
    replies.Held blocker.mode span.first (if span.last == OFFMAX then 0 else (span.last - span.first + 1)) (reported_pid blocker.owner)

-- the owner of the lock (POSIX.1-2017 fcntl, DESCRIPTION, F_SETLK; fcntl_locking(2), "Open file description locks")
abbrev pub lock_owner : LkCmd → ℕ → Look → Owner
lock_owner cmd p look = if is_ofd cmd then Description look.desc else Process p

-- the request for a lock of this mode on this range, as it would wait (POSIX.1-2017 fcntl, DESCRIPTION, F_SETLKW)
abbrev pub wanted_lock : LkCmd → ℕ → ℕ → Look → Span → Mode → Wait
wanted_lock cmd p n look span mode =
    record { p = p; n = n; file = look.file; family = Bytes; owner = lock_owner cmd p look; span = span; mode = mode }
