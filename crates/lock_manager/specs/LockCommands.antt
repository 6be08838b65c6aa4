-- What the lock commands of fcntl come to.
use Rattle.std.specs.Prelude.{◌≡◌, ℕ, ◌||◌, MatchBool, MatchResult, MatchOption, None, []}
use Rattle.range_core.specs.Facts.{MatchFact}
use Rattle.range_core.specs.declared.Mode.{Mode}
use Rattle.range_core.specs.declared.Kind.{Kind}
use Rattle.range_core.specs.declared.Span.{Span}
use Rattle.range_core.specs.Resolving.{resolution}
use Rattle.lock_book.specs.declared.Owner.{Owner}
use Rattle.lock_book.specs.declared.Blocker.{Blocker}
use Rattle.lock_book.specs.Conflicts.{ByteModes, ByteConflict, IsFirstBlocker}
use Rattle.fd_table.specs.declared.tables.Look.{Look}
use Rattle.fd_table.specs.Descriptors.{look_at}
use Rattle.wait_core.specs.declared.Wait.{Wait}
use Rattle.wait_core.specs.Blocking.{IsBlockedByLock, IsBlocked}
use Rattle.wait_core.specs.Cycles.{ClosesCycle}
use Rattle.lock_manager.specs.declared.request.Rules.{Rules}
use Rattle.lock_manager.specs.declared.request.Lock.{Lock}
use Rattle.lock_manager.specs.declared.request.LkCmd.{LkCmd}
use Rattle.lock_manager.specs.declared.request.LkCmd.TheVariants.{GetLk, SetLk, SetLkW, OGetLk, OSetLk, OSetLkW}
use Rattle.lock_manager.specs.declared.request.Errno.TheVariants.{EBADF, EINVAL, EAGAIN, EDEADLK}
use Rattle.lock_manager.specs.declared.request.Reply.{Reply}
use Rattle.lock_manager.specs.declared.request.Reply.TheVariants as replies
use Rattle.lock_manager.specs.State.{State, locks_held, with_byte_mode, with_lock}
use Rattle.lock_manager.specs.Outcomes.{Outcome, answered, refused, waits_then, range_error}
use Rattle.lock_manager.specs.LockWords.{is_get, is_bad_argument, wanted_mode, permits, held_reply, lock_owner, wanted_lock}

-- a get command tells the first lock that blocks, or that there is none (POSIX.1-2017 fcntl, DESCRIPTION, F_GETLK)
abbrev pub GetTells : ByteModes → Owner → Span → Mode → (Reply → Type 0) → Type 0
GetTells modes owner span mode told =
    MatchFact (ByteConflict modes owner span mode)
    ((blocker : Blocker) × IsFirstBlocker modes owner span mode blocker × told (held_reply blocker))
    (told replies.Free)

-- the caller is told so, and the state stays (POSIX.1-2017 fcntl, DESCRIPTION, F_GETLK)
abbrev pub GetComesTo : State → Wait → Outcome → Type 0
GetComesTo S wanted outcome =
    GetTells ((locks_held S).bytes wanted.file) wanted.owner wanted.span wanted.mode (λ reply. outcome ≡ answered S wanted.p wanted.n reply)

-- the lock is set, and the caller answered (POSIX.1-2017 fcntl, DESCRIPTION, F_SETLK)
abbrev pub IsLocked : State → Wait → Outcome → Type 0
IsLocked S wanted outcome = outcome ≡ answered (with_lock S wanted) wanted.p wanted.n replies.Ok

-- where nothing blocks the lock it is set; else F_SETLK and F_OFD_SETLK are refused
-- (POSIX.1-2017 fcntl, DESCRIPTION, F_SETLK, and ERRORS, EAGAIN; fcntl_locking(2), F_OFD_SETLK)
abbrev pub SetComesTo : State → Wait → Outcome → Type 0
SetComesTo S wanted outcome =
    MatchFact (IsBlockedByLock (locks_held S) wanted) (outcome ≡ refused S wanted.p wanted.n EAGAIN) (IsLocked S wanted outcome)

-- where nothing blocks the lock it is set; else F_OFD_SETLKW waits. A request that would wait is blocked as a wait is, with
-- the whole list of waits before it (fcntl_locking(2), F_OFD_SETLKW)
abbrev pub SetOrWaitComesTo : Rules → State → Wait → Outcome → Type 0
SetOrWaitComesTo rules S wanted outcome =
    MatchFact (IsBlocked rules.policy (locks_held S) S.waits wanted) (outcome ≡ waits_then S wanted []) (IsLocked S wanted outcome)

-- where nothing blocks the lock it is set; else F_SETLKW is refused where its wait would close a cycle, and else waits
-- (POSIX.1-2017 fcntl, DESCRIPTION, F_SETLKW, and ERRORS, EDEADLK)
abbrev pub WaitOrDeadlockComesTo : Rules → State → Wait → Outcome → Type 0
WaitOrDeadlockComesTo rules S wanted outcome =
    MatchFact (IsBlocked rules.policy (locks_held S) S.waits wanted)
    (MatchFact (ClosesCycle rules.policy (locks_held S) S.waits wanted) (outcome ≡ refused S wanted.p wanted.n EDEADLK)
    (outcome ≡ waits_then S wanted []))
    (IsLocked S wanted outcome)

-- a get command asks, and a set command sets, at once or as soon as nothing blocks it
abbrev pub CommandComesTo : Rules → State → LkCmd → Wait → Outcome → Type 0
CommandComesTo rules S GetLk wanted outcome = GetComesTo S wanted outcome
CommandComesTo rules S OGetLk wanted outcome = GetComesTo S wanted outcome
CommandComesTo rules S SetLk wanted outcome = SetComesTo S wanted outcome
CommandComesTo rules S OSetLk wanted outcome = SetComesTo S wanted outcome
CommandComesTo rules S SetLkW wanted outcome = WaitOrDeadlockComesTo rules S wanted outcome
CommandComesTo rules S OSetLkW wanted outcome = SetOrWaitComesTo rules S wanted outcome

-- on a range, with a mode: a set command needs the access mode, a get command doesn't
-- (POSIX.1-2017 fcntl, ERRORS, EBADF; for the get commands this project's choice)
abbrev pub ModeComesTo : Rules → State → ℕ → ℕ → LkCmd → Look → Span → Mode → Outcome → Type 0
ModeComesTo rules S p n cmd look span mode outcome =
    MatchBool (is_get cmd || permits look.access mode)
    (CommandComesTo rules S cmd (wanted_lock cmd p n look span mode) outcome)
    (outcome ≡ refused S p n EBADF)

-- on a range: an unlock removes the owner's mode from each byte; else there is a mode
-- (POSIX.1-2017 fcntl, DESCRIPTION, F_SETLK and F_UNLCK)
abbrev pub RangeComesTo : Rules → State → ℕ → ℕ → LkCmd → Kind → Look → Span → Outcome → Type 0
RangeComesTo rules S p n cmd kind look span outcome =
    MatchOption (wanted_mode kind)
    (outcome ≡ answered (with_byte_mode S look.file (lock_owner cmd p look) span None) p n replies.Ok)
    (λ mode. ModeComesTo rules S p n cmd look span mode outcome)

-- a lock command on an open descriptor: EINVAL for its arguments, EINVAL or EOVERFLOW for its range, and then what it comes to
-- on the range (POSIX.1-2017 fcntl, ERRORS; the order is this project's choice)
abbrev pub DescribedComesTo : Rules → State → ℕ → ℕ → LkCmd → Lock → Look → Outcome → Type 0
DescribedComesTo rules S p n cmd lock look outcome =
    MatchBool (is_bad_argument cmd lock)
    (outcome ≡ refused S p n EINVAL)
    (MatchResult (resolution lock.whence lock.start lock.len look.offset look.size) (λ span. RangeComesTo rules S p n cmd lock.kind look span outcome)
    (λ fault. outcome ≡ refused S p n (range_error fault)))

-- a lock command: EBADF where the descriptor isn't open (POSIX.1-2017 fcntl, ERRORS, EBADF)
abbrev pub LockComesTo : Rules → State → ℕ → ℕ → ℕ → LkCmd → Lock → Outcome → Type 0
LockComesTo rules S p n fd cmd lock outcome =
    MatchOption (look_at S.descriptors p fd) (outcome ≡ refused S p n EBADF) (λ look. DescribedComesTo rules S p n cmd lock look outcome)
