-- What flock comes to.
use Rattle.std.specs.Prelude.{◌≡◌, ℕ, Bool, true, false, MatchBool, MatchOption, Option, Some, None, List, []}
use Rattle.range_core.specs.Facts.{MatchFact}
use Rattle.range_core.specs.declared.Mode.{Mode}
use Rattle.range_core.specs.declared.Mode.TheVariants.{Read, Write}
use Rattle.lock_book.specs.declared.Owner.TheVariants.{Description}
use Rattle.lock_book.specs.Changes.{whole_file, flock_mode_in}
use Rattle.fd_table.specs.declared.tables.Look.{Look}
use Rattle.fd_table.specs.Descriptors.{look_at}
use Rattle.wait_core.specs.declared.Family.TheVariants.{Whole}
use Rattle.wait_core.specs.declared.Wait.{Wait}
use Rattle.wait_core.specs.Blocking.{IsBlockedByLock, IsBlocked}
use Rattle.lock_manager.specs.declared.request.Rules.{Rules}
use Rattle.lock_manager.specs.declared.request.FlockOp.{FlockOp}
use Rattle.lock_manager.specs.declared.request.FlockOp.TheVariants.{Sh, Ex, Un}
use Rattle.lock_manager.specs.declared.request.Note.{Note}
use Rattle.lock_manager.specs.declared.request.Errno.TheVariants.{EBADF, EAGAIN}
use Rattle.lock_manager.specs.declared.request.Reply.TheVariants as replies
use Rattle.lock_manager.specs.State.{State, locks_held, with_flock_mode, with_lock}
use Rattle.lock_manager.specs.Settling.{Settles}
use Rattle.lock_manager.specs.Outcomes.{Outcome, answered, answered_then, refused, waits_then}

-- whether the two modes are one (flock(2), LOCK_SH and LOCK_EX)
abbrev pub is_same_mode : Mode → Mode → Bool
is_same_mode Read Read = true
is_same_mode Read Write = false
is_same_mode Write Read = false
is_same_mode Write Write = true

-- the mode that the operation asks for, and none where it unlocks (flock(2), LOCK_SH, LOCK_EX and LOCK_UN)
abbrev pub flock_wanted_mode : FlockOp → Option Mode
flock_wanted_mode Sh = Some Read
flock_wanted_mode Ex = Some Write
flock_wanted_mode Un = None

-- the request for a flock lock of this mode, as it would wait (flock(2))
abbrev pub wanted_flock : ℕ → ℕ → Look → Mode → Wait
wanted_flock p n look mode =
    record { p = p; n = n; file = look.file; family = Whole; owner = Description look.desc; span = whole_file; mode = mode }

-- the test of a request, where a conversion made these grants before it: with LOCK_NB it is refused where a held lock
-- blocks it; without, it waits where it is blocked as a wait is, with the whole list of waits before it; else the lock is set
-- (flock(2), LOCK_NB and EWOULDBLOCK)
abbrev pub FlockTestComesTo : Rules → State → Bool → Wait → List Note → Outcome → Type 0
FlockTestComesTo rules S true wanted grants outcome =
    MatchFact (IsBlockedByLock (locks_held S) wanted)
    (outcome ≡ answered_then S wanted.p wanted.n (replies.Err EAGAIN) grants)
    (outcome ≡ answered_then (with_lock S wanted) wanted.p wanted.n replies.Ok grants)
FlockTestComesTo rules S false wanted grants outcome =
    MatchFact (IsBlocked rules.policy (locks_held S) S.waits wanted)
    (outcome ≡ waits_then S wanted grants)
    (outcome ≡ answered_then (with_lock S wanted) wanted.p wanted.n replies.Ok grants)

-- the first half of a conversion: the description's old lock is removed, and the waits are settled, which makes these grants and
-- leaves this state (flock(2), "the existing lock is first removed"; that the waits are settled then is this project's choice)
abbrev pub RemovesOldLock : Rules → State → ℕ → ℕ → List Note → State → Type 0
RemovesOldLock rules S file description grants settled = Settles rules.policy (with_flock_mode S file description None) grants settled

-- a conversion: the old lock is removed, the waits are settled, and then the request is tested
-- (flock(2), "converting a lock ... is not guaranteed to be atomic"; the whole order is this project's choice)
abbrev pub ConversionComesTo : Rules → State → Look → Bool → Wait → Outcome → Type 0
ConversionComesTo rules S look nb wanted outcome =
    (grants : List Note) × (settled : State)
    × RemovesOldLock rules S look.file look.desc grants settled × FlockTestComesTo rules settled nb wanted grants outcome

-- the state in which a request for another flock mode of the description is tested, behind these grants: where it has a lock,
-- what the first half of the conversion leaves; else the state itself (flock(2); the order is this project's choice)
abbrev pub IsFlockTested : Rules → State → ℕ → ℕ → List Note → State → Type 0
IsFlockTested rules S file description grants tested =
    MatchOption (flock_mode_in S.flock_changes file description) ((grants ≡ []) × (tested ≡ S))
    (λ held. RemovesOldLock rules S file description grants tested)

-- LOCK_SH and LOCK_EX of a description with this mode, if any: the mode that is held already changes nothing; another
-- one is converted (flock(2))
abbrev pub FlockModeComesTo : Rules → State → Look → Bool → Wait → Option Mode → Outcome → Type 0
FlockModeComesTo rules S look nb wanted None outcome = FlockTestComesTo rules S nb wanted [] outcome
FlockModeComesTo rules S look nb wanted (Some held) outcome =
    MatchBool (is_same_mode held wanted.mode) (outcome ≡ answered S wanted.p wanted.n replies.Ok)
    (ConversionComesTo rules S look nb wanted outcome)

-- flock of a description: LOCK_UN removes its lock, and always succeeds (flock(2))
abbrev pub FlockOpComesTo : Rules → State → ℕ → ℕ → Look → FlockOp → Bool → Outcome → Type 0
FlockOpComesTo rules S p n look Un nb outcome = outcome ≡ answered (with_flock_mode S look.file look.desc None) p n replies.Ok
FlockOpComesTo rules S p n look Sh nb outcome =
    FlockModeComesTo rules S look nb (wanted_flock p n look Read) (flock_mode_in S.flock_changes look.file look.desc) outcome
FlockOpComesTo rules S p n look Ex nb outcome =
    FlockModeComesTo rules S look nb (wanted_flock p n look Write) (flock_mode_in S.flock_changes look.file look.desc) outcome

-- flock: EBADF where the descriptor isn't open (flock(2))
abbrev pub FlockComesTo : Rules → State → ℕ → ℕ → ℕ → FlockOp → Bool → Outcome → Type 0
FlockComesTo rules S p n fd op nb outcome =
    MatchOption (look_at S.descriptors p fd) (outcome ≡ refused S p n EBADF)
    (λ look. FlockOpComesTo rules S p n look op nb outcome)
