-- A request comes to some outcome, settling ends, and so there is a step.
use Rattle.lock_manager.proofs.Common.{◌≡◌, ℕ, zero, suc, ◌<◌, List, [], ◌∷◌, ◌++◌, length, length-append, append-nil, append_assoc, ◌==◌, Bool, true, false, Option, Some, None, Result, Ok, Err, inl, inr, refl, sym, ◌∙◌, subst, arith, MatchResult}
use Rattle.lock_manager.proofs.Common.{Mode, FdFault, BadFd, TooMany, Invalid, Taken, Look, Descriptors, HadMemory, OpenGives, DupGives, DupToGives, CloseGives, SeekGives, ResizeGives, ForkGives, EndGives, Policy, Wait, Locks, IsBlockedByLock, IsBlocked, AllBlocked, IsNextBetween, ClosesCycle, wait_of, Rules, Lock, LkCmd, GetLk, SetLk, SetLkW, OGetLk, OSetLk, OSetLkW, FlockOp, Request, OpenFile, Dup, DupTo, CloseFd, Seek, Resize, Lk, Flock, Fork, Exit, Signal, Kill, Enter, Leave, Bail, Note, Answer, ProcState, Unborn, Live, Waiting, Ended, State, locks_held, with_flock_mode, with_process, Settles, granted, Outcome, answered, IsRefusal, with_released, GetComesTo, CommandComesTo, LockComesTo, FlockTestComesTo, FlockModeComesTo, FlockComesTo, EndComesTo, SignalComesTo, KillOtherComesTo, may_enter, may_leave, marked, ComesTo, Step, IsWhole}
use Rattle.range_core.specs.declared.Memory.{Memory as MemoryFault}
use Rattle.fd_table.specs.declared.FdFault.TheVariants.{Memory}
use Rattle.lock_manager.specs.declared.request.Errno.TheVariants.{EBADF, EMFILE, EINVAL, EAGAIN}
use Rattle.lock_manager.specs.declared.request.Reply.TheVariants as replies
use Rattle.lock_manager.specs.Outcomes.{refused}
use Rattle.lock_manager.specs.LockCommands.{SetComesTo, SetOrWaitComesTo, WaitOrDeadlockComesTo}
use Rattle.lock_manager.specs.FlockCalls.{RemovesOldLock, is_same_mode}
use Rattle.lock_manager.specs.ProcessCalls.{KillComesTo}
use Rattle.lock_manager.proofs.some.AtLeastOneLemmas.{AtLeastOne, SomePair, this_value, by_cases, MatchFact-some, some_by_one, some_by_two}
use Rattle.lock_manager.proofs.ChoiceLemmas.{MatchBool-by, LockComesTo-by, FlockComesTo-by}
use Rattle.lock_manager.proofs.some.SomeBlockerLaws.{bytes_below, AreBelow-changes, FirstBlocker-some}
use Rattle.lock_manager.proofs.some.SomeCallLaws.{some_or_none, OpenGives-some, DupGives-some, DupToGives-some, CloseGives-some, EndGives-some, ForkGives-some, SeekGives-some, ResizeGives-some}

-- a call on descriptors that memory doesn't refuse is answered, or refused
answer_some : {R : Type 0} (S : State) (p n : ℕ) (done : R → Outcome) (result : Result R FdFault) → HadMemory result
    → AtLeastOne (λ outcome. MatchResult result (λ r. outcome ≡ done r) (λ fault. IsRefusal S p n fault outcome))
answer_some S p n done (Ok r) never = this_value _ (done r) refl
answer_some S p n done (Err BadFd) never = this_value _ (refused S p n EBADF) refl
answer_some S p n done (Err TooMany) never = this_value _ (refused S p n EMFILE) refl
answer_some S p n done (Err Invalid) never = this_value _ (refused S p n EINVAL) refl
answer_some S p n done (Err Taken) never = this_value _ (refused S p n EAGAIN) refl
answer_some S p n done (Err (Memory memory)) never = absurd (never memory refl)

-- so some outcome comes of a call that gives something
call_some : {R : Type 0} (S : State) (p n : ℕ) (Gives : Result R FdFault → Descriptors → Type 0) (done : Descriptors → R → Outcome)
    → ((descriptors : Descriptors) (memory : MemoryFault) → ¬ Gives (Err (Memory memory)) descriptors) → SomePair Gives
    → AtLeastOne (λ outcome. (result : Result R FdFault) × (descriptors : Descriptors) × Gives result descriptors
    × MatchResult result (λ r. outcome ≡ done descriptors r) (λ fault. IsRefusal S p n fault outcome))
call_some S p n Gives done never given =
    some_by_two Gives _ given
    (λ result descriptors h. answer_some S p n (done descriptors) result (λ memory e. never descriptors memory (subst (λ r. Gives r descriptors) e h)))

EndComesTo-some : (S : State) (p : ℕ) (told : List Note) → IsWhole S → AtLeastOne (EndComesTo S p told)
EndComesTo-some S p told whole =
    some_by_two (EndGives S.descriptors p) _ (EndGives-some S.descriptors p whole.made) (λ released descriptors h. this_value _ _ refl)

SignalComesTo-some : (S : State) (p n target : ℕ) (state : ProcState) → IsWhole S → S.states target ≡ state → AtLeastOne (SignalComesTo S p n target state)
SignalComesTo-some S p n target Unborn whole is = this_value _ _ refl
SignalComesTo-some S p n target Ended whole is = this_value _ _ refl
SignalComesTo-some S p n target Live whole is = this_value _ _ refl
SignalComesTo-some S p n target Waiting whole is =
    some_by_one _ _ (λ none. elim (some_or_none (wait_of S.waits target)) [ inl found ↦ none found.0 found.1 | inr missing ↦ whole.awaited target is missing ])
    (λ wait h. this_value _ _ refl)

KillOtherComesTo-some : (S : State) (p n target : ℕ) (state : ProcState) → IsWhole S → AtLeastOne (KillOtherComesTo S p n target state)
KillOtherComesTo-some S p n target Unborn whole = this_value _ _ refl
KillOtherComesTo-some S p n target Ended whole = this_value _ _ refl
KillOtherComesTo-some S p n target Live whole = EndComesTo-some S target (Answer p n replies.Ok ∷ []) whole
KillOtherComesTo-some S p n target Waiting whole = EndComesTo-some S target (Answer p n replies.Ok ∷ []) whole

KillComesTo-some : (S : State) (p n target : ℕ) → IsWhole S → AtLeastOne (KillComesTo S p n target)
KillComesTo-some S p n target whole =
    MatchBool-by (λ P. AtLeastOne P) (target == p) _ _ (EndComesTo-some S p [] whole) (KillOtherComesTo-some S p n target (S.states target) whole)

GetComesTo-some : (S : State) (wanted : Wait) → AtLeastOne (GetComesTo S wanted)
GetComesTo-some S wanted =
    MatchFact-some _ _ _
    (λ conflict.
    some_by_one _ _
    (FirstBlocker-some ((locks_held S).bytes wanted.file) (bytes_below S.changes) wanted.owner wanted.span wanted.mode
    (λ owner. AreBelow-changes S.changes wanted.file owner) conflict)
    (λ blocker h. this_value _ _ refl))
    (this_value _ _ refl)

SetComesTo-some : (S : State) (wanted : Wait) → AtLeastOne (SetComesTo S wanted)
SetComesTo-some S wanted = MatchFact-some (IsBlockedByLock (locks_held S) wanted) _ _ (λ blocked. this_value _ _ refl) (this_value _ _ refl)

SetOrWaitComesTo-some : (rules : Rules) (S : State) (wanted : Wait) → AtLeastOne (SetOrWaitComesTo rules S wanted)
SetOrWaitComesTo-some rules S wanted =
    MatchFact-some (IsBlocked rules.policy (locks_held S) S.waits wanted) _ _ (λ blocked. this_value _ _ refl) (this_value _ _ refl)

WaitOrDeadlockComesTo-some : (rules : Rules) (S : State) (wanted : Wait) → AtLeastOne (WaitOrDeadlockComesTo rules S wanted)
WaitOrDeadlockComesTo-some rules S wanted =
    MatchFact-some (IsBlocked rules.policy (locks_held S) S.waits wanted) _ _
    (λ blocked.
    MatchFact-some (ClosesCycle rules.policy (locks_held S) S.waits wanted) _ _ (λ closes. this_value _ _ refl) (this_value _ _ refl))
    (this_value _ _ refl)

CommandComesTo-some : (rules : Rules) (S : State) (cmd : LkCmd) (wanted : Wait) → AtLeastOne (CommandComesTo rules S cmd wanted)
CommandComesTo-some rules S GetLk wanted = GetComesTo-some S wanted
CommandComesTo-some rules S OGetLk wanted = GetComesTo-some S wanted
CommandComesTo-some rules S SetLk wanted = SetComesTo-some S wanted
CommandComesTo-some rules S OSetLk wanted = SetComesTo-some S wanted
CommandComesTo-some rules S SetLkW wanted = WaitOrDeadlockComesTo-some rules S wanted
CommandComesTo-some rules S OSetLkW wanted = SetOrWaitComesTo-some rules S wanted

LockComesTo-some : (rules : Rules) (S : State) (p n fd : ℕ) (cmd : LkCmd) (lock : Lock) → AtLeastOne (LockComesTo rules S p n fd cmd lock)
LockComesTo-some rules S p n fd cmd lock =
    LockComesTo-by (λ P. AtLeastOne P) (λ given. this_value _ given refl) rules S p n fd cmd lock (λ wanted. CommandComesTo-some rules S cmd wanted)

-- each of the waits is blocked, or one is next; those that were looked at are blocked, and so are all where the rest is
some_next : (policy : Policy) (locks : Locks) (waits earlier rest : List Wait) → waits ≡ earlier ++ rest
    → ((more : List Wait) → AllBlocked policy locks earlier more → AllBlocked policy locks [] (earlier ++ more))
    → ¬ AllBlocked policy locks [] waits → ¬ ((before : List Wait) (wait : Wait) (after : List Wait) → ¬ IsNextBetween policy locks waits before wait after)
some_next policy locks waits earlier [] place looked not_all none =
    not_all (subst (AllBlocked policy locks []) (sym place) (looked [] tt))
some_next policy locks waits earlier (wait ∷ rest) place looked not_all none =
    by_cases (IsBlocked policy locks earlier wait)
    (λ blocked.
    some_next policy locks waits (earlier ++ wait ∷ []) rest (place ∙ sym (append_assoc earlier (wait ∷ []) rest))
    (λ more all. subst (AllBlocked policy locks []) (sym (append_assoc earlier (wait ∷ []) more)) (looked (wait ∷ more) (blocked, all))) not_all none)
    (λ ready.
    none earlier wait rest
    (record { place = place; ready = ready; earliest = subst (AllBlocked policy locks []) (append-nil earlier) (looked [] tt) }))

-- each grant takes a wait out of the list
fewer : (waits before : List Wait) (wait : Wait) (after : List Wait) → waits ≡ before ++ wait ∷ after → length (before ++ after) < length waits
fewer waits before wait after place = rw (place, length-append before (wait ∷ after), length-append before after) (omega arith)

-- so settling ends
Settles-some : (policy : Policy) (most : ℕ) (S : State) → length S.waits < most → SomePair (λ grants T. Settles policy S grants T)
Settles-some policy zero S few none = absurd (omega arith)
Settles-some policy (suc most) S few none =
    some_next policy (locks_held S) S.waits [] S.waits refl (λ more all. all) (λ all. none [] S (all, refl))
    (λ before wait after next.
    let less = fewer S.waits before wait after next.place in
    Settles-some policy most (granted S before wait after) (omega arith)
    (λ grants T h. none (Answer wait.p wait.n replies.Ok ∷ grants) T (before, wait, after, next, refl, h)))

settled_some : (policy : Policy) (S : State) → SomePair (λ grants T. Settles policy S grants T)
settled_some policy S = Settles-some policy (suc (length S.waits)) S (omega arith)

FlockTestComesTo-some : (rules : Rules) (S : State) (nb : Bool) (wanted : Wait) (grants : List Note) → AtLeastOne (FlockTestComesTo rules S nb wanted grants)
FlockTestComesTo-some rules S true wanted grants =
    MatchFact-some (IsBlockedByLock (locks_held S) wanted) _ _ (λ blocked. this_value _ _ refl) (this_value _ _ refl)
FlockTestComesTo-some rules S false wanted grants =
    MatchFact-some (IsBlocked rules.policy (locks_held S) S.waits wanted) _ _ (λ blocked. this_value _ _ refl) (this_value _ _ refl)

FlockModeComesTo-some : (rules : Rules) (S : State) (look : Look) (nb : Bool) (wanted : Wait) (held : Option Mode)
    → AtLeastOne (FlockModeComesTo rules S look nb wanted held)
FlockModeComesTo-some rules S look nb wanted None = FlockTestComesTo-some rules S nb wanted []
FlockModeComesTo-some rules S look nb wanted (Some held) =
    MatchBool-by (λ P. AtLeastOne P) (is_same_mode held wanted.mode) _ _ (this_value _ _ refl)
    (some_by_two (λ grants settled. RemovesOldLock rules S look.file look.desc grants settled) _
    (settled_some rules.policy (with_flock_mode S look.file look.desc None))
    (λ grants settled h. FlockTestComesTo-some rules settled nb wanted grants))

FlockComesTo-some : (rules : Rules) (S : State) (p n fd : ℕ) (op : FlockOp) (nb : Bool) → AtLeastOne (FlockComesTo rules S p n fd op nb)
FlockComesTo-some rules S p n fd op nb =
    FlockComesTo-by (λ P. AtLeastOne P) (λ given. this_value _ given refl) rules S p n fd op nb (λ look wanted held. FlockModeComesTo-some rules S look nb wanted held)

-- a request comes to some outcome
ComesTo-some : (rules : Rules) (processes : ℕ) (S : State) (p n : ℕ) (request : Request) → IsWhole S → AtLeastOne (ComesTo rules processes S p n request)
ComesTo-some rules processes S p n (OpenFile file access) whole =
    call_some S p n (OpenGives rules.limits S.descriptors p file access) (λ E fd. answered (record S { descriptors = E }) p n (replies.Fd fd))
    (λ E memory h. h) (OpenGives-some rules.limits S.descriptors p file access)
ComesTo-some rules processes S p n (Dup fd) whole =
    call_some S p n (DupGives rules.limits S.descriptors p fd) (λ E free. answered (record S { descriptors = E }) p n (replies.Fd free))
    (λ E memory h. h) (DupGives-some rules.limits S.descriptors p fd)
ComesTo-some rules processes S p n (DupTo fd to) whole =
    call_some S p n (DupToGives rules.limits S.descriptors p fd to) (λ E answer. answered (with_released S E p answer.1) p n (replies.Fd answer.0))
    (λ E memory h. h) (DupToGives-some rules.limits S.descriptors p fd to whole.made)
ComesTo-some rules processes S p n (CloseFd fd) whole =
    call_some S p n (CloseGives S.descriptors p fd) (λ E released. answered (with_released S E p released) p n replies.Ok)
    (λ E memory h. h) (CloseGives-some S.descriptors p fd whole.made)
ComesTo-some rules processes S p n (Seek fd offset) whole =
    call_some S p n (SeekGives S.descriptors p fd offset) (λ E done. answered (record S { descriptors = E }) p n replies.Ok)
    (λ E memory h. h) (SeekGives-some S.descriptors p fd offset whole.made)
ComesTo-some rules processes S p n (Resize fd size) whole =
    call_some S p n (ResizeGives S.descriptors p fd size) (λ E done. answered (record S { descriptors = E }) p n replies.Ok)
    (λ E memory h. h) (ResizeGives-some S.descriptors p fd size whole.made)
ComesTo-some rules processes S p n (Lk fd cmd lock) whole = LockComesTo-some rules S p n fd cmd lock
ComesTo-some rules processes S p n (Flock fd op nb) whole = FlockComesTo-some rules S p n fd op nb
ComesTo-some rules processes S p n (Fork child) whole =
    call_some S p n (ForkGives processes S.descriptors p child) (λ E done. answered (with_process (record S { descriptors = E }) child Live) p n replies.Ok)
    (λ E memory h. h) (ForkGives-some processes S.descriptors p child)
ComesTo-some rules processes S p n Exit whole = EndComesTo-some S p [] whole
ComesTo-some rules processes S p n (Signal target) whole = SignalComesTo-some S p n target (S.states target) whole refl
ComesTo-some rules processes S p n (Kill target) whole = KillComesTo-some S p n target whole
ComesTo-some rules processes S p n (Enter section visit) whole =
    MatchBool-by (λ P. AtLeastOne P) (may_enter S.visits p section) _ _ (this_value _ _ refl) (this_value _ _ refl)
ComesTo-some rules processes S p n (Leave section) whole =
    MatchBool-by (λ P. AtLeastOne P) (may_leave S.visits p section) _ _ (this_value _ _ refl) (this_value _ _ refl)
ComesTo-some rules processes S p n Bail whole =
    MatchBool-by (λ P. AtLeastOne P) (S.refused p) _ _ (EndComesTo-some S p [] whole) (this_value _ _ refl)

-- there is a step
pub Step-some : (rules : Rules) (processes : ℕ) (S : State) (p n : ℕ) (request : Request) → IsWhole S → S.states p ≡ Live
    → ¬ ((notes : List Note) (T : State) → ¬ Step rules processes S p n request notes T)
Step-some rules processes S p n request whole live none =
    ComesTo-some rules processes S p n request whole
    (λ outcome comes.
    settled_some rules.policy (marked S p request outcome)
    (λ grants T settles.
    none (outcome.told ++ grants) T
    (record { live = live; outcome = outcome; comes_to = comes; grants = grants; settles = settles; are_notes = refl })))
