-- What a request comes to is determined, and so is the step.
use Rattle.lock_manager.proofs.Common.{arith, rules, ◌≡◌, ℕ, ℤ, List, [], ◌∷◌, ◌==◌, Bool, true, false, Option, sym, ◌∙◌, Some, Result, MatchResult, common_steps, same_Some}
use Rattle.lock_manager.proofs.Common.{Mode, FdFault, Look, Descriptors, SeekGives, ResizeGives, EndGives, Wait, IsBlockedByLock, IsBlocked, wait_of, Rules, Lock, LkCmd, GetLk, SetLk, SetLkW, OGetLk, OSetLk, OSetLkW, Request, OpenFile, Dup, DupTo, CloseFd, Seek, Resize, Lk, Flock, Fork, Exit, Signal, Kill, Enter, Leave, Bail, ProcState, Unborn, Live, Waiting, Ended, State, locks_held, Outcome, answered, IsRefusal, Note, Answer, GetComesTo, CommandComesTo, LockComesTo, FlockOp, FlockTestComesTo, FlockModeComesTo, FlockComesTo, EndComesTo, SignalComesTo, KillOtherComesTo, may_enter, may_leave, ComesTo}
use Rattle.lock_manager.specs.declared.request.Reply.TheVariants as replies
use Rattle.lock_manager.specs.DescriptorCalls.{SeekComesTo, ResizeComesTo}
use Rattle.lock_manager.specs.LockCommands.{SetComesTo, SetOrWaitComesTo, WaitOrDeadlockComesTo}
use Rattle.lock_manager.specs.ProcessCalls.{KillComesTo}
use Rattle.lock_manager.specs.OneOutcome.{StepHasOneOutcome}
use Rattle.lock_manager.proofs.unique.AtMostOneLemmas.{AtMostOne, one_value, MatchFact-unique, by_one, by_two}
use Rattle.lock_manager.proofs.ChoiceLemmas.{MatchBool-by, MatchResult-by, LockComesTo-by, FlockComesTo-by}
use Rattle.lock_manager.proofs.unique.FirstBlockerLaws.{IsFirstBlocker-unique}
use Rattle.lock_manager.proofs.unique.DescriptorCallLaws.{DupGives-unique, DupToGives-unique, CloseGives-unique, SeekGives-unique, ResizeGives-unique, ForkGives-unique, EndGives-unique, OpenGives-unique}
use Rattle.lock_manager.proofs.unique.SettlingLaws.{Settles-unique}

-- each refusal is one outcome
IsRefusal-unique : (S : State) (p n : ℕ) (fault : FdFault) → AtMostOne (IsRefusal S p n fault)
IsRefusal-unique S p n fault = grind (arith, common_steps, one_value)

-- the answer of a call on descriptors is one outcome, that of its result or the refusal
answer-unique : {R : Type 0} (S : State) (p n : ℕ) (done : R → Outcome) (result : Result R FdFault)
    → AtMostOne (λ outcome. MatchResult result (λ r. outcome ≡ done r) (λ fault. IsRefusal S p n fault outcome))
answer-unique S p n done result = MatchResult-by (λ P. AtMostOne P) result _ _ (λ r. one_value (done r)) (λ fault. IsRefusal-unique S p n fault)

-- a call that answers nothing but that it is done
done-unique : (S : State) (p n : ℕ) (descriptors : Descriptors) (result : Result (Unit {0}) FdFault)
    → AtMostOne (λ outcome. MatchResult result (λ done. outcome
    ≡ answered (record S { descriptors = descriptors }) p n replies.Ok) (λ fault. IsRefusal S p n fault outcome))
done-unique S p n descriptors result = answer-unique S p n (λ done. answered (record S { descriptors = descriptors }) p n replies.Ok) result

SeekComesTo-unique : (S : State) (p n fd : ℕ) (offset : ℤ) → AtMostOne (SeekComesTo S p n fd offset)
SeekComesTo-unique S p n fd offset =
    by_two (SeekGives S.descriptors p fd offset) _ (SeekGives-unique S.descriptors p fd offset) (λ result descriptors. done-unique S p n descriptors result)

ResizeComesTo-unique : (S : State) (p n fd : ℕ) (size : ℤ) → AtMostOne (ResizeComesTo S p n fd size)
ResizeComesTo-unique S p n fd size =
    by_two (ResizeGives S.descriptors p fd size) _ (ResizeGives-unique S.descriptors p fd size) (λ result descriptors. done-unique S p n descriptors result)

EndComesTo-unique : (S : State) (p : ℕ) (told : List Note) → AtMostOne (EndComesTo S p told)
EndComesTo-unique S p told =
    by_two (EndGives S.descriptors p) _ (EndGives-unique S.descriptors p) (λ released descriptors. one_value _)

-- the wait of a process is one
wait-unique : (S : State) (p : ℕ) → AtMostOne (λ wait. wait_of S.waits p ≡ Some wait)
wait-unique S p x y h k = same_Some x y (sym h ∙ k)

SignalComesTo-unique : (S : State) (p n target : ℕ) (state : ProcState) → AtMostOne (SignalComesTo S p n target state)
SignalComesTo-unique S p n target state = grind (arith, common_steps, one_value, by_one, wait-unique)

KillOtherComesTo-unique : (S : State) (p n target : ℕ) (state : ProcState) → AtMostOne (KillOtherComesTo S p n target state)
KillOtherComesTo-unique S p n target Unborn = one_value _
KillOtherComesTo-unique S p n target Ended = one_value _
KillOtherComesTo-unique S p n target Live = EndComesTo-unique S target (Answer p n replies.Ok ∷ [])
KillOtherComesTo-unique S p n target Waiting = EndComesTo-unique S target (Answer p n replies.Ok ∷ [])

KillComesTo-unique : (S : State) (p n target : ℕ) → AtMostOne (KillComesTo S p n target)
KillComesTo-unique S p n target =
    MatchBool-by (λ P. AtMostOne P) (target == p) _ _ (EndComesTo-unique S p []) (KillOtherComesTo-unique S p n target (S.states target))

-- what a get command answers is one outcome
GetComesTo-unique : (S : State) (wanted : Wait) → AtMostOne (GetComesTo S wanted)
GetComesTo-unique S wanted = MatchFact-unique _ _ _ (by_one _ _ (IsFirstBlocker-unique _ _ _ _) (λ blocker. one_value _)) (one_value _)

SetComesTo-unique : (S : State) (wanted : Wait) → AtMostOne (SetComesTo S wanted)
SetComesTo-unique S wanted = MatchFact-unique (IsBlockedByLock (locks_held S) wanted) _ _ (one_value _) (one_value _)

SetOrWaitComesTo-unique : (rules : Rules) (S : State) (wanted : Wait) → AtMostOne (SetOrWaitComesTo rules S wanted)
SetOrWaitComesTo-unique rules S wanted = MatchFact-unique (IsBlocked rules.policy (locks_held S) S.waits wanted) _ _ (one_value _) (one_value _)

WaitOrDeadlockComesTo-unique : (rules : Rules) (S : State) (wanted : Wait) → AtMostOne (WaitOrDeadlockComesTo rules S wanted)
WaitOrDeadlockComesTo-unique rules S wanted = grind (arith, common_steps, MatchFact-unique, one_value)

CommandComesTo-unique : (rules : Rules) (S : State) (cmd : LkCmd) (wanted : Wait) → AtMostOne (CommandComesTo rules S cmd wanted)
CommandComesTo-unique rules S GetLk wanted = GetComesTo-unique S wanted
CommandComesTo-unique rules S OGetLk wanted = GetComesTo-unique S wanted
CommandComesTo-unique rules S SetLk wanted = SetComesTo-unique S wanted
CommandComesTo-unique rules S OSetLk wanted = SetComesTo-unique S wanted
CommandComesTo-unique rules S SetLkW wanted = WaitOrDeadlockComesTo-unique rules S wanted
CommandComesTo-unique rules S OSetLkW wanted = SetOrWaitComesTo-unique rules S wanted

LockComesTo-unique : (rules : Rules) (S : State) (p n fd : ℕ) (cmd : LkCmd) (lock : Lock) → AtMostOne (LockComesTo rules S p n fd cmd lock)
LockComesTo-unique rules S p n fd cmd lock =
    LockComesTo-by (λ P. AtMostOne P) (λ given. one_value given) rules S p n fd cmd lock (λ wanted. CommandComesTo-unique rules S cmd wanted)

FlockTestComesTo-unique : (rules : Rules) (S : State) (nb : Bool) (wanted : Wait) (grants : List Note) → AtMostOne (FlockTestComesTo rules S nb wanted grants)
FlockTestComesTo-unique rules S true wanted grants = MatchFact-unique (IsBlockedByLock (locks_held S) wanted) _ _ (one_value _) (one_value _)
FlockTestComesTo-unique rules S false wanted grants = MatchFact-unique (IsBlocked rules.policy (locks_held S) S.waits wanted) _ _ (one_value _) (one_value _)

FlockModeComesTo-unique : (rules : Rules) (S : State) (look : Look) (nb : Bool) (wanted : Wait) (held : Option Mode)
    → AtMostOne (FlockModeComesTo rules S look nb wanted held)
FlockModeComesTo-unique rules S look nb wanted held = grind (arith, common_steps, FlockTestComesTo-unique, MatchBool-by, one_value, by_two, Settles-unique)

FlockComesTo-unique : (rules : Rules) (S : State) (p n fd : ℕ) (op : FlockOp) (nb : Bool) → AtMostOne (FlockComesTo rules S p n fd op nb)
FlockComesTo-unique rules S p n fd op nb =
    FlockComesTo-by (λ P. AtMostOne P) (λ given. one_value given) rules S p n fd op nb (λ look wanted held. FlockModeComesTo-unique rules S look nb wanted held)

-- a request comes to one outcome
pub ComesTo-unique : (rules : Rules) (processes : ℕ) (S : State) (p n : ℕ) (request : Request) → AtMostOne (ComesTo rules processes S p n request)
ComesTo-unique rules processes S p n (OpenFile file access) = grind (arith, common_steps, by_two, OpenGives-unique, answer-unique)
ComesTo-unique rules processes S p n (Dup fd) = grind (arith, common_steps, by_two, DupGives-unique, answer-unique)
ComesTo-unique rules processes S p n (DupTo fd to) = grind (arith, common_steps, by_two, DupToGives-unique, answer-unique)
ComesTo-unique rules processes S p n (CloseFd fd) = grind (arith, common_steps, by_two, CloseGives-unique, answer-unique)
ComesTo-unique rules processes S p n (Seek fd offset) = SeekComesTo-unique S p n fd offset
ComesTo-unique rules processes S p n (Resize fd size) = ResizeComesTo-unique S p n fd size
ComesTo-unique rules processes S p n (Flock fd op nb) = FlockComesTo-unique rules S p n fd op nb
ComesTo-unique rules processes S p n (Fork child) = grind (arith, common_steps, by_two, ForkGives-unique, answer-unique)
ComesTo-unique rules processes S p n Exit = EndComesTo-unique S p []
ComesTo-unique rules processes S p n (Signal target) = SignalComesTo-unique S p n target (S.states target)
ComesTo-unique rules processes S p n (Kill target) = KillComesTo-unique S p n target
ComesTo-unique rules processes S p n (Enter section visit) = MatchBool-by (λ P. AtMostOne P) (may_enter S.visits p section) _ _ (one_value _) (one_value _)
ComesTo-unique rules processes S p n (Leave section) = MatchBool-by (λ P. AtMostOne P) (may_leave S.visits p section) _ _ (one_value _) (one_value _)
ComesTo-unique rules processes S p n Bail = MatchBool-by (λ P. AtMostOne P) (S.refused p) _ _ (EndComesTo-unique S p []) (one_value _)
ComesTo-unique rules processes S p n (Lk fd cmd lock) = LockComesTo-unique rules S p n fd cmd lock

-- the step has one outcome
pub Step-unique : StepHasOneOutcome
Step-unique h h2 h3 h4 h5 h6 h7 h8 h9 h10 h11 h12 = grind (arith, common_steps, ComesTo-unique, Settles-unique)
