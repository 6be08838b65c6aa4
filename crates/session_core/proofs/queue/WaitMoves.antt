-- What each event does to the list of waits, under the queue policy.
use Rattle.session_core.proofs.Common.{arith, rules, ℕ, ◌≡◌, ◌≢◌, ◌⊎◌, inl, inr, refl, sym, ap, subst, eq-eqb, ne_eqb, Bool, true, false, List, [], ◌∷◌, ◌++◌, ⊎_elim, Any, Option, Some, None, Result, Ok, Err, MatchBool, MatchOption, MatchResult, common_steps, IsTrue, IsFalse, cases_eq}
use Rattle.session_core.proofs.Common.{Mode, Read, Write, flock_mode_in, FdFault, Look, look_at, Policy, Queue, Wait, WaitsConflict, wait_of, without_wait_of, Rules, Lock, LkCmd, GetLk, SetLk, SetLkW, OGetLk, OSetLk, OSetLkW, FlockOp, Sh, Ex, Un, Errno, EINTR, Request, OpenFile, Dup, DupTo, CloseFd, Seek, Resize, Lk, Flock, Fork, Exit, Signal, Kill, Enter, Leave, Bail, Note, Answer, Waits, Reply, ProcState, Unborn, Live, Waiting, Ended, State, with_lock, with_flock_mode, with_process, Settles, granted, Outcome, answered, answered_then, refused, waits_then, IsRefusal, with_released, LockComesTo, CommandComesTo, FlockComesTo, FlockOpComesTo, FlockModeComesTo, FlockTestComesTo, is_same_mode, wanted_flock, without_wait, KillComesTo, ComesTo, Step, WouldWaitAs}
use Rattle.std.proofs.Common.{append-nil, append_assoc}
use Rattle.std.specs.Prelude.{◌||◌}
use Rattle.range_core.specs.declared.Span.{Span}
use Rattle.range_core.specs.Resolving.{resolution}
use Rattle.wait_core.specs.Locks.{Locks}
use Rattle.wait_core.specs.Blocking.{IsBlocked}
use Rattle.lock_manager.specs.declared.request.Errno.TheVariants.{EINVAL}
use Rattle.lock_manager.specs.declared.request.Reply.TheVariants as replies
use Rattle.lock_manager.specs.LockWords.{is_get, may_wait, wanted_mode, permits, wanted_lock}
use Rattle.lock_manager.specs.LockCommands.{GetComesTo, DescribedComesTo, RangeComesTo, ModeComesTo}
use Rattle.lock_manager.specs.Sections.{may_enter, may_leave, marked}
use Rattle.lock_manager.specs.ProcessCalls.{EndComesTo, SignalComesTo, KillOtherComesTo}
use Rattle.session_core.proofs.tallies.OutcomeLaws.{cases_fact, cases_bool}
use Rattle.session_core.proofs.tallies.Moves.{SameProcesses-lock}
use Rattle.session_core.proofs.queue.WaitPlaces.{Passes, Passes-then}

-- the caller is answered, and grants follow
pub record Answers (waits : List Wait) (p n : ℕ) (notes : List Note) (left : List Wait) : Type 0 where
  pub reply : Reply
  pub grants : List Note
  pub are : notes ≡ Answer p n reply ∷ grants
  pub passes : Passes waits grants left

-- the caller waits: it joins behind what the grants of its conversion left
pub record Joins (S : State) (p n : ℕ) (request : Request) (notes : List Note) (left : List Wait) : Type 0 where
  pub wait : Wait
  pub asks : WouldWaitAs S p n request wait
  pub inner : List Note
  pub middle : List Wait
  pub outer : List Note
  pub are : notes ≡ Waits p n ∷ (inner ++ outer)
  pub first : Passes S.waits inner middle
  pub second : Passes (middle ++ wait ∷ []) outer left

-- a wait is interrupted
pub record Interrupts (waits : List Wait) (p n : ℕ) (notes : List Note) (left : List Wait) : Type 0 where
  pub target : ℕ
  pub wait : Wait
  pub found : wait_of waits target ≡ Some wait
  pub grants : List Note
  pub are : notes ≡ Answer p n replies.Ok ∷ Answer target wait.n (replies.Err EINTR) ∷ grants
  pub passes : Passes (without_wait_of waits target) grants left

-- an end is told to none but the caller of a kill
abbrev pub IsToldOf : ℕ → ℕ → Request → ℕ → List Note → Type 0
IsToldOf p n request target told =
    ((p ≡ target) × ((request ≡ Exit) ⊎ (request ≡ Kill target)) × (told ≡ []))
    ⊎ ((p ≢ target) × (request ≡ Kill target) × (told ≡ Answer p n replies.Ok ∷ []))

-- a process ends
pub record Ends (waits : List Wait) (p n : ℕ) (request : Request) (notes : List Note) (left : List Wait) : Type 0 where
  pub target : ℕ
  pub told : List Note
  pub how : IsToldOf p n request target told
  pub grants : List Note
  pub are : notes ≡ told ++ grants
  pub passes : Passes (without_wait_of waits target) grants left

-- a live process ends by its bail, which tells nothing
pub record Bails (S : State) (p : ℕ) (notes : List Note) (left : List Wait) : Type 0 where
  pub live : S.states p ≡ Live
  pub passes : Passes (without_wait_of S.waits p) notes left

-- the list of waits moves in one of these ways
pub data WaitsMove (S : State) (p n : ℕ) (request : Request) (notes : List Note) (left : List Wait) : Type 0 where
  answers : Answers S.waits p n notes left → WaitsMove S p n request notes left
  joins : Joins S p n request notes left → WaitsMove S p n request notes left
  interrupts : Interrupts S.waits p n notes left → WaitsMove S p n request notes left
  ends : Ends S.waits p n request notes left → WaitsMove S p n request notes left
  bails : Bails S p notes left → WaitsMove S p n request notes left

-- and then by further grants
WaitsMove-then : (S : State) (p n : ℕ) (request : Request) (told : List Note) (middle : List Wait) (grants : List Note) (left : List Wait)
    → WaitsMove S p n request told middle → Passes middle grants left → WaitsMove S p n request (told ++ grants) left
WaitsMove-then S p n request told middle grants left h h2 = grind (arith, common_steps, Passes-then, append_assoc)

-- what nothing blocks under the queue policy conflicts with no earlier wait
pub ready_apart : (policy : Policy) (locks : Locks) (earlier : List Wait) (wait : Wait) → policy ≡ Queue → ¬ IsBlocked policy locks earlier wait
    → ¬ Any (λ v. WaitsConflict v wait) earlier
ready_apart policy locks earlier wait is ready among =
    ready (subst (λ policy. IsBlocked policy locks earlier wait) (sym is) (inr among))

-- settling grants waits that conflict with none before them
pub Settles-passes : (policy : Policy) (S : State) (grants : List Note) (T : State) → policy ≡ Queue → Settles policy S grants T
    → Passes S.waits grants T.waits
Settles-passes policy S [] T is h = ap (λ (X : State). X.waits) h.1
Settles-passes policy S (grant ∷ grants) T is h = (
  h.0,
  h.1,
  h.2,
  h.3.place,
  ready_apart policy _ h.0 h.1 is h.3.ready,
  h.4,
  Settles-passes policy (granted S h.0 h.1 h.2) grants T is h.5,
)

-- what a request comes to moves the list so
abbrev Comes : State → ℕ → ℕ → Request → Outcome → Type 0
Comes S p n request outcome = WaitsMove S p n request outcome.told outcome.after.waits

module _ (S : State) (p n : ℕ) (request : Request) (outcome : Outcome) where
  -- the caller is answered, behind grants of a conversion or none
  comes_answer_then : (T : State) (reply : Reply) (grants : List Note) → Passes S.waits grants T.waits → outcome ≡ answered_then T p n reply grants
      → Comes S p n request outcome
  comes_answer_then T reply grants passes is =
      subst (Comes S p n request) (sym is) (answers (record { reply = reply; grants = grants; are = refl; passes = passes }))

  comes_answer : (T : State) (reply : Reply) → T.waits ≡ S.waits → outcome ≡ answered T p n reply → Comes S p n request outcome
  comes_answer T reply same is = comes_answer_then T reply [] same is

  comes_refused : (error : Errno) → outcome ≡ refused S p n error → Comes S p n request outcome
  comes_refused error is = comes_answer S (replies.Err error) refl is

  comes_refusal : (fault : FdFault) → IsRefusal S p n fault outcome → Comes S p n request outcome
  comes_refusal fault h = grind (arith, common_steps, comes_refused)

  -- a call that moves no wait
  comes_call : {X : Type 0} (T : X → State) (reply : X → Reply) (result : Result X FdFault) → ((x : X) → (T x).waits ≡ S.waits)
      → MatchResult result (λ x. outcome ≡ answered (T x) p n (reply x)) (λ fault. IsRefusal S p n fault outcome)
      → Comes S p n request outcome
  comes_call T reply (Ok x) same is = comes_answer (T x) (reply x) (same x) is
  comes_call T reply (Err fault) same is = comes_refusal fault is

-- the caller waits
comes_wait : (S settled : State) (request : Request) (wanted : Wait) (grants : List Note) (outcome : Outcome)
    → WouldWaitAs S wanted.p wanted.n request wanted → Passes S.waits grants settled.waits → outcome ≡ waits_then settled wanted grants
    → Comes S wanted.p wanted.n request outcome
comes_wait S settled request wanted grants outcome asks passes is = grind (arith, common_steps, append-nil)

-- the lock is set, which moves no wait
locked_waits : (S : State) (wanted : Wait) → (with_lock S wanted).waits ≡ S.waits
locked_waits S wanted = (SameProcesses-lock S wanted).waits

-- one of two facts, where it is known which option or result is matched
known_option : {X : Type 0} {None' : Type 0} (Some' : X → Type 0) (o : Option X) → MatchOption o None' Some'
    → None' ⊎ ((x : X) × (o ≡ Some x) × Some' x)
known_option Some' None h = inl h
known_option Some' (Some x) h = inr (x, refl, h)

known_result : {X E : Type 0} (Ok' : X → Type 0) (Err' : E → Type 0) (r : Result X E) → MatchResult r Ok' Err'
    → ((x : X) × (r ≡ Ok x) × Ok' x) ⊎ ((e : E) × Err' e)
known_result Ok' Err' (Ok x) h = inl (x, refl, h)
known_result Ok' Err' (Err e) h = inr (e, h)

-- the test of a request, behind the grants of its conversion or none
comes_test : (rules : Rules) (S settled : State) (request : Request) (nb : Bool) (wanted : Wait) (grants : List Note) (outcome : Outcome)
    → (IsFalse nb → WouldWaitAs S wanted.p wanted.n request wanted) → Passes S.waits grants settled.waits
    → FlockTestComesTo rules settled nb wanted grants outcome → Comes S wanted.p wanted.n request outcome
comes_test rules S settled request nb wanted grants outcome h h2 h3 = grind (arith, common_steps, comes_answer_then, locked_waits, cases_fact, comes_wait)

-- a get command moves no wait
comes_get : (S : State) (request : Request) (wanted : Wait) (outcome : Outcome) → GetComesTo S wanted outcome
    → Comes S wanted.p wanted.n request outcome
comes_get S request wanted outcome is = grind (arith, common_steps, comes_answer, cases_fact)

-- a lock command on a range, with a mode
comes_command : (rules : Rules) (S : State) (request : Request) (cmd : LkCmd) (wanted : Wait) (outcome : Outcome)
    → (IsTrue (may_wait cmd) → WouldWaitAs S wanted.p wanted.n request wanted) → CommandComesTo rules S cmd wanted outcome
    → Comes S wanted.p wanted.n request outcome
comes_command rules S request GetLk wanted outcome asks is = comes_get S request wanted outcome is
comes_command rules S request OGetLk wanted outcome asks is = comes_get S request wanted outcome is
comes_command rules S request SetLk wanted outcome asks is = comes_test rules S S request true wanted [] outcome (λ no. cc) refl is
comes_command rules S request OSetLk wanted outcome asks is = comes_test rules S S request true wanted [] outcome (λ no. cc) refl is
comes_command rules S request OSetLkW wanted outcome asks is =
    comes_test rules S S request false wanted [] outcome (λ waits. asks refl) refl is
comes_command rules S request SetLkW wanted outcome asks is =
    ⊎_elim
    (λ blocked.
    ⊎_elim (λ no. comes_refused S wanted.p wanted.n request outcome _ no)
    (λ waits. comes_wait S S request wanted [] outcome (asks refl) refl waits) (cases_fact blocked))
    (λ yes. comes_answer S wanted.p wanted.n request outcome (with_lock S wanted) _ (locked_waits S wanted) yes) (cases_fact is)

comes_mode : (rules : Rules) (S : State) (p n fd : ℕ) (cmd : LkCmd) (lock : Lock) (look : Look) (span : Span) (mode : Mode) (outcome : Outcome)
    → look_at S.descriptors p fd ≡ Some look → resolution lock.whence lock.start lock.len look.offset look.size ≡ Ok span
    → wanted_mode lock.kind ≡ Some mode → ModeComesTo rules S p n cmd look span mode outcome → Comes S p n (Lk fd cmd lock) outcome
comes_mode rules S p n fd cmd lock look span mode outcome opened ranged moded is =
    ⊎_elim
    (λ yes.
    comes_command rules S (Lk fd cmd lock) cmd (wanted_lock cmd p n look span mode) outcome
    (λ may. (may, record { look = look; of_open = opened; span = span; of_range = ranged; mode = mode; of_kind = moded; is = refl })) yes)
    (λ no. comes_refused S p n (Lk fd cmd lock) outcome _ no) (cases_bool (is_get cmd || permits look.access mode) is)

comes_range : (rules : Rules) (S : State) (p n fd : ℕ) (cmd : LkCmd) (lock : Lock) (look : Look) (span : Span) (outcome : Outcome)
    → look_at S.descriptors p fd ≡ Some look → resolution lock.whence lock.start lock.len look.offset look.size ≡ Ok span
    → RangeComesTo rules S p n cmd lock.kind look span outcome → Comes S p n (Lk fd cmd lock) outcome
comes_range rules S p n fd cmd lock look span outcome opened ranged is = grind (arith, common_steps, comes_answer, comes_mode, known_option)

comes_described : (rules : Rules) (S : State) (p n fd : ℕ) (cmd : LkCmd) (lock : Lock) (look : Look) (outcome : Outcome)
    → look_at S.descriptors p fd ≡ Some look → DescribedComesTo rules S p n cmd lock look outcome → Comes S p n (Lk fd cmd lock) outcome
comes_described rules S p n fd cmd lock look outcome opened is = grind (arith, common_steps, comes_refused, comes_range, known_result, cases_bool)

comes_lock : (rules : Rules) (S : State) (p n fd : ℕ) (cmd : LkCmd) (lock : Lock) (outcome : Outcome)
    → LockComesTo rules S p n fd cmd lock outcome → Comes S p n (Lk fd cmd lock) outcome
comes_lock rules S p n fd cmd lock outcome is = grind (arith, common_steps, comes_refused, comes_described, known_option)

comes_flock_mode : (rules : Rules) (S : State) (request : Request) (look : Look) (nb : Bool) (wanted : Wait) (mode : Option Mode) (outcome : Outcome)
    → rules.policy ≡ Queue → (IsFalse nb → WouldWaitAs S wanted.p wanted.n request wanted)
    → FlockModeComesTo rules S look nb wanted mode outcome → Comes S wanted.p wanted.n request outcome
comes_flock_mode rules S request look nb wanted None outcome queue asks is =
    comes_test rules S S request nb wanted [] outcome asks refl is
comes_flock_mode rules S request look nb wanted (Some held) outcome queue asks is =
    ⊎_elim (λ already. comes_answer S wanted.p wanted.n request outcome S _ refl already)
    (λ converted.
    comes_test rules S converted.1 request nb wanted converted.0 outcome asks
    (Settles-passes rules.policy (with_flock_mode S look.file look.desc None) converted.0 converted.1 queue converted.2) converted.3)
    (cases_bool (is_same_mode held wanted.mode) is)

comes_flock_op : (rules : Rules) (S : State) (p n fd : ℕ) (look : Look) (op : FlockOp) (nb : Bool) (outcome : Outcome) → rules.policy ≡ Queue
    → look_at S.descriptors p fd ≡ Some look → FlockOpComesTo rules S p n look op nb outcome → Comes S p n (Flock fd op nb) outcome
comes_flock_op rules S p n fd look Un nb outcome queue opened is =
    comes_answer S p n (Flock fd Un nb) outcome (with_flock_mode S look.file look.desc None) replies.Ok refl is
comes_flock_op rules S p n fd look Sh nb outcome queue opened is =
    comes_flock_mode rules S (Flock fd Sh nb) look nb (wanted_flock p n look Read) (flock_mode_in S.flock_changes look.file look.desc) outcome
    queue (λ waits. (waits, record { look = look; of_open = opened; mode = Read; of_op = refl; is = refl })) is
comes_flock_op rules S p n fd look Ex nb outcome queue opened is =
    comes_flock_mode rules S (Flock fd Ex nb) look nb (wanted_flock p n look Write) (flock_mode_in S.flock_changes look.file look.desc) outcome
    queue (λ waits. (waits, record { look = look; of_open = opened; mode = Write; of_op = refl; is = refl })) is

comes_flock : (rules : Rules) (S : State) (p n fd : ℕ) (op : FlockOp) (nb : Bool) (outcome : Outcome) → rules.policy ≡ Queue
    → FlockComesTo rules S p n fd op nb outcome → Comes S p n (Flock fd op nb) outcome
comes_flock rules S p n fd op nb outcome queue is = grind (arith, common_steps, comes_refused, comes_flock_op, known_option)

-- a process ends
comes_end : (S : State) (p n target : ℕ) (request : Request) (told : List Note) (outcome : Outcome) → IsToldOf p n request target told
    → EndComesTo S target told outcome → Comes S p n request outcome
comes_end S p n target request told outcome how is = grind (arith, common_steps, append-nil)

comes_signal : (S : State) (p n target : ℕ) (state : ProcState) (outcome : Outcome) → SignalComesTo S p n target state outcome
    → Comes S p n (Signal target) outcome
comes_signal S p n target state outcome h = grind (arith, common_steps, comes_refused, comes_answer)

comes_kill_other : (S : State) (p n target : ℕ) (state : ProcState) (outcome : Outcome) → p ≢ target
    → KillOtherComesTo S p n target state outcome → Comes S p n (Kill target) outcome
comes_kill_other S p n target Unborn outcome other is = comes_refused S p n (Kill target) outcome _ is
comes_kill_other S p n target Ended outcome other is = comes_refused S p n (Kill target) outcome _ is
comes_kill_other S p n target Live outcome other is = comes_end S p n target (Kill target) _ outcome (inr (other, refl, refl)) is
comes_kill_other S p n target Waiting outcome other is = comes_end S p n target (Kill target) _ outcome (inr (other, refl, refl)) is

comes_kill : (S : State) (p n target : ℕ) (outcome : Outcome) → KillComesTo S p n target outcome → Comes S p n (Kill target) outcome
comes_kill S p n target outcome is =
    let Own : Type 0 = EndComesTo S p [] outcome in
    let Other : Type 0 = KillOtherComesTo S p n target (S.states target) outcome in
    ⊎_elim
    (λ same.
    let own : Own = subst (λ b. MatchBool b Own Other) (eq-eqb target p same) is in
    comes_end S p n target (Kill target) [] outcome (inl (sym same, inr refl, refl)) (subst (λ q. EndComesTo S q [] outcome) (sym same) own))
    (λ differs.
    let other : Other = subst (λ b. MatchBool b Own Other) (ne_eqb target p differs) is in
    comes_kill_other S p n target (S.states target) outcome (λ e. differs (sym e)) other)
    (cases_eq target p)

-- enter and leave
comes_allowed : (S : State) (p n : ℕ) (request : Request) (allowed : Bool) (outcome : Outcome)
    → MatchBool allowed (outcome ≡ answered S p n replies.Ok) (outcome ≡ refused S p n EINVAL) → Comes S p n request outcome
comes_allowed S p n request true outcome is = comes_answer S p n request outcome S replies.Ok refl is
comes_allowed S p n request false outcome is = comes_refused S p n request outcome _ is

-- a live process ends, or is answered
comes_bail : (S : State) (p n : ℕ) (refused : Bool) (outcome : Outcome) → S.states p ≡ Live
    → MatchBool refused (EndComesTo S p [] outcome) (outcome ≡ answered S p n replies.Ok) → Comes S p n Bail outcome
comes_bail S p n true outcome live is =
    let after : State = with_process (with_released (without_wait S p) is.1 p is.0) p Ended in
    subst (λ (o : Outcome). Comes S p n Bail o) (sym is.3) (bails (record { live = live; passes = refl }))
comes_bail S p n false outcome live is = comes_answer S p n Bail outcome S replies.Ok refl is

module _ (rules : Rules) (processes : ℕ) (S : State) (p n : ℕ) (outcome : Outcome) (queue : rules.policy ≡ Queue) (live : S.states p ≡ Live) where
  -- whatever the request: one case for each that is served
  comes_request : (request : Request) → ComesTo rules processes S p n request outcome → Comes S p n request outcome
  comes_request (OpenFile file access) is =
      comes_call S p n (OpenFile file access) outcome (λ fd. record S { descriptors = is.1 }) (λ fd. replies.Fd fd) is.0 (λ fd. refl) is.3
  comes_request (Dup fd) is =
      comes_call S p n (Dup fd) outcome (λ free. record S { descriptors = is.1 }) (λ free. replies.Fd free) is.0 (λ free. refl) is.3
  comes_request (DupTo fd to) is =
      comes_call S p n (DupTo fd to) outcome (λ answer. with_released S is.1 p answer.1) (λ answer. replies.Fd answer.0) is.0 (λ answer. refl) is.3
  comes_request (CloseFd fd) is =
      comes_call S p n (CloseFd fd) outcome (λ released. with_released S is.1 p released) (λ released. replies.Ok) is.0 (λ released. refl) is.3
  comes_request (Seek fd offset) is =
      comes_call S p n (Seek fd offset) outcome (λ done. record S { descriptors = is.1 }) (λ done. replies.Ok) is.0 (λ done. refl) is.3
  comes_request (Resize fd size) is =
      comes_call S p n (Resize fd size) outcome (λ done. record S { descriptors = is.1 }) (λ done. replies.Ok) is.0 (λ done. refl) is.3
  comes_request (Lk fd cmd lock) is = comes_lock rules S p n fd cmd lock outcome is
  comes_request (Flock fd op nb) is = comes_flock rules S p n fd op nb outcome queue is
  comes_request (Fork child) is =
      comes_call S p n (Fork child) outcome (λ done. with_process (record S { descriptors = is.1 }) child Live) (λ done. replies.Ok) is.0
      (λ done. refl) is.3
  comes_request Exit is = comes_end S p n p Exit [] outcome (inl (refl, inl refl, refl)) is
  comes_request (Signal target) is = comes_signal S p n target (S.states target) outcome is
  comes_request (Kill target) is = comes_kill S p n target outcome is
  comes_request (Enter section visit) is = comes_allowed S p n (Enter section visit) (may_enter S.visits p section) outcome is
  comes_request (Leave section) is = comes_allowed S p n (Leave section) (may_leave S.visits p section) outcome is
  comes_request Bail is = comes_bail S p n (S.refused p) outcome live is

-- each step moves the list so
pub Step-moves : (rules : Rules) (processes : ℕ) (S : State) (p n : ℕ) (request : Request) (notes : List Note) (T : State)
    → rules.policy ≡ Queue → Step rules processes S p n request notes T → WaitsMove S p n request notes T.waits
Step-moves rules processes S p n request notes T queue step =
    subst (λ l. WaitsMove S p n request l T.waits) (sym step.are_notes)
    (WaitsMove-then S p n request step.outcome.told step.outcome.after.waits step.grants T.waits
    (comes_request rules processes S p n step.outcome queue step.live request step.comes_to)
    (Settles-passes rules.policy (marked S p request step.outcome) step.grants T queue step.settles))
