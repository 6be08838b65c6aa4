-- What a step that is refused with EDEADLK has found: for `write_explained`, clause `ok`.
use Rattle.script_core.proofs.FitLemmas.{blocked_at}
use Rattle.script_core.proofs.OutcomeFitLemmas.{by_bool}
use Rattle.script_core.proofs.Common.{arith, rules, ℕ, ◌≡◌, ◌||◌, Bool, true, false, Option, Some, Result, Ok, List, [], ◌∷◌, ◌++◌, refl, MatchOption, MatchResult, common_steps}
use Rattle.script_core.proofs.Common.{Mode, Span, RangeFault, resolution, FdFault, Look, look_at, Policy, Wait, IsTraditional, Rules, Lock, LkCmd, FlockOp, Reply, Note, Request, OpenFile, Dup, DupTo, CloseFd, Seek, Resize, Lk, Flock, Fork, Exit, Signal, Kill, Enter, Leave, Bail, ProcState, State, locks_held, opening_state, IsSettled, Settles, Outcome, IsRefusal, answered, refused, range_error, is_get, is_bad_argument, wanted_mode, permits, wanted_lock, CommandComesTo, DescribedComesTo, FlockTestComesTo, FlockOpComesTo, SignalComesTo, KillOtherComesTo, AsksFor, may_enter, may_leave, ComesTo, Step, is_deadlock}
use Rattle.wait_core.specs.Cycles.{ClosesCycle}
use Rattle.lock_manager.specs.Asking.{AsksForBytes}
use Rattle.script_core.specs.Explaining.{is_edeadlk}

-- a settled state stays
stays_settled : (policy : Policy) (S : State) (grants : List Note) (T : State) → IsSettled policy S → Settles policy S grants T → T ≡ S
stays_settled policy S [] T settled h = h.1
stays_settled policy S (grant ∷ grants) T settled (before, wait, after, next, is, rest) = grind (arith, common_steps, blocked_at)

-- the opening is settled
pub opening_settled : (policy : Policy) → IsSettled policy opening_state
unfolding opening_state
opening_settled policy = tt

-- the notes of a settling don't say EDEADLK
deadlock_told : (policy : Policy) (S : State) (told grants : List Note) (T : State) → Settles policy S grants T → is_deadlock (told ++ grants) ≡ true
    → is_deadlock told ≡ true
deadlock_told policy S told grants T h h2 = grind (arith, common_steps)

-- the outcome of the request is the refusal of a traditional lock whose wait would close a cycle
pub record IsDeadlock (rules : Rules) (S : State) (p n : ℕ) (request : Request) (outcome : Outcome) : Type 0 where
  pub stays : outcome.after ≡ S
  pub wait : Wait
  pub asks : AsksFor S p n request wait
  pub traditional : IsTraditional wait
  pub closes : ClosesCycle rules.policy (locks_held S) S.waits wait

-- where EDEADLK is told it is
abbrev TellsOnly : Rules → State → ℕ → ℕ → Request → Outcome → Type 0
TellsOnly rules S p n request outcome = is_deadlock outcome.told ≡ true → IsDeadlock rules S p n request outcome

other_told : (rules : Rules) (S : State) (p n : ℕ) (request : Request) (outcome other : Outcome) → outcome ≡ other → is_deadlock other.told ≡ false
    → TellsOnly rules S p n request outcome
other_told rules S p n request outcome other is none told = grind (arith, common_steps)

refusal_told : (rules : Rules) (S : State) (p n : ℕ) (request : Request) (fault : FdFault) (outcome : Outcome) → IsRefusal S p n fault outcome
    → TellsOnly rules S p n request outcome
refusal_told rules S p n request fault outcome h = grind (arith, common_steps, other_told)

call_told : {X : Type 0} (rules : Rules) (S : State) (p n : ℕ) (request : Request) (result : Result X FdFault)
    → (after : X → State) (reply : X → Reply) (outcome : Outcome)
    → ((x : X) → is_edeadlk (reply x) ≡ false)
    → MatchResult result (λ x. outcome ≡ answered (after x) p n (reply x)) (λ fault. IsRefusal S p n fault outcome)
    → TellsOnly rules S p n request outcome
call_told rules S p n request result after reply outcome none h = grind (arith, common_steps, other_told, refusal_told)

signal_told : (rules : Rules) (S : State) (p n target : ℕ) (request : Request) (state : ProcState) (outcome : Outcome)
    → SignalComesTo S p n target state outcome
    → TellsOnly rules S p n request outcome
signal_told rules S p n target request state outcome h = grind (arith, common_steps, other_told)

kill_told : (rules : Rules) (S : State) (p n target : ℕ) (request : Request) (state : ProcState) (outcome : Outcome)
    → KillOtherComesTo S p n target state outcome
    → TellsOnly rules S p n request outcome
kill_told rules S p n target request state outcome h = grind (arith, common_steps, other_told)

-- flock
test_told : (rules : Rules) (S U : State) (p n : ℕ) (request : Request) (nb : Bool) (wanted : Wait) (grants : List Note) (outcome : Outcome)
    → FlockTestComesTo rules U nb wanted grants outcome → TellsOnly rules S p n request outcome
test_told rules S U p n request nb wanted grants outcome h = grind (arith, common_steps, other_told)

-- by cases
pub if_option : {Y : Type 0} (o : Option Y) (P : Type 0) (Q : Y → Type 0) (X : Type 0) → MatchOption o P Q → (P → X) → ((y : Y) → o ≡ Some y → Q y → X) → X
if_option o P Q X h one other = grind (arith, common_steps)

pub if_result : {Y E : Type 0} (r : Result Y E) (P : Y → Type 0) (Q : E → Type 0) (X : Type 0) → MatchResult r P Q → ((y : Y) → r ≡ Ok y → P y → X)
    → ((e : E) → Q e → X) → X
if_result r P Q X h one other = grind (arith, common_steps)

op_told : (rules : Rules) (S : State) (p n : ℕ) (request : Request) (look : Look) (op : FlockOp) (nb : Bool) (outcome : Outcome)
    → FlockOpComesTo rules S p n look op nb outcome → TellsOnly rules S p n request outcome
op_told rules S p n request look op nb outcome h = grind (arith, common_steps, other_told, test_told, by_bool)

-- the lock commands
command_told : (rules : Rules) (S : State) (p n fd : ℕ) (cmd : LkCmd) (lock : Lock) (look : Look) (span : Span) (mode : Mode) (outcome : Outcome)
    → AsksForBytes S p n fd cmd lock (wanted_lock cmd p n look span mode)
    → CommandComesTo rules S cmd (wanted_lock cmd p n look span mode) outcome → TellsOnly rules S p n (Lk fd cmd lock) outcome
command_told rules S p n fd cmd lock look span mode outcome h h2 = grind (arith, common_steps, other_told)

range_told : (rules : Rules) (S : State) (p n : ℕ) (request : Request) (fault : RangeFault) (outcome : Outcome) → outcome ≡ refused S p n (range_error fault)
    → TellsOnly rules S p n request outcome
range_told rules S p n request fault outcome h = grind (arith, common_steps, other_told)

described_told : (rules : Rules) (S : State) (p n fd : ℕ) (cmd : LkCmd) (lock : Lock) (look : Look) (outcome : Outcome)
    → look_at S.descriptors p fd ≡ Some look
    → DescribedComesTo rules S p n cmd lock look outcome → TellsOnly rules S p n (Lk fd cmd lock) outcome
described_told rules S p n fd cmd lock look outcome opened h =
    by_bool (is_bad_argument cmd lock) h
    (λ bad. other_told rules S p n (Lk fd cmd lock) outcome _ bad refl)
    (λ good. if_result (resolution lock.whence lock.start lock.len look.offset look.size) _ _ (TellsOnly rules S p n (Lk fd cmd lock) outcome) good
    (λ span resolved ranged. if_option (wanted_mode lock.kind) _ _ (TellsOnly rules S p n (Lk fd cmd lock) outcome) ranged
    (λ unlocked. other_told rules S p n (Lk fd cmd lock) outcome _ unlocked refl)
    (λ mode kind wants. by_bool (is_get cmd || permits look.access mode) wants
    (command_told rules S p n fd cmd lock look span mode outcome
    (record { look = look; of_open = opened; span = span; of_range = resolved; mode = mode; of_kind = kind; is = refl }))
    (λ denied. other_told rules S p n (Lk fd cmd lock) outcome _ denied refl)))
    (λ fault no_range. range_told rules S p n (Lk fd cmd lock) fault outcome no_range))

-- each request
outcome_told : (rules : Rules) (processes : ℕ) (S : State) (p n : ℕ) (request : Request) (outcome : Outcome) → ComesTo rules processes S p n request outcome
    → TellsOnly rules S p n request outcome
outcome_told rules processes S p n (OpenFile file access) outcome h = grind (arith, common_steps, call_told)
outcome_told rules processes S p n (Dup fd) outcome h = call_told rules S p n (Dup fd) h.0 _ _ outcome (λ x. refl) h.3
outcome_told rules processes S p n (DupTo fd to) outcome h = call_told rules S p n (DupTo fd to) h.0 _ _ outcome (λ x. refl) h.3
outcome_told rules processes S p n (CloseFd fd) outcome h = call_told rules S p n (CloseFd fd) h.0 _ _ outcome (λ x. refl) h.3
outcome_told rules processes S p n (Seek fd offset) outcome h = call_told rules S p n (Seek fd offset) h.0 _ _ outcome (λ x. refl) h.3
outcome_told rules processes S p n (Resize fd size) outcome h = call_told rules S p n (Resize fd size) h.0 _ _ outcome (λ x. refl) h.3
outcome_told rules processes S p n (Fork child) outcome h = call_told rules S p n (Fork child) h.0 _ _ outcome (λ x. refl) h.3
outcome_told rules processes S p n (Lk fd cmd lock) outcome h =
    if_option (look_at S.descriptors p fd) _ _ (TellsOnly rules S p n (Lk fd cmd lock) outcome) h
    (λ closed. other_told rules S p n (Lk fd cmd lock) outcome _ closed refl)
    (λ look opened described. described_told rules S p n fd cmd lock look outcome opened described)
outcome_told rules processes S p n (Flock fd op nb) outcome h = grind (arith, common_steps, if_option, other_told, op_told)
outcome_told rules processes S p n Exit outcome h = other_told rules S p n Exit outcome _ h.3 refl
outcome_told rules processes S p n (Signal target) outcome h = signal_told rules S p n target (Signal target) (S.states target) outcome h
outcome_told rules processes S p n (Kill target) outcome h = grind (arith, common_steps, by_bool, other_told, kill_told)
outcome_told rules processes S p n (Enter section visit) outcome h =
    by_bool (may_enter S.visits p section) h (λ done. other_told rules S p n (Enter section visit) outcome _ done refl)
    (λ no. other_told rules S p n (Enter section visit) outcome _ no refl)
outcome_told rules processes S p n (Leave section) outcome h =
    by_bool (may_leave S.visits p section) h (λ done. other_told rules S p n (Leave section) outcome _ done refl)
    (λ no. other_told rules S p n (Leave section) outcome _ no refl)
outcome_told rules processes S p n Bail outcome h =
    by_bool (S.refused p) h (λ ends. other_told rules S p n Bail outcome _ ends.3 refl) (λ goes_on. other_told rules S p n Bail outcome _ goes_on refl)

-- what a step that was refused with EDEADLK has found, from a settled state: it leaves that state
pub record HasClosed (rules : Rules) (p n : ℕ) (request : Request) (T : State) : Type 0 where
  pub wait : Wait
  pub asks : AsksFor T p n request wait
  pub traditional : IsTraditional wait
  pub closes : ClosesCycle rules.policy (locks_held T) T.waits wait

pub step_closes : (rules : Rules) (processes : ℕ) (S : State) (p n : ℕ) (request : Request) (notes : List Note) (T : State) → IsSettled rules.policy S
    → Step rules processes S p n request notes T → is_deadlock notes ≡ true → HasClosed rules p n request T
step_closes rules processes S p n request notes T settled step told = grind (arith, common_steps, deadlock_told, outcome_told, stays_settled)
