-- What a request comes to whoever is in which section, and was told an error last: for `sections_change_nothing_else`.
use Rattle.lock_manager.proofs.Common.{◌≡◌, ◌∙◌, ◌∷◌, ◌++◌, [], ◌==◌, if◌then◌else◌, ◌||◌, ℕ, List, Bool, true, false, Option, Some, None, Result, Ok, Err, MatchBool, MatchOption, MatchResult, inl, inr, ap, refl, subst}
use Rattle.lock_manager.proofs.Common.{MatchFact, resolution, Mode, Read, Write, Owner, Process, Description, flock_mode_in, FdFault, BadFd, TooMany, Invalid, Taken, Look, look_at, Bytes, Whole, Policy, Wait, Rules, Lock, LkCmd, GetLk, SetLk, SetLkW, OGetLk, OSetLk, OSetLkW, FlockOp, Note, Answer, ProcState, Unborn, Live, Waiting, Ended, Request, OpenFile, Dup, DupTo, CloseFd, Seek, Resize, Lk, Flock, Fork, Exit, Signal, Kill, Enter, Leave, Bail, State, with_flock_mode, with_lock, Settles, granted, Outcome, IsRefusal, is_bad_argument, is_get, permits, wanted_lock, wanted_mode, CommandComesTo, LockComesTo, FlockModeComesTo, FlockOpComesTo, FlockTestComesTo, wanted_flock, EndComesTo, KillOtherComesTo, SignalComesTo, marked, ComesTo}
use Rattle.fd_table.specs.declared.FdFault.TheVariants.{Memory}
use Rattle.wait_core.specs.declared.Family.{Family}
use Rattle.lock_manager.specs.declared.request.FlockOp.TheVariants.{Sh, Ex, Un}
use Rattle.lock_manager.specs.declared.request.Reply.TheVariants as replies
use Rattle.lock_manager.specs.State.{Visits, with_lock_of}
use Rattle.lock_manager.specs.Outcomes.{answered_then}
use Rattle.lock_manager.specs.FlockCalls.{is_same_mode}
use Rattle.lock_manager.specs.Sections.{refused_behind, visits_behind, visits_left}
use Rattle.lock_manager.specs.SectionsApart.{SectionsChangeNothingElse, is_of_sections, with_marks}

-- ---- choices, case by case

map_bool : {P Q R S : Type 0} (b : Bool) → (P → R) → (Q → S) → MatchBool b P Q → MatchBool b R S
map_bool true one another h = one h
map_bool false one another h = another h

map_option : {X P R : Type 0} {Q S : X → Type 0} (o : Option X) → (P → R) → ((x : X) → Q x → S x) → MatchOption o P Q → MatchOption o R S
map_option None one another h = one h
map_option (Some x) one another h = another x h

map_result : {X E : Type 0} {P R : X → Type 0} {Q S : E → Type 0} (result : Result X E) → ((x : X) → P x → R x) → ((e : E) → Q e → S e)
    → MatchResult result P Q → MatchResult result R S
map_result (Ok x) one another h = one x h
map_result (Err e) one another h = another e h

map_fact : {F P Q R S : Type 0} → (P → R) → (Q → S) → MatchFact F P Q → MatchFact F R S
map_fact one another h = elim h [
  | inl holds ↦ inl (holds.0, one holds.1)
  | inr fails ↦ inr (fails.0, another fails.1)
]

-- ---- from a state to the one with other marks

-- a lock is set whatever the marks are
lock_moves : (family : Family) (owner : Owner) (S : State) (wait : Wait) (visits : Visits) (refused : ℕ → Bool)
    → with_marks (with_lock_of family owner S wait) visits refused ≡ with_lock_of family owner (with_marks S visits refused) wait
lock_moves Bytes owner S wait visits refused = refl
lock_moves Whole (Description description) S wait visits refused = refl
lock_moves Whole (Process p) S wait visits refused = refl

Settles-moves : (policy : Policy) (visits : Visits) (refused : ℕ → Bool) (S : State) (grants : List Note) (T : State) → Settles policy S grants T
    → Settles policy (with_marks S visits refused) grants (with_marks T visits refused)
Settles-moves policy visits refused S [] T h = (h.0, ap (λ (X : State). with_marks X visits refused) h.1)
Settles-moves policy visits refused S (grant ∷ grants) T h = (
  h.0,
  h.1,
  h.2,
  h.3,
  h.4,
  subst (λ (X : State). Settles policy (record X { waits = h.0 ++ h.2; states = λ q. if q == h.1.p then Live else X.states q }) grants (with_marks T visits refused))
      (lock_moves h.1.family h.1.owner S h.1 visits refused)
      (Settles-moves policy visits refused (granted S h.0 h.1 h.2) grants T h.5),
)

-- ---- what a request comes to, call by call

module _ (visits : Visits) (refused : ℕ → Bool) where
  -- the outcome, and the state, with these marks
  abbrev moved : Outcome → Outcome
  moved outcome = record { told = outcome.told; after = with_marks outcome.after visits refused }

  abbrev other : State → State
  other S = with_marks S visits refused

  -- the caller is answered, and has its lock
  locked_moves : (S : State) (wanted : Wait) (grants : List Note) (outcome : Outcome)
      → outcome ≡ answered_then (with_lock S wanted) wanted.p wanted.n replies.Ok grants
      → moved outcome ≡ answered_then (with_lock (other S) wanted) wanted.p wanted.n replies.Ok grants
  locked_moves S wanted grants outcome is =
      ap moved is ∙ ap (λ (X : State). answered_then X wanted.p wanted.n replies.Ok grants) (lock_moves wanted.family wanted.owner S wanted visits refused)

  refusal_moves : (S : State) (p n : ℕ) (fault : FdFault) (outcome : Outcome) → IsRefusal S p n fault outcome → IsRefusal (other S) p n fault (moved outcome)
  refusal_moves S p n BadFd outcome is = ap moved is
  refusal_moves S p n TooMany outcome is = ap moved is
  refusal_moves S p n Invalid outcome is = ap moved is
  refusal_moves S p n Taken outcome is = ap moved is
  refusal_moves S p n (Memory memory) outcome is = is

  -- a call on descriptors answers so, or is refused
  answer_moves : {R : Type 0} (S : State) (p n : ℕ) (done : R → Outcome) (result : Result R FdFault) (outcome : Outcome)
      → MatchResult result (λ r. outcome ≡ done r) (λ fault. IsRefusal S p n fault outcome)
      → MatchResult result (λ r. moved outcome ≡ moved (done r)) (λ fault. IsRefusal (other S) p n fault (moved outcome))
  answer_moves S p n done result outcome h = map_result result (λ r is. ap moved is) (λ fault is. refusal_moves S p n fault outcome is) h

  command_moves : (rules : Rules) (S : State) (cmd : LkCmd) (wanted : Wait) (outcome : Outcome) → CommandComesTo rules S cmd wanted outcome
      → CommandComesTo rules (other S) cmd wanted (moved outcome)
  command_moves rules S GetLk wanted outcome h = map_fact (λ told. (told.0, told.1, ap moved told.2)) (λ is. ap moved is) h
  command_moves rules S OGetLk wanted outcome h = map_fact (λ told. (told.0, told.1, ap moved told.2)) (λ is. ap moved is) h
  command_moves rules S SetLk wanted outcome h = map_fact (λ is. ap moved is) (λ is. locked_moves S wanted [] outcome is) h
  command_moves rules S OSetLk wanted outcome h = map_fact (λ is. ap moved is) (λ is. locked_moves S wanted [] outcome is) h
  command_moves rules S SetLkW wanted outcome h =
      map_fact (λ deadlock. map_fact (λ is. ap moved is) (λ is. ap moved is) deadlock) (λ is. locked_moves S wanted [] outcome is) h
  command_moves rules S OSetLkW wanted outcome h = map_fact (λ is. ap moved is) (λ is. locked_moves S wanted [] outcome is) h

  lock_command_moves : (rules : Rules) (S : State) (p n fd : ℕ) (cmd : LkCmd) (lock : Lock) (outcome : Outcome)
      → LockComesTo rules S p n fd cmd lock outcome → LockComesTo rules (other S) p n fd cmd lock (moved outcome)
  lock_command_moves rules S p n fd cmd lock outcome h =
      map_option (look_at S.descriptors p fd) (λ is. ap moved is)
      (λ look described.
      map_bool (is_bad_argument cmd lock) (λ is. ap moved is)
      (λ ranged.
      map_result (resolution lock.whence lock.start lock.len look.offset look.size)
      (λ span asked.
      map_option (wanted_mode lock.kind) (λ is. ap moved is)
      (λ mode permitted.
      map_bool (is_get cmd || permits look.access mode) (λ set. command_moves rules S cmd (wanted_lock cmd p n look span mode) outcome set)
      (λ is. ap moved is) permitted) asked)
      (λ fault is. ap moved is) ranged) described) h

  flock_test_moves : (rules : Rules) (S : State) (nb : Bool) (wanted : Wait) (grants : List Note) (outcome : Outcome)
      → FlockTestComesTo rules S nb wanted grants outcome → FlockTestComesTo rules (other S) nb wanted grants (moved outcome)
  flock_test_moves rules S true wanted grants outcome h = map_fact (λ is. ap moved is) (λ is. locked_moves S wanted grants outcome is) h
  flock_test_moves rules S false wanted grants outcome h = map_fact (λ is. ap moved is) (λ is. locked_moves S wanted grants outcome is) h

  flock_mode_moves : (rules : Rules) (S : State) (look : Look) (nb : Bool) (wanted : Wait) (held : Option Mode) (outcome : Outcome)
      → FlockModeComesTo rules S look nb wanted held outcome → FlockModeComesTo rules (other S) look nb wanted held (moved outcome)
  flock_mode_moves rules S look nb wanted None outcome h = flock_test_moves rules S nb wanted [] outcome h
  flock_mode_moves rules S look nb wanted (Some held) outcome h =
      map_bool (is_same_mode held wanted.mode) (λ is. ap moved is)
      (λ converted. (
        converted.0,
        other converted.1,
        Settles-moves rules.policy visits refused (with_flock_mode S look.file look.desc None) converted.0 converted.1 converted.2,
        flock_test_moves rules converted.1 nb wanted converted.0 outcome converted.3,
      )) h

  flock_op_moves : (rules : Rules) (S : State) (p n : ℕ) (look : Look) (op : FlockOp) (nb : Bool) (outcome : Outcome)
      → FlockOpComesTo rules S p n look op nb outcome → FlockOpComesTo rules (other S) p n look op nb (moved outcome)
  flock_op_moves rules S p n look Un nb outcome is = ap moved is
  flock_op_moves rules S p n look Sh nb outcome h =
      flock_mode_moves rules S look nb (wanted_flock p n look Read) (flock_mode_in S.flock_changes look.file look.desc) outcome h
  flock_op_moves rules S p n look Ex nb outcome h =
      flock_mode_moves rules S look nb (wanted_flock p n look Write) (flock_mode_in S.flock_changes look.file look.desc) outcome h

  end_moves : (S : State) (p : ℕ) (told : List Note) (outcome : Outcome) → EndComesTo S p told outcome → EndComesTo (other S) p told (moved outcome)
  end_moves S p told outcome h = (h.0, h.1, h.2, ap moved h.3)

  signal_moves : (S : State) (p n target : ℕ) (state : ProcState) (outcome : Outcome) → SignalComesTo S p n target state outcome
      → SignalComesTo (other S) p n target state (moved outcome)
  signal_moves S p n target Unborn outcome is = ap moved is
  signal_moves S p n target Ended outcome is = ap moved is
  signal_moves S p n target Live outcome is = ap moved is
  signal_moves S p n target Waiting outcome h = (h.0, h.1, ap moved h.2)

  kill_other_moves : (S : State) (p n target : ℕ) (state : ProcState) (outcome : Outcome) → KillOtherComesTo S p n target state outcome
      → KillOtherComesTo (other S) p n target state (moved outcome)
  kill_other_moves S p n target Unborn outcome is = ap moved is
  kill_other_moves S p n target Ended outcome is = ap moved is
  kill_other_moves S p n target Live outcome h = end_moves S target (Answer p n replies.Ok ∷ []) outcome h
  kill_other_moves S p n target Waiting outcome h = end_moves S target (Answer p n replies.Ok ∷ []) outcome h

  call_moves : (rules : Rules) (processes : ℕ) (S : State) (p n : ℕ) (request : Request) (outcome : Outcome) → is_of_sections request ≡ false
      → ComesTo rules processes S p n request outcome → ComesTo rules processes (other S) p n request (moved outcome)
  call_moves rules processes S p n (OpenFile file access) outcome apart h = (h.0, h.1, h.2, answer_moves S p n _ h.0 outcome h.3)
  call_moves rules processes S p n (Dup fd) outcome apart h = (h.0, h.1, h.2, answer_moves S p n _ h.0 outcome h.3)
  call_moves rules processes S p n (DupTo fd to) outcome apart h = (h.0, h.1, h.2, answer_moves S p n _ h.0 outcome h.3)
  call_moves rules processes S p n (CloseFd fd) outcome apart h = (h.0, h.1, h.2, answer_moves S p n _ h.0 outcome h.3)
  call_moves rules processes S p n (Seek fd offset) outcome apart h = (h.0, h.1, h.2, answer_moves S p n _ h.0 outcome h.3)
  call_moves rules processes S p n (Resize fd size) outcome apart h = (h.0, h.1, h.2, answer_moves S p n _ h.0 outcome h.3)
  call_moves rules processes S p n (Lk fd cmd lock) outcome apart h = lock_command_moves rules S p n fd cmd lock outcome h
  call_moves rules processes S p n (Flock fd op nb) outcome apart h =
      map_option (look_at S.descriptors p fd) (λ is. ap moved is) (λ look made. flock_op_moves rules S p n look op nb outcome made) h
  call_moves rules processes S p n (Fork child) outcome apart h = (h.0, h.1, h.2, answer_moves S p n _ h.0 outcome h.3)
  call_moves rules processes S p n Exit outcome apart h = end_moves S p [] outcome h
  call_moves rules processes S p n (Signal target) outcome apart h = signal_moves S p n target (S.states target) outcome h
  call_moves rules processes S p n (Kill target) outcome apart h =
      map_bool (target == p) (λ ends. end_moves S p [] outcome ends) (λ kills. kill_other_moves S p n target (S.states target) outcome kills) h
  call_moves rules processes S p n (Enter section visit) outcome apart h = absurd (let bad : true ≡ false = apart in cc)
  call_moves rules processes S p n (Leave section) outcome apart h = absurd (let bad : true ≡ false = apart in cc)
  call_moves rules processes S p n Bail outcome apart h = absurd (let bad : true ≡ false = apart in cc)

-- ---- a step

pub step_moves : SectionsChangeNothingElse
step_moves rules processes S p n request notes T visits refused apart step =
    let after = step.outcome.after in
    let inside = visits_left after.states (visits_behind visits p request) in
    let told = refused_behind after.states step.outcome.told refused in (
      inside,
      told,
      record {
        live = step.live;
        outcome = record { told = step.outcome.told; after = with_marks after visits refused };
        comes_to = call_moves visits refused rules processes S p n request step.outcome apart step.comes_to;
        grants = step.grants;
        settles = Settles-moves rules.policy inside told (marked S p request step.outcome) step.grants T step.settles;
        are_notes = step.are_notes;
      },
    )
