-- A step keeps what a step needs: open descriptors refer to descriptions that were made, and who waits has a wait in the list.
use Rattle.lock_manager.proofs.Common.{common_steps, rules, ◌≡◌, ◌≢◌, ℕ, zero, suc, ◌+◌, ◌==◌, ◌||◌, Bool, true, false, Option, Some, None, IsSome, Result, Ok, Err, MatchBool, MatchOption, MatchResult, inl, inr, refl, sym, ◌∙◌, subst, arith, List, [], ◌∷◌, ◌++◌, length, if◌then◌else◌, slice_get, slice_set, length-append, cases_Bool, eqb_tells, same_Some, slice_get_cases}
use Rattle.lock_manager.proofs.Common.{MatchFact, resolution, Access, Look, Descriptors, OpenFileDescription, SameDescriptors, opening_descriptors, description_numbered, look_at, with_descriptor, Policy, Wait, wait_of, without_wait_of, Rules, Lock, LkCmd, GetLk, SetLk, SetLkW, OGetLk, OSetLk, OSetLkW, FlockOp, Request, OpenFile, Dup, DupTo, CloseFd, Seek, Resize, Lk, Flock, Fork, Exit, Signal, Kill, Enter, Leave, Bail, Note, ProcState, Unborn, Live, Waiting, Ended, State, opening_state, with_lock, with_process, Settles, granted, Outcome, is_get, is_bad_argument, wanted_mode, permits, wanted_lock, CommandComesTo, LockComesTo, FlockTestComesTo, FlockOpComesTo, EndComesTo, KillOtherComesTo, may_enter, may_leave, marked, ComesTo, Step, AreMade, IsWhole}
use Rattle.std.proofs.Common.{pred, length-set}
use Rattle.std.proofs.lemmas.List.Folds.{find-append}
use Rattle.fd_table.specs.Descriptors.{with_description, with_offset}
use Rattle.lock_manager.specs.SomeOutcome.{AreAwaitedIn}
use Rattle.lock_manager.proofs.calls.ProcessCallLemmas.{other_found}

-- descriptors that say the same refer to descriptions that were made
made_same : (D E : Descriptors) → SameDescriptors E D → AreMade D → AreMade E
made_same D E same made p fd number is =
    subst (λ l. IsSome (description_numbered l number)) (sym same.descriptions) (made p fd number (sym (same.description_of p fd) ∙ is))

-- one more descriptor refers to a description that was made
made_with : (D : Descriptors) (p fd d : ℕ) → IsSome (description_numbered D.descriptions d) → AreMade D → AreMade (with_descriptor D p fd d)
made_with D p fd d there made q k number is = grind (arith, common_steps, cases_Bool, same_Some)

-- what was made stays so
numbered_longer : (xs ys : List OpenFileDescription) (number : ℕ) → IsSome (description_numbered xs number) → IsSome (description_numbered (xs ++ ys) number)
numbered_longer xs ys number h = grind (arith, common_steps, slice_get_cases, length-append)

numbered_last : (xs : List OpenFileDescription) (x : OpenFileDescription) → IsSome (slice_get (xs ++ x ∷ []) (length xs))
numbered_last [] x = refl
numbered_last (y ∷ xs) x = numbered_last xs x

set_still : (xs : List OpenFileDescription) (i : ℕ) (x : OpenFileDescription) (k : ℕ) → IsSome (slice_get xs k) → IsSome (slice_get (slice_set xs i x) k)
set_still xs i x k h = grind (arith, common_steps, slice_get_cases, length-set)

made_opened : (D : Descriptors) (p file : ℕ) (access : Access) (fd : ℕ) → AreMade D
    → AreMade (with_descriptor (with_description D file access) p fd (length D.descriptions + 1))
made_opened D p file access fd made =
    let opened : OpenFileDescription = record { file = file; access = access; offset = 0 } in
    let next : suc (length D.descriptions) ≡ length D.descriptions + 1 = omega arith in
    made_with (with_description D file access) p fd (length D.descriptions + 1)
    (subst (λ n. IsSome (description_numbered (D.descriptions ++ opened ∷ []) n)) next (numbered_last D.descriptions opened))
    (λ q k number is. numbered_longer D.descriptions (opened ∷ []) number (made q k number is))

made_offset : (D : Descriptors) (number : ℕ) (opened : OpenFileDescription) (offset : ℕ) → AreMade D → AreMade (with_offset D number opened offset)
made_offset D number opened offset made q k zero is = made q k zero is
made_offset D number opened offset made q k (suc m) is = set_still D.descriptions (pred number) (record opened { offset = offset }) m (made q k (suc m) is)

-- where one process no longer waits, the others' waits are what counts
awaited_moved : (waits left : List Wait) (states : ℕ → ProcState) (p : ℕ) (state : ProcState) → state ≢ Waiting
    → ((q : ℕ) → q ≢ p → wait_of waits q ≢ None → wait_of left q ≢ None) → AreAwaitedIn waits states
    → AreAwaitedIn left (λ q. if q == p then state else states q)
awaited_moved waits left states p state differs keep awaited q is = grind (arith, common_steps, eqb_tells)

-- at the opening
pub whole_opening : IsWhole opening_state
unfolding opening_state opening_descriptors
whole_opening = grind (arith, common_steps)

-- the state of this outcome is whole
abbrev Stays : Outcome → Type 0
Stays outcome = IsWhole outcome.after

-- a lock that is set moves no wait
locked_whole : (S : State) (wait : Wait) → IsWhole S → IsWhole (with_lock S wait) × ((with_lock S wait).waits ≡ S.waits)
locked_whole S wait h = grind (arith, common_steps)

granted_whole : (S : State) (before : List Wait) (wait : Wait) (after : List Wait) → S.waits ≡ before ++ wait ∷ after → IsWhole S
    → IsWhole (granted S before wait after)
granted_whole S before wait after place h = grind (arith, common_steps, locked_whole, awaited_moved, find-append, eqb_tells)

settled_whole : (policy : Policy) (S : State) (grants : List Note) (T : State) → Settles policy S grants T → IsWhole S → IsWhole T
settled_whole policy S [] T h whole = grind (arith, common_steps)
settled_whole policy S (grant ∷ grants) T h whole =
    settled_whole policy (granted S h.0 h.1 h.2) grants T h.5 (granted_whole S h.0 h.1 h.2 h.3.place whole)

-- the outcome is this one
stays_as : (given outcome : Outcome) → outcome ≡ given → Stays given → Stays outcome
stays_as given outcome is h = subst Stays (sym is) h

-- without its wait a process waits no more
awaited_left : (S : State) (target : ℕ) (state : ProcState) → state ≢ Waiting → IsWhole S
    → AreAwaitedIn (without_wait_of S.waits target) (λ q. if q == target then state else S.states q)
awaited_left S target state differs h = grind (arith, common_steps, awaited_moved, other_found)

end_stays : (S : State) (p : ℕ) (told : List Note) (outcome : Outcome) → EndComesTo S p told outcome → IsWhole S → Stays outcome
end_stays S p told outcome h h2 = grind (arith, common_steps, stays_as, made_same, awaited_left, cases_Bool)

kill_other_stays : (S : State) (p n target : ℕ) (state : ProcState) (outcome : Outcome) → KillOtherComesTo S p n target state outcome
    → IsWhole S → Stays outcome
kill_other_stays S p n target Unborn outcome is h = stays_as _ outcome is h
kill_other_stays S p n target Ended outcome is h = stays_as _ outcome is h
kill_other_stays S p n target Live outcome is h = end_stays S target _ outcome is h
kill_other_stays S p n target Waiting outcome is h = end_stays S target _ outcome is h

-- what both cases of a choice come to
bool_stays : (b : Bool) (P Q : Type 0) (outcome : Outcome) → MatchBool b P Q → (P → Stays outcome) → (Q → Stays outcome) → Stays outcome
bool_stays true P Q outcome h first second = first h
bool_stays false P Q outcome h first second = second h

fact_stays : (Fact P Q : Type 0) (outcome : Outcome) → MatchFact Fact P Q → (P → Stays outcome) → (Q → Stays outcome) → Stays outcome
fact_stays Fact P Q outcome (inl h) first second = first h.1
fact_stays Fact P Q outcome (inr h) first second = second h.1

option_stays : {X : Type 0} (o : Option X) (P : Type 0) (Q : X → Type 0) (outcome : Outcome) → MatchOption o P Q → (P → Stays outcome)
    → ((x : X) → Q x → Stays outcome) → Stays outcome
option_stays None P Q outcome h first second = first h
option_stays (Some x) P Q outcome h first second = second x h

result_stays : {X E : Type 0} (r : Result X E) (P : X → Type 0) (Q : E → Type 0) (outcome : Outcome) → MatchResult r P Q
    → ((x : X) → P x → Stays outcome) → ((e : E) → Q e → Stays outcome) → Stays outcome
result_stays (Ok x) P Q outcome h first second = first x h
result_stays (Err e) P Q outcome h first second = second e h

-- the caller waits
waits_whole : (S : State) (wanted : Wait) → IsWhole S → IsWhole (with_process (record S { waits = S.waits ++ wanted ∷ [] }) wanted.p Waiting)
waits_whole S wanted h = grind (arith, common_steps, eqb_tells, find-append)

command_stays : (rules : Rules) (S : State) (cmd : LkCmd) (wanted : Wait) (outcome : Outcome) → CommandComesTo rules S cmd wanted outcome
    → IsWhole S → Stays outcome
command_stays rules S GetLk wanted outcome is h = grind (arith, common_steps)
command_stays rules S OGetLk wanted outcome is h = grind (arith, common_steps)
command_stays rules S SetLk wanted outcome is h = grind (arith, common_steps, locked_whole)
command_stays rules S OSetLk wanted outcome is h = grind (arith, common_steps, locked_whole)
command_stays rules S SetLkW wanted outcome is h =
    fact_stays _ _ _ outcome is
    (λ blocked.
    fact_stays _ _ _ outcome blocked (λ refused. stays_as _ outcome refused h) (λ waits. stays_as _ outcome waits (waits_whole S wanted h)))
    (λ set. stays_as _ outcome set (locked_whole S wanted h).0)
command_stays rules S OSetLkW wanted outcome is h =
    fact_stays _ _ _ outcome is (λ waits. stays_as _ outcome waits (waits_whole S wanted h))
    (λ set. stays_as _ outcome set (locked_whole S wanted h).0)

lock_stays : (rules : Rules) (S : State) (p n fd : ℕ) (cmd : LkCmd) (lock : Lock) (outcome : Outcome) → LockComesTo rules S p n fd cmd lock outcome
    → IsWhole S → Stays outcome
lock_stays rules S p n fd cmd lock outcome is h =
    option_stays (look_at S.descriptors p fd) _ _ outcome is (λ refused. stays_as _ outcome refused h)
    (λ look described.
    bool_stays (is_bad_argument cmd lock) _ _ outcome described (λ refused. stays_as _ outcome refused h)
    (λ good.
    result_stays (resolution lock.whence lock.start lock.len look.offset look.size) _ _ outcome good
    (λ span ranged.
    option_stays (wanted_mode lock.kind) _ _ outcome ranged
    (λ unlocks. stays_as _ outcome unlocks (record { made = h.made; awaited = h.awaited }))
    (λ mode moded.
    bool_stays (is_get cmd || permits look.access mode) _ _ outcome moded
    (λ asked. command_stays rules S cmd (wanted_lock cmd p n look span mode) outcome asked h) (λ refused. stays_as _ outcome refused h)))
    (λ fault refused. stays_as _ outcome refused h)))

flock_test_stays : (rules : Rules) (S : State) (nb : Bool) (wanted : Wait) (grants : List Note) (outcome : Outcome)
    → FlockTestComesTo rules S nb wanted grants outcome → IsWhole S → Stays outcome
flock_test_stays rules S true wanted grants outcome is h = grind (arith, common_steps, locked_whole)
flock_test_stays rules S false wanted grants outcome is h =
    fact_stays _ _ _ outcome is (λ waits. stays_as _ outcome waits (waits_whole S wanted h))
    (λ set. stays_as _ outcome set (locked_whole S wanted h).0)

flock_op_stays : (rules : Rules) (S : State) (p n : ℕ) (look : Look) (op : FlockOp) (nb : Bool) (outcome : Outcome)
    → FlockOpComesTo rules S p n look op nb outcome → IsWhole S → Stays outcome
flock_op_stays rules S p n look op nb outcome h h2 = grind (arith, common_steps, stays_as, flock_test_stays, bool_stays, settled_whole)

-- whatever the request
request_stays : (rules : Rules) (processes : ℕ) (S : State) (p n : ℕ) (request : Request) (outcome : Outcome)
    → ComesTo rules processes S p n request outcome → IsWhole S → Stays outcome
request_stays rules processes S p n (OpenFile file access) outcome is h = grind (arith, common_steps, made_same, made_opened)
request_stays rules processes S p n (Dup fd) outcome is h = grind (arith, common_steps, made_same, made_with)
request_stays rules processes S p n (DupTo fd to) outcome is h = grind (arith, common_steps, made_same, made_with)
request_stays rules processes S p n (CloseFd fd) outcome is h = grind (arith, common_steps, made_same, cases_Bool)
request_stays rules processes S p n (Seek fd offset) outcome is h = grind (arith, common_steps, made_same, made_offset)
request_stays rules processes S p n (Resize fd size) outcome is h = grind (arith, common_steps, made_same)
request_stays rules processes S p n (Lk fd cmd lock) outcome is h = lock_stays rules S p n fd cmd lock outcome is h
request_stays rules processes S p n (Flock fd op nb) outcome is h = grind (arith, common_steps, stays_as, flock_op_stays)
request_stays rules processes S p n (Fork child) outcome is h = grind (arith, common_steps, made_same, awaited_moved, cases_Bool)
request_stays rules processes S p n Exit outcome is h = end_stays S p [] outcome is h
request_stays rules processes S p n (Signal target) outcome is h = grind (arith, common_steps, awaited_left)
request_stays rules processes S p n (Kill target) outcome is h =
    bool_stays (target == p) _ _ outcome is (λ own. end_stays S p [] outcome own h)
    (λ other. kill_other_stays S p n target (S.states target) outcome other h)
request_stays rules processes S p n (Enter section visit) outcome is h =
    bool_stays (may_enter S.visits p section) _ _ outcome is (λ done. stays_as _ outcome done h) (λ refused. stays_as _ outcome refused h)
request_stays rules processes S p n (Leave section) outcome is h =
    bool_stays (may_leave S.visits p section) _ _ outcome is (λ done. stays_as _ outcome done h) (λ refused. stays_as _ outcome refused h)
request_stays rules processes S p n Bail outcome is h =
    bool_stays (S.refused p) _ _ outcome is (λ ends. end_stays S p [] outcome ends h) (λ done. stays_as _ outcome done h)

-- a step keeps it
pub step_whole : (rules : Rules) (processes : ℕ) (S : State) (p n : ℕ) (request : Request) (notes : List Note) (T : State) → IsWhole S
    → Step rules processes S p n request notes T → IsWhole T
step_whole rules processes S p n request notes T h step =
    let after = request_stays rules processes S p n request step.outcome step.comes_to h in
    settled_whole rules.policy (marked S p request step.outcome) step.grants T step.settles (record { made = after.made; awaited = after.awaited })
