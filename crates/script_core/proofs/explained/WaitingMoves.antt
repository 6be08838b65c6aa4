-- Each wait is of another process, which waits, and each step keeps that.
use Rattle.script_core.proofs.Common.{arith, rules, ◌≡◌, ◌≢◌, ℕ, ◌==◌, ◌||◌, Bool, true, false, ⊎_elim, List, [], ◌∷◌, ◌++◌, Option, refl, sym, ◌∙◌, subst, eq-eqb, if◌then◌else◌, ℤ, common_steps, cases_eq}
use Rattle.script_core.proofs.Common.{Mode, resolution, Access, FdFault, Look, look_at, opening_descriptors, Policy, Wait, Rules, Lock, LkCmd, GetLk, SetLk, SetLkW, OGetLk, OSetLk, OSetLkW, FlockOp, Note, Reply, Request, OpenFile, Dup, DupTo, CloseFd, Seek, Resize, Lk, Flock, Fork, Exit, Signal, Kill, Enter, Leave, Bail, ProcState, Unborn, Live, Waiting, Ended, State, opening_state, with_process, with_lock, Settles, granted, Outcome, IsRefusal, answered_then, waits_then, with_released, OpenComesTo, DupComesTo, DupToComesTo, CloseComesTo, SeekComesTo, ResizeComesTo, is_get, is_bad_argument, wanted_mode, permits, wanted_lock, held_reply, GetComesTo, SetComesTo, CommandComesTo, DescribedComesTo, FlockTestComesTo, FlockModeComesTo, FlockOpComesTo, ForkComesTo, EndComesTo, SignalComesTo, KillOtherComesTo, without_wait, may_enter, may_leave, marked, ComesTo, Step}
use Rattle.std.specs.List.{AllByRecursion as Each}
use Rattle.wait_core.specs.WaitsView.{without_wait_of}
use Rattle.lock_manager.specs.declared.request.Reply.TheVariants as replies
use Rattle.script_core.proofs.FitLemmas.{AreApart, SameProcesses, each_append, each_map, each_both, each_middle, apart_middle, apart_push, same_locked, marked_same}
use Rattle.script_core.proofs.OutcomeFitLemmas.{by_bool, each_other, others_left, apart_left, same_all, same_but, same_released, moved_alive}
use Rattle.script_core.proofs.DeadlockStepLemmas.{if_option, if_result}

-- the process of the wait waits
pub record IsSuspended (states : ℕ → ProcState) (wait : Wait) : Type 0 where
  pub waiting : states wait.p ≡ Waiting

-- the waits are of different processes, which wait, and who isn't unborn was alive
pub record AreStanding (S : State) : Type 0 where
  pub apart : AreApart S.waits
  pub waiting : Each (IsSuspended S.states) S.waits
  pub born : (p : ℕ) → S.states p ≢ Unborn → S.descriptors.ever_alive p ≡ true

pub opening_stands : AreStanding opening_state
unfolding opening_state opening_descriptors
opening_stands = grind (arith, common_steps, eq-eqb, cases_eq)

-- no wait is of a process that doesn't wait
pub others_stand : (S : State) (p : ℕ) → S.states p ≢ Waiting → AreStanding S → Each (λ wait. wait.p ≢ p) S.waits
others_stand S p idle h = grind (arith, common_steps, each_map)

-- ---- states

pub same_stand : (S T : State) → AreStanding S → SameProcesses S T → AreStanding T
same_stand S T h same = grind (arith, common_steps)

pub granted_stand : (S : State) (before : List Wait) (wait : Wait) (after : List Wait) → S.waits ≡ before ++ wait ∷ after → AreStanding S
    → AreStanding (granted S before wait after)
granted_stand S before wait after place h = search (rules, each_middle, apart_middle, same_locked, each_both, cases_eq)

-- settling keeps it, and who lives lives on
pub settles_stand : (policy : Policy) (S : State) (grants : List Note) (T : State) → Settles policy S grants T → AreStanding S
    → AreStanding T × ((p : ℕ) → S.states p ≡ Live → T.states p ≡ Live)
settles_stand policy S [] T settles h = grind (arith, common_steps)
settles_stand policy S (grant ∷ grants) T (before, wait, after, next, is, rest) h =
    let later = settles_stand policy (granted S before wait after) grants T rest (granted_stand S before wait after next.place h) in
    (later.0, λ p live. later.1 p (still_lives p live))
  where
    still_lives : (p : ℕ) → S.states p ≡ Live → (granted S before wait after).states p ≡ Live
    still_lives p live = grind (arith, common_steps, same_locked, cases_eq)

-- ---- outcomes

answers_stand : (S T : State) (p n : ℕ) (reply : Reply) (grants : List Note) (outcome : Outcome) → AreStanding S → SameProcesses S T
    → outcome ≡ answered_then T p n reply grants → AreStanding outcome.after
answers_stand S T p n reply grants outcome h same is = grind (arith, common_steps, same_stand)

refusal_stands : (S : State) (p n : ℕ) (fault : FdFault) (outcome : Outcome) → AreStanding S → IsRefusal S p n fault outcome → AreStanding outcome.after
refusal_stands S p n fault outcome h is = grind (arith, common_steps, answers_stand, same_all)

waits_stand : (S : State) (wait : Wait) (grants : List Note) (outcome : Outcome) → AreStanding S → S.states wait.p ≡ Live
    → outcome ≡ waits_then S wait grants → AreStanding outcome.after
waits_stand S wait grants outcome h live is = grind (arith, common_steps, others_stand, each_append, each_both, eq-eqb, apart_push, cases_eq)

-- without its wait a process stands otherwise, and was alive
left_stand : (S T : State) (p : ℕ) (state : ProcState) → AreStanding S → S.states p ≢ Unborn
    → T.states ≡ (λ q. if q == p then state else S.states q) → T.waits ≡ without_wait_of S.waits p
    → ((q : ℕ) → T.descriptors.ever_alive q ≡ S.descriptors.ever_alive q) → AreStanding T
left_stand S T p state h there states waits alive = grind (arith, common_steps, each_both, others_left, each_other, apart_left, cases_eq)

-- ---- descriptors

open_stands : (rules : Rules) (S : State) (p n file : ℕ) (access : Access) (outcome : Outcome) → AreStanding S
    → OpenComesTo rules S p n file access outcome → AreStanding outcome.after
open_stands rules S p n file access outcome h is = grind (arith, common_steps, answers_stand, refusal_stands)

dup_stands : (rules : Rules) (S : State) (p n fd : ℕ) (outcome : Outcome) → AreStanding S → DupComesTo rules S p n fd outcome → AreStanding outcome.after
dup_stands rules S p n fd outcome h is = grind (arith, common_steps, answers_stand, refusal_stands)

dup_to_stands : (rules : Rules) (S : State) (p n fd to : ℕ) (outcome : Outcome) → AreStanding S → DupToComesTo rules S p n fd to outcome
    → AreStanding outcome.after
dup_to_stands rules S p n fd to outcome h is = grind (arith, common_steps, moved_alive, same_released, answers_stand, refusal_stands)

close_stands : (S : State) (p n fd : ℕ) (outcome : Outcome) → AreStanding S → CloseComesTo S p n fd outcome → AreStanding outcome.after
close_stands S p n fd outcome h is = grind (arith, common_steps, same_released, answers_stand, refusal_stands)

seek_stands : (S : State) (p n fd : ℕ) (offset : ℤ) (outcome : Outcome) → AreStanding S → SeekComesTo S p n fd offset outcome → AreStanding outcome.after
seek_stands S p n fd offset outcome h is = grind (arith, common_steps, same_but, answers_stand, refusal_stands)

resize_stands : (S : State) (p n fd : ℕ) (size : ℤ) (outcome : Outcome) → AreStanding S → ResizeComesTo S p n fd size outcome → AreStanding outcome.after
resize_stands S p n fd size outcome h is = grind (arith, common_steps, same_but, answers_stand, refusal_stands)

-- ---- locks

lock_stands : (S : State) (wait : Wait) (grants : List Note) (outcome : Outcome) → AreStanding S
    → outcome ≡ answered_then (with_lock S wait) wait.p wait.n replies.Ok grants → AreStanding outcome.after
lock_stands S wait grants outcome h is = answers_stand S (with_lock S wait) wait.p wait.n replies.Ok grants outcome h (same_locked S wait) is

stays_standing : (S : State) (p n : ℕ) (reply : Reply) (grants : List Note) (outcome : Outcome) → AreStanding S → outcome ≡ answered_then S p n reply grants
    → AreStanding outcome.after
stays_standing S p n reply grants outcome h is = answers_stand S S p n reply grants outcome h (same_all S) is

get_stands : (S : State) (wanted : Wait) (outcome : Outcome) → AreStanding S → GetComesTo S wanted outcome → AreStanding outcome.after
get_stands S wanted outcome h is =
    ⊎_elim (λ held. stays_standing S wanted.p wanted.n (held_reply held.1.0) [] outcome h held.1.2)
    (λ free. stays_standing S wanted.p wanted.n replies.Free [] outcome h free.1) is

set_stands : (S : State) (wanted : Wait) (outcome : Outcome) → AreStanding S → SetComesTo S wanted outcome → AreStanding outcome.after
set_stands S wanted outcome h is =
    ⊎_elim (λ no. stays_standing S wanted.p wanted.n _ [] outcome h no.1) (λ yes. lock_stands S wanted [] outcome h yes.1) is

command_stands : (rules : Rules) (S : State) (cmd : LkCmd) (wanted : Wait) (outcome : Outcome) → AreStanding S → S.states wanted.p ≡ Live
    → CommandComesTo rules S cmd wanted outcome → AreStanding outcome.after
command_stands rules S GetLk wanted outcome h live is = get_stands S wanted outcome h is
command_stands rules S OGetLk wanted outcome h live is = get_stands S wanted outcome h is
command_stands rules S SetLk wanted outcome h live is = set_stands S wanted outcome h is
command_stands rules S OSetLk wanted outcome h live is = set_stands S wanted outcome h is
command_stands rules S SetLkW wanted outcome h live is =
    ⊎_elim
    (λ blocked. ⊎_elim (λ no. stays_standing S wanted.p wanted.n _ [] outcome h no.1) (λ waits. waits_stand S wanted [] outcome h live waits.1) blocked.1)
    (λ yes. lock_stands S wanted [] outcome h yes.1) is
command_stands rules S OSetLkW wanted outcome h live is =
    ⊎_elim (λ waits. waits_stand S wanted [] outcome h live waits.1) (λ yes. lock_stands S wanted [] outcome h yes.1) is

described_stands : (rules : Rules) (S : State) (p n : ℕ) (cmd : LkCmd) (lock : Lock) (look : Look) (outcome : Outcome) → AreStanding S
    → S.states p ≡ Live → DescribedComesTo rules S p n cmd lock look outcome → AreStanding outcome.after
described_stands rules S p n cmd lock look outcome h live is =
    by_bool (is_bad_argument cmd lock) is (λ bad. answers_stand S S p n _ [] outcome h (same_all S) bad)
    (λ good. if_result (resolution lock.whence lock.start lock.len look.offset look.size) _ _ (AreStanding outcome.after) good
    (λ span resolved ranged. if_option (wanted_mode lock.kind) _ _ (AreStanding outcome.after) ranged
    (λ unlocked. answers_stand S _ p n _ [] outcome h (record { states = refl; waits = refl; alive = λ q. refl }) unlocked)
    (λ mode kind wants. by_bool (is_get cmd || permits look.access mode) wants
    (λ command. command_stands rules S cmd (wanted_lock cmd p n look span mode) outcome h live command)
    (λ denied. answers_stand S S p n _ [] outcome h (same_all S) denied)))
    (λ fault no_range. answers_stand S S p n _ [] outcome h (same_all S) no_range))

test_stands : (rules : Rules) (S : State) (nb : Bool) (wanted : Wait) (grants : List Note) (outcome : Outcome) → AreStanding S
    → S.states wanted.p ≡ Live → FlockTestComesTo rules S nb wanted grants outcome → AreStanding outcome.after
test_stands rules S true wanted grants outcome h live is =
    ⊎_elim (λ no. stays_standing S wanted.p wanted.n _ grants outcome h no.1) (λ yes. lock_stands S wanted grants outcome h yes.1) is
test_stands rules S false wanted grants outcome h live is =
    ⊎_elim (λ waits. waits_stand S wanted grants outcome h live waits.1) (λ yes. lock_stands S wanted grants outcome h yes.1) is

mode_stands : (rules : Rules) (S : State) (look : Look) (nb : Bool) (wanted : Wait) (held : Option Mode) (outcome : Outcome) → AreStanding S
    → S.states wanted.p ≡ Live → FlockModeComesTo rules S look nb wanted held outcome → AreStanding outcome.after
mode_stands rules S look nb wanted held outcome h live is =
    grind (arith, common_steps, same_all, answers_stand, by_bool, test_stands, settles_stand, same_stand)

op_stands : (rules : Rules) (S : State) (p n : ℕ) (look : Look) (op : FlockOp) (nb : Bool) (outcome : Outcome) → AreStanding S → S.states p ≡ Live
    → FlockOpComesTo rules S p n look op nb outcome → AreStanding outcome.after
op_stands rules S p n look op nb outcome h live is = grind (arith, common_steps, answers_stand, mode_stands)

-- ---- processes

fork_stands : (processes : ℕ) (S : State) (p n child : ℕ) (outcome : Outcome) → AreStanding S → ForkComesTo processes S p n child outcome
    → AreStanding outcome.after
fork_stands processes S p n child outcome h is = grind (arith, common_steps, others_stand, each_both, eq-eqb, cases_eq, refusal_stands)

end_stands : (S : State) (p : ℕ) (told : List Note) (outcome : Outcome) → AreStanding S → S.states p ≢ Unborn → EndComesTo S p told outcome
    → AreStanding outcome.after
end_stands S p told outcome h there (released, D, gives, is) =
    subst (λ (o : Outcome). AreStanding o.after) (sym is)
    (left_stand S (with_process (with_released (without_wait S p) D p released) p Ended) p Ended h there refl refl gives.0.ever_alive)

signal_stands : (S : State) (p n target : ℕ) (state : ProcState) (outcome : Outcome) → AreStanding S → S.states target ≡ state
    → SignalComesTo S p n target state outcome → AreStanding outcome.after
signal_stands S p n target Unborn outcome h at is = answers_stand S S p n _ [] outcome h (same_all S) is
signal_stands S p n target Ended outcome h at is = answers_stand S S p n _ [] outcome h (same_all S) is
signal_stands S p n target Live outcome h at is = answers_stand S S p n _ [] outcome h (same_all S) is
signal_stands S p n target Waiting outcome h at (wait, found, is) =
    subst (λ (o : Outcome). AreStanding o.after) (sym is)
    (left_stand S (with_process (without_wait S target) target Live) target Live h (λ e. let bad : Waiting ≡ Unborn = sym at ∙ e in cc) refl refl (λ q. refl))

kill_stands : (S : State) (p n target : ℕ) (state : ProcState) (outcome : Outcome) → AreStanding S → S.states target ≡ state
    → KillOtherComesTo S p n target state outcome → AreStanding outcome.after
kill_stands S p n target Unborn outcome h at is = answers_stand S S p n _ [] outcome h (same_all S) is
kill_stands S p n target Ended outcome h at is = answers_stand S S p n _ [] outcome h (same_all S) is
kill_stands S p n target Live outcome h at is = end_stands S target _ outcome h (λ e. let bad : Live ≡ Unborn = sym at ∙ e in cc) is
kill_stands S p n target Waiting outcome h at is = end_stands S target _ outcome h (λ e. let bad : Waiting ≡ Unborn = sym at ∙ e in cc) is

-- ---- each request

pub request_stands : (rules : Rules) (processes : ℕ) (S : State) (p n : ℕ) (request : Request) (outcome : Outcome) → AreStanding S → S.states p ≡ Live
    → ComesTo rules processes S p n request outcome → AreStanding outcome.after
request_stands rules processes S p n (OpenFile file access) outcome h live is = open_stands rules S p n file access outcome h is
request_stands rules processes S p n (Dup fd) outcome h live is = dup_stands rules S p n fd outcome h is
request_stands rules processes S p n (DupTo fd to) outcome h live is = dup_to_stands rules S p n fd to outcome h is
request_stands rules processes S p n (CloseFd fd) outcome h live is = close_stands S p n fd outcome h is
request_stands rules processes S p n (Seek fd offset) outcome h live is = seek_stands S p n fd offset outcome h is
request_stands rules processes S p n (Resize fd size) outcome h live is = resize_stands S p n fd size outcome h is
request_stands rules processes S p n (Lk fd cmd lock) outcome h live is =
    if_option (look_at S.descriptors p fd) _ _ (AreStanding outcome.after) is (λ closed. answers_stand S S p n _ [] outcome h (same_all S) closed)
    (λ look opened described. described_stands rules S p n cmd lock look outcome h live described)
request_stands rules processes S p n (Flock fd op nb) outcome h live is =
    if_option (look_at S.descriptors p fd) _ _ (AreStanding outcome.after) is (λ closed. answers_stand S S p n _ [] outcome h (same_all S) closed)
    (λ look opened done. op_stands rules S p n look op nb outcome h live done)
request_stands rules processes S p n (Fork child) outcome h live is = fork_stands processes S p n child outcome h is
request_stands rules processes S p n Exit outcome h live is = end_stands S p [] outcome h (λ e. let bad : Live ≡ Unborn = sym live ∙ e in cc) is
request_stands rules processes S p n (Signal target) outcome h live is = signal_stands S p n target (S.states target) outcome h refl is
request_stands rules processes S p n (Kill target) outcome h live is =
    by_bool (target == p) is (λ own. end_stands S p [] outcome h (λ e. let bad : Live ≡ Unborn = sym live ∙ e in cc) own)
    (λ other. kill_stands S p n target (S.states target) outcome h refl other)
request_stands rules processes S p n (Enter section visit) outcome h live is =
    by_bool (may_enter S.visits p section) is (λ done. stays_standing S p n _ [] outcome h done) (λ no. stays_standing S p n _ [] outcome h no)
request_stands rules processes S p n (Leave section) outcome h live is =
    by_bool (may_leave S.visits p section) is (λ done. stays_standing S p n _ [] outcome h done) (λ no. stays_standing S p n _ [] outcome h no)
request_stands rules processes S p n Bail outcome h live is =
    by_bool (S.refused p) is (λ ends. end_stands S p [] outcome h (λ e. let bad : Live ≡ Unborn = sym live ∙ e in cc) ends)
    (λ goes_on. stays_standing S p n _ [] outcome h goes_on)

-- who is in which section, and was refused, changes nothing of it
pub marked_stands : (S : State) (p : ℕ) (request : Request) (outcome : Outcome) → AreStanding outcome.after → AreStanding (marked S p request outcome)
marked_stands S p request outcome h = same_stand outcome.after (marked S p request outcome) h (marked_same S p request outcome)

-- each step keeps it
pub step_stands : (rules : Rules) (processes : ℕ) (S : State) (p n : ℕ) (request : Request) (notes : List Note) (T : State) → AreStanding S
    → Step rules processes S p n request notes T → AreStanding T
step_stands rules processes S p n request notes T h step =
    (settles_stand rules.policy (marked S p request step.outcome) step.grants T step.settles
    (marked_stands S p request step.outcome (request_stands rules processes S p n request step.outcome h step.live step.comes_to))).0
