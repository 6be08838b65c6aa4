-- What an event adds: two at most to the starts with twice the waits, and two to the notes with the waits: for `outputs_are_short`.
use Rattle.script_core.proofs.Common.{common_steps, rules, ◌≡◌, ℕ, suc, ◌+◌, ◌*◌, ◌≤◌, ◌==◌, Bool, List, [], ◌∷◌, ◌++◌, length, length-append, flat_map, Option, None, option_map, Result, MatchOption, MatchResult, refl, sym, ap, ◌∙◌, subst, arith}
use Rattle.script_core.proofs.Common.{Mode, Span, RangeFault, Description, whole_file, Access, FdFault, Look, Released, Descriptors, OpenFileDescription, description_numbered, look_at, Policy, Wait, Rules, Errno, EBADF, Lock, LkCmd, FlockOp, Request, OpenFile, Dup, DupTo, CloseFd, Seek, Resize, Lk, Flock, Fork, Exit, Signal, Kill, Enter, Leave, Bail, Note, Reply, ProcState, Unborn, Live, Waiting, Ended, State, with_lock, with_byte_mode, Settles, granted, Outcome, answered, refused, waits_then, range_error, IsRefusal, with_released, process_releases, description_releases, flock_releases, OpenComesTo, DupComesTo, DupToComesTo, CloseComesTo, lock_owner, DescribedComesTo, ModeComesTo, GetComesTo, SetComesTo, FlockOpComesTo, FlockTestComesTo, ForkComesTo, EndComesTo, SignalComesTo, KillOtherComesTo, may_enter, may_leave, ComesTo, Step}
use Rattle.std.proofs.lemmas.Grind.{flat_map-append}
use Rattle.std.proofs.Common.{filter_map}
use Rattle.lock_manager.specs.declared.request.Reply.TheVariants as replies
use Rattle.lock_manager.specs.DescriptorCalls.{DoneComesTo}
use Rattle.lock_manager.specs.LockCommands.{RangeComesTo, IsLocked}
use Rattle.script_core.proofs.FitLemmas.{same_locked}
use Rattle.script_core.proofs.OutcomeFitLemmas.{by_bool, fewer_left}
use Rattle.script_core.proofs.lengths.StartLemmas.{starts_of, flock_starts_of, two_starts}

-- ---- the starts of a state

-- how many starts the changes of the state have
abbrev pub starts : State → ℕ
starts S = length (flat_map starts_of S.changes) + length (flat_map flock_starts_of S.flock_changes)

length_flat : {X A : Type 0} (f : X → List A) (xs ys : List X) → length (flat_map f (xs ++ ys)) ≡ length (flat_map f xs) + length (flat_map f ys)
length_flat f xs ys = ap length (flat_map-append f xs ys) ∙ length-append (flat_map f xs) (flat_map f ys)

-- a lock that is set for a wait adds two at most
starts_locked : (S : State) (wait : Wait) → starts (with_lock S wait) ≤ starts S + 2
starts_locked S wait = grind (arith, common_steps, length_flat, starts_of, length-append, two_starts, flock_starts_of)

-- what is released adds none
none_made : {X Y A : Type 0} (f : Y → List A) (make : ℕ → X → Y) (found : ℕ → Option X) (numbers : List ℕ)
    → ((number : ℕ) (x : X) → f (make number x) ≡ []) → flat_map f (filter_map (λ number. option_map (make number) (found number)) numbers) ≡ []
none_made f make found [] none = refl
none_made {X} f make found (number ∷ numbers) none = grind (arith, common_steps, none_made f make found numbers)

none_of_process : (p : ℕ) (files : List ℕ) → flat_map starts_of (process_releases p files) ≡ []
none_of_process p [] = refl
none_of_process p (file ∷ files) = none_of_process p files

starts_released : (S : State) (D : Descriptors) (p : ℕ) (released : Released) → starts (with_released S D p released) ≡ starts S
starts_released S D p released =
    let own = process_releases p released.files in
    let others = description_releases D.descriptions released.descriptions in
    let flocks = flock_releases D.descriptions released.descriptions in
    let all = length_flat starts_of (S.changes ++ own) others in
    let before = length_flat starts_of S.changes own in
    let no_own : length (flat_map starts_of own) ≡ 0 = ap length (none_of_process p released.files) in
    let no_others : length (flat_map starts_of others) ≡ 0 =
    ap length (none_made starts_of (λ (d : ℕ) (x : OpenFileDescription). record { file = x.file; owner = Description d; span = whole_file; mode = None })
    (description_numbered D.descriptions) released.descriptions (λ d x. refl)) in
    let no_flocks : length (flat_map flock_starts_of flocks) ≡ 0 =
    ap length (none_made flock_starts_of (λ (d : ℕ) (x : OpenFileDescription). record { file = x.file; description = d; mode = None })
    (description_numbered D.descriptions) released.descriptions (λ d x. refl)) in
    let all_flocks = length_flat flock_starts_of S.flock_changes flocks in
    omega (arith, all, before, no_own, no_others, no_flocks, all_flocks)

-- ---- what is added

-- on the way from the state S to the state T, with so many notes, so much is added at most: to the starts with twice the waits, and
-- to the waits with the notes
pub record Grows (S : State) (told : ℕ) (T : State) (more : ℕ) : Type 0 where
  pub locks : starts T + 2 * length T.waits ≤ starts S + 2 * length S.waits + more
  pub notes : told + length T.waits ≤ length S.waits + more

pub grows_not : (S : State) → Grows S 0 S 0
grows_not S = record { locks = omega arith; notes = omega arith }

pub grows_then : {told more later after all both : ℕ} (S U T : State) → Grows S told U more → Grows U later T after → all ≤ told + later
    → more + after ≤ both → Grows S all T both
grows_then S U T first second few most = grind (arith, common_steps)

-- the same waits, two more starts at most, and a note
answers : (S T : State) → starts T ≤ starts S + 2 → T.waits ≡ S.waits → Grows S 1 T 2
answers S T few waits = grind (arith, common_steps)

-- each grant takes a wait, and adds two starts at most
settles_grow : (policy : Policy) (S : State) (grants : List Note) (T : State) → Settles policy S grants T → Grows S (length grants) T 0
settles_grow policy S [] T settles = subst (λ (X : State). Grows S 0 X 0) (sym settles.1) (grows_not S)
settles_grow policy S (grant ∷ grants) T (before, wait, after, next, is, rest) =
    let U = granted S before wait after in
    let size : length S.waits ≡ suc (length (before ++ after)) = ap length next.place ∙ one_fewer before wait after in
    let few : starts U ≤ starts S + 2 = starts_locked S wait in
    let own : Grows S 1 U 0 = record { locks = omega (arith, size, few); notes = omega (arith, size) } in
    grows_then S U T own (settles_grow policy U grants T rest) (omega arith) (omega arith)
  where
    one_fewer : (before : List Wait) (wait : Wait) (after : List Wait) → length (before ++ wait ∷ after) ≡ suc (length (before ++ after))
    one_fewer [] wait after = refl
    one_fewer (first ∷ before) wait after = ap suc (one_fewer before wait after)

-- ---- outcomes

-- what a request comes to adds two at most
abbrev OutcomeGrows : State → Outcome → Type 0
OutcomeGrows S outcome = Grows S (length outcome.told) outcome.after 2

-- this is told, and then these grants that were made before
told_then : (S U T : State) (note : Note) (grants : List Note) (outcome : Outcome) → Grows S (length grants) U 0 → Grows U 1 T 2
    → outcome ≡ record { told = note ∷ grants; after = T } → OutcomeGrows S outcome
told_then S U T note grants outcome before own is = grind (arith, common_steps, grows_then)

-- this alone is told
told_now : (S T : State) (note : Note) (outcome : Outcome) → Grows S 1 T 2 → outcome ≡ record { told = note ∷ []; after = T } → OutcomeGrows S outcome
told_now S T note outcome own is = told_then S S T note [] outcome (grows_not S) own is

-- the same starts and waits
stays : (S T : State) → starts T ≡ starts S → T.waits ≡ S.waits → Grows S 1 T 2
stays S T same waits = answers S T (omega (arith, same)) waits

-- the caller is answered, with the same starts and waits
answer_grows : (S T : State) (p n : ℕ) (reply : Reply) (outcome : Outcome) → starts T ≡ starts S → T.waits ≡ S.waits → outcome ≡ answered T p n reply
    → OutcomeGrows S outcome
answer_grows S T p n reply outcome same waits is = told_now S T _ outcome (stays S T same waits) is

refused_grows : (S : State) (p n : ℕ) (error : Errno) (outcome : Outcome) → outcome ≡ refused S p n error → OutcomeGrows S outcome
refused_grows S p n error outcome is = answer_grows S S p n (replies.Err error) outcome refl refl is

refusal_grows : (S : State) (p n : ℕ) (fault : FdFault) (outcome : Outcome) → IsRefusal S p n fault outcome → OutcomeGrows S outcome
refusal_grows S p n fault outcome h = grind (arith, common_steps, refused_grows)

-- the caller's lock is set, or it waits
lock_grows : (S : State) (wait : Wait) → Grows S 1 (with_lock S wait) 2
lock_grows S wait = answers S (with_lock S wait) (starts_locked S wait) (same_locked S wait).waits

wait_grows : (S : State) (wait : Wait) (grants : List Note) → Grows S 1 (waits_then S wait grants).after 2
wait_grows S wait grants = grind (arith, common_steps, length-append)

-- ---- calls on descriptors

open_grows : (rules : Rules) (S : State) (p n file : ℕ) (access : Access) (outcome : Outcome) → OpenComesTo rules S p n file access outcome
    → OutcomeGrows S outcome
open_grows rules S p n file access outcome h = grind (arith, common_steps, answer_grows, refusal_grows)

dup_grows : (rules : Rules) (S : State) (p n fd : ℕ) (outcome : Outcome) → DupComesTo rules S p n fd outcome → OutcomeGrows S outcome
dup_grows rules S p n fd outcome h = grind (arith, common_steps, answer_grows, refusal_grows)

dup_to_grows : (rules : Rules) (S : State) (p n fd to : ℕ) (outcome : Outcome) → DupToComesTo rules S p n fd to outcome → OutcomeGrows S outcome
dup_to_grows rules S p n fd to outcome h = grind (arith, common_steps, answer_grows, starts_released, refusal_grows)

close_grows : (S : State) (p n fd : ℕ) (outcome : Outcome) → CloseComesTo S p n fd outcome → OutcomeGrows S outcome
close_grows S p n fd outcome h = grind (arith, common_steps, answer_grows, starts_released, refusal_grows)

done_grows : (S : State) (p n : ℕ) (result : Result (Unit {0}) FdFault) (D : Descriptors) (outcome : Outcome) → DoneComesTo S p n result D outcome
    → OutcomeGrows S outcome
done_grows S p n result D outcome is = grind (arith, common_steps, answer_grows, refusal_grows)

-- ---- lock commands

get_grows : (S : State) (wanted : Wait) (outcome : Outcome) → GetComesTo S wanted outcome → OutcomeGrows S outcome
get_grows S wanted outcome is = grind (arith, common_steps, answer_grows)

locked_grows : (S : State) (wanted : Wait) (outcome : Outcome) → IsLocked S wanted outcome → OutcomeGrows S outcome
locked_grows S wanted outcome is = told_now S (with_lock S wanted) _ outcome (lock_grows S wanted) is

joins_grow : (S : State) (wanted : Wait) (outcome : Outcome) → outcome ≡ waits_then S wanted [] → OutcomeGrows S outcome
joins_grow S wanted outcome is = told_now S _ _ outcome (wait_grows S wanted []) is

set_grows : (S : State) (wanted : Wait) (outcome : Outcome) → SetComesTo S wanted outcome → OutcomeGrows S outcome
set_grows S wanted outcome is = grind (arith, common_steps, refused_grows, locked_grows)

range_grows : (rules : Rules) (S : State) (p n : ℕ) (cmd : LkCmd) (look : Look) (span : Span) (wanted : Option Mode) (outcome : Outcome)
    → MatchOption wanted (outcome ≡ answered (with_byte_mode S look.file (lock_owner cmd p look) span None) p n replies.Ok)
    (λ mode. ModeComesTo rules S p n cmd look span mode outcome) → OutcomeGrows S outcome
range_grows rules S p n cmd look span wanted outcome h =
    grind (arith, common_steps, told_now, answers, length_flat, starts_of, length-append, two_starts, by_bool, get_grows, set_grows, refused_grows, joins_grow, locked_grows)

described_grows : (rules : Rules) (S : State) (p n : ℕ) (cmd : LkCmd) (lock : Lock) (look : Look) (range : Result Span RangeFault) (outcome : Outcome)
    → MatchResult range (λ span. RangeComesTo rules S p n cmd lock.kind look span outcome) (λ fault. outcome ≡ refused S p n (range_error fault))
    → OutcomeGrows S outcome
described_grows rules S p n cmd lock look range outcome is = grind (arith, common_steps, range_grows, refused_grows)

lock_comes_grows : (rules : Rules) (S : State) (p n : ℕ) (cmd : LkCmd) (lock : Lock) (look : Option Look) (outcome : Outcome)
    → MatchOption look (outcome ≡ refused S p n EBADF) (λ look. DescribedComesTo rules S p n cmd lock look outcome) → OutcomeGrows S outcome
lock_comes_grows rules S p n cmd lock look outcome h = grind (arith, common_steps, refused_grows, by_bool, described_grows)

-- ---- flock

-- the test of a request, behind grants that were made before
test_grows : (rules : Rules) (S U : State) (nb : Bool) (wanted : Wait) (grants : List Note) (outcome : Outcome) → Grows S (length grants) U 0
    → FlockTestComesTo rules U nb wanted grants outcome → OutcomeGrows S outcome
test_grows rules S U nb wanted grants outcome h h2 = grind (arith, common_steps, told_then, stays, lock_grows, wait_grows)

flock_grows : (rules : Rules) (S : State) (p n : ℕ) (op : FlockOp) (nb : Bool) (look : Option Look) (outcome : Outcome)
    → MatchOption look (outcome ≡ refused S p n EBADF) (λ look. FlockOpComesTo rules S p n look op nb outcome) → OutcomeGrows S outcome
flock_grows rules S p n op nb look outcome h =
    grind (arith, common_steps, refused_grows, length_flat, flock_starts_of, length-append, answer_grows, test_grows, grows_not, by_bool, grows_then, settles_grow)

-- ---- processes

fork_grows : (processes : ℕ) (S : State) (p n child : ℕ) (outcome : Outcome) → ForkComesTo processes S p n child outcome → OutcomeGrows S outcome
fork_grows processes S p n child outcome h = grind (arith, common_steps, answer_grows, refusal_grows)

end_grows : (S : State) (p : ℕ) (told : List Note) (outcome : Outcome) → length told ≤ 2 → EndComesTo S p told outcome → OutcomeGrows S outcome
end_grows S p told outcome h h2 = grind (arith, common_steps, starts_released, fewer_left)

signal_grows : (S : State) (p n target : ℕ) (state : ProcState) (outcome : Outcome) → SignalComesTo S p n target state outcome → OutcomeGrows S outcome
signal_grows S p n target state outcome h = grind (arith, common_steps, refused_grows, answer_grows, fewer_left)

kill_grows : (S : State) (p n target : ℕ) (state : ProcState) (outcome : Outcome) → KillOtherComesTo S p n target state outcome → OutcomeGrows S outcome
kill_grows S p n target Unborn outcome is = refused_grows S p n _ outcome is
kill_grows S p n target Ended outcome is = refused_grows S p n _ outcome is
kill_grows S p n target Live outcome is = end_grows S target _ outcome (omega arith) is
kill_grows S p n target Waiting outcome is = end_grows S target _ outcome (omega arith) is

-- ---- each request

request_grows : (rules : Rules) (processes : ℕ) (S : State) (p n : ℕ) (request : Request) (outcome : Outcome)
    → ComesTo rules processes S p n request outcome → OutcomeGrows S outcome
request_grows rules processes S p n (OpenFile file access) outcome is = open_grows rules S p n file access outcome is
request_grows rules processes S p n (Dup fd) outcome is = dup_grows rules S p n fd outcome is
request_grows rules processes S p n (DupTo fd to) outcome is = dup_to_grows rules S p n fd to outcome is
request_grows rules processes S p n (CloseFd fd) outcome is = close_grows S p n fd outcome is
request_grows rules processes S p n (Seek fd offset) outcome is = done_grows S p n is.0 is.1 outcome is.3
request_grows rules processes S p n (Resize fd size) outcome is = done_grows S p n is.0 is.1 outcome is.3
request_grows rules processes S p n (Lk fd cmd lock) outcome is = lock_comes_grows rules S p n cmd lock (look_at S.descriptors p fd) outcome is
request_grows rules processes S p n (Flock fd op nb) outcome is = flock_grows rules S p n op nb (look_at S.descriptors p fd) outcome is
request_grows rules processes S p n (Fork child) outcome is = fork_grows processes S p n child outcome is
request_grows rules processes S p n Exit outcome is = end_grows S p [] outcome (omega arith) is
request_grows rules processes S p n (Signal target) outcome is = signal_grows S p n target (S.states target) outcome is
request_grows rules processes S p n (Kill target) outcome is =
    by_bool (target == p) is (λ own. end_grows S p [] outcome (omega arith) own)
    (λ other. kill_grows S p n target (S.states target) outcome other)
request_grows rules processes S p n (Enter section visit) outcome is =
    by_bool (may_enter S.visits p section) is (λ done. answer_grows S S p n _ outcome refl refl done) (λ no. refused_grows S p n _ outcome no)
request_grows rules processes S p n (Leave section) outcome is =
    by_bool (may_leave S.visits p section) is (λ done. answer_grows S S p n _ outcome refl refl done) (λ no. refused_grows S p n _ outcome no)
request_grows rules processes S p n Bail outcome is =
    by_bool (S.refused p) is (λ ends. end_grows S p [] outcome (omega arith) ends) (λ goes_on. answer_grows S S p n _ outcome refl refl goes_on)

-- an event adds two at most
pub step_grows : (rules : Rules) (processes : ℕ) (S : State) (p n : ℕ) (request : Request) (notes : List Note) (T : State)
    → Step rules processes S p n request notes T → Grows S (length notes) T 2
step_grows rules processes S p n request notes T step = grind (arith, common_steps, length-append, grows_then, request_grows, settles_grow)
