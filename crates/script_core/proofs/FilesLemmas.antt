-- Each description and each wait is of one of the files, and each step keeps that: for `write_explained`, clause `ok`.
use Rattle.script_core.proofs.Common.{All-head, All-tail, All-append, common_steps, rules, ℕ, zero, suc, ◌≡◌, ◌==◌, ◌<◌, ◌||◌, not, Bool, Option, Some, List, [], ◌∷◌, ◌++◌, All, sym, subst, arith, slice_get, get_or_from_slice_get, slice_get_within}
use Rattle.script_core.proofs.Common.{Mode, resolution, Owner, FILES, FdFault, Look, Descriptors, OpenFileDescription, SameDescriptors, description_numbered, look_at, opening_descriptors, Family, Policy, Wait, Rules, Lock, LkCmd, FlockOp, Note, Request, OpenFile, Dup, DupTo, CloseFd, Seek, Resize, Lk, Flock, Fork, Exit, Signal, Kill, Enter, Leave, Bail, ProcState, Unborn, Live, Waiting, Ended, State, opening_state, with_lock_of, Settles, granted, Outcome, IsRefusal, waits_then, is_get, is_bad_argument, wanted_mode, permits, wanted_lock, CommandComesTo, DescribedComesTo, FlockModeComesTo, FlockOpComesTo, EndComesTo, SignalComesTo, KillOtherComesTo, AsksFor, may_enter, may_leave, ComesTo, Step, IsWithinFiles}
use Rattle.std.proofs.lemmas.List.Elements.{All-cons, All-set, All-filter}
use Rattle.script_core.proofs.DeadlockStepLemmas.{if_option, if_result}
use Rattle.script_core.proofs.OutcomeFitLemmas.{by_bool}

abbrev InFiles : List OpenFileDescription → Type 0
InFiles descriptions = All (λ opened. opened.file < FILES) descriptions

abbrev WaitInFiles : Wait → Type 0
WaitInFiles wait = wait.file < FILES

-- lists, an item more or less
all_one : {X : Type 0} (P : X → Type 0) (x : X) → P x → All P (x ∷ [])
all_one P x holds h2 d within = grind (arith, common_steps)

all_without : {X : Type 0} (P : X → Type 0) (before : List X) (x : X) (after : List X) → All P (before ++ x ∷ after) → All P (before ++ after)
all_without P [] x after h = All-tail P x after h
all_without P (y ∷ before) x after h =
    All-cons P y (before ++ after) (All-head P y (before ++ x ∷ after) h) (all_without P before x after (All-tail P y (before ++ x ∷ after) h))

all_at : {X : Type 0} (P : X → Type 0) (xs : List X) (k : ℕ) (x : X) → All P xs → slice_get xs k ≡ Some x → P x
all_at P xs k x h is = subst P (get_or_from_slice_get xs k x x is) (h k x (slice_get_within xs k x is))

-- at the opening there are none
pub opening_files : IsWithinFiles opening_state
unfolding opening_state opening_descriptors
opening_files = record { descriptions = λ k d within. absurd (omega (arith, within)); waits = λ k d within. absurd (omega (arith, within)) }

-- the description with a number, and what a descriptor refers to
numbered_file : (descriptions : List OpenFileDescription) (number : ℕ) (opened : OpenFileDescription) → InFiles descriptions
    → description_numbered descriptions number ≡ Some opened → opened.file < FILES
numbered_file descriptions zero opened h is = absurd (cc)
numbered_file descriptions (suc k) opened h is = all_at (λ (o : OpenFileDescription). o.file < FILES) descriptions k opened h is

pub look_file : (D : Descriptors) (p fd : ℕ) (look : Look) → InFiles D.descriptions → look_at D p fd ≡ Some look → look.file < FILES
look_file D p fd look h is = grind (arith, common_steps, numbered_file)

-- a lock that is set changes neither
lock_within : (family : Family) (owner : Owner) (S : State) (wait : Wait) → IsWithinFiles S → IsWithinFiles (with_lock_of family owner S wait)
lock_within family owner S wait h = grind (arith, common_steps)

settles_within : (policy : Policy) (S : State) (grants : List Note) (T : State) → Settles policy S grants T → IsWithinFiles S → IsWithinFiles T
settles_within policy S [] T h within = subst IsWithinFiles (sym h.1) within
settles_within policy S (grant ∷ grants) T (before, wait, after, next, is, rest) within =
    settles_within policy (granted S before wait after) grants T rest
    (record {
      descriptions = (lock_within wait.family wait.owner S wait within).descriptions;
      waits = all_without WaitInFiles before wait after (subst (All WaitInFiles) next.place within.waits);
    })

-- an outcome
leaves : (outcome other : Outcome) → outcome ≡ other → IsWithinFiles other.after → IsWithinFiles outcome.after
leaves outcome other is within = subst (λ (o : Outcome). IsWithinFiles o.after) (sym is) within

refusal_leaves : (S : State) (p n : ℕ) (fault : FdFault) (outcome : Outcome) → IsRefusal S p n fault outcome → IsWithinFiles S → IsWithinFiles outcome.after
refusal_leaves S p n fault outcome h h2 = grind (arith, common_steps, leaves)

-- the same descriptions, or others that are of the files
with_files : (S : State) (descriptors : Descriptors) → InFiles descriptors.descriptions → IsWithinFiles S
    → IsWithinFiles (record S { descriptors = descriptors })
with_files S descriptors files within = record { descriptions = files; waits = within.waits }

same_files : (new old : Descriptors) → SameDescriptors new old → InFiles old.descriptions → InFiles new.descriptions
same_files new old same files = subst InFiles (sym same.descriptions) files

end_leaves : (S : State) (p : ℕ) (told : List Note) (outcome : Outcome) → EndComesTo S p told outcome → IsWithinFiles S → IsWithinFiles outcome.after
end_leaves S p told outcome h h2 = search (rules, leaves, same_files, All-filter)

signal_leaves : (S : State) (p n target : ℕ) (state : ProcState) (outcome : Outcome) → SignalComesTo S p n target state outcome → IsWithinFiles S
    → IsWithinFiles outcome.after
signal_leaves S p n target Unborn outcome h within = leaves outcome _ h within
signal_leaves S p n target Ended outcome h within = leaves outcome _ h within
signal_leaves S p n target Live outcome h within = leaves outcome _ h within
signal_leaves S p n target Waiting outcome h within =
    leaves outcome _ h.2 (record {
      descriptions = within.descriptions;
      waits = All-filter (λ (wait : Wait). not (wait.p == target)) WaitInFiles S.waits within.waits;
    })

kill_leaves : (S : State) (p n target : ℕ) (state : ProcState) (outcome : Outcome) → KillOtherComesTo S p n target state outcome → IsWithinFiles S
    → IsWithinFiles outcome.after
kill_leaves S p n target Unborn outcome h within = leaves outcome _ h within
kill_leaves S p n target Ended outcome h within = leaves outcome _ h within
kill_leaves S p n target Live outcome h within = end_leaves S target _ outcome h within
kill_leaves S p n target Waiting outcome h within = end_leaves S target _ outcome h within

-- a wait more
waits_leave : (S : State) (wait : Wait) (grants : List Note) (outcome : Outcome) → outcome ≡ waits_then S wait grants → wait.file < FILES → IsWithinFiles S
    → IsWithinFiles outcome.after
waits_leave S wait grants outcome is low within = grind (arith, common_steps, leaves, All-append, all_one)

mode_leaves : (rules : Rules) (S : State) (look : Look) (nb : Bool) (wanted : Wait) (held : Option Mode) (outcome : Outcome)
    → FlockModeComesTo rules S look nb wanted held outcome
    → wanted.file < FILES → IsWithinFiles S → IsWithinFiles outcome.after
mode_leaves rules S look nb wanted held outcome h h2 h3 = grind (arith, common_steps, leaves, lock_within, waits_leave, by_bool, settles_within)

op_leaves : (rules : Rules) (S : State) (p n : ℕ) (look : Look) (op : FlockOp) (nb : Bool) (outcome : Outcome) → FlockOpComesTo rules S p n look op nb outcome
    → look.file < FILES → IsWithinFiles S → IsWithinFiles outcome.after
op_leaves rules S p n look op nb outcome h h2 h3 = grind (arith, common_steps, leaves, mode_leaves)

command_leaves : (rules : Rules) (S : State) (cmd : LkCmd) (wanted : Wait) (outcome : Outcome) → CommandComesTo rules S cmd wanted outcome
    → wanted.file < FILES → IsWithinFiles S → IsWithinFiles outcome.after
command_leaves rules S cmd wanted outcome h h2 h3 = grind (arith, common_steps, leaves, lock_within, All-append, all_one)

described_leaves : (rules : Rules) (S : State) (p n : ℕ) (cmd : LkCmd) (lock : Lock) (look : Look) (outcome : Outcome)
    → DescribedComesTo rules S p n cmd lock look outcome
    → look.file < FILES → IsWithinFiles S → IsWithinFiles outcome.after
described_leaves rules S p n cmd lock look outcome h low within =
    by_bool (is_bad_argument cmd lock) h (λ bad. leaves outcome _ bad within)
    (λ good. if_result (resolution lock.whence lock.start lock.len look.offset look.size) _ _ (IsWithinFiles outcome.after) good
    (λ span resolved ranged. if_option (wanted_mode lock.kind) _ _ (IsWithinFiles outcome.after) ranged
    (λ unlocked. leaves outcome _ unlocked (record { descriptions = within.descriptions; waits = within.waits }))
    (λ mode kind wants. by_bool (is_get cmd || permits look.access mode) wants
    (λ command. command_leaves rules S cmd (wanted_lock cmd p n look span mode) outcome command low within) (λ denied. leaves outcome _ denied within)))
    (λ fault no_range. leaves outcome _ no_range within))

outcome_leaves : (rules : Rules) (processes : ℕ) (S : State) (p n : ℕ) (request : Request) (outcome : Outcome) → ComesTo rules processes S p n request outcome
    → IsWithinFiles S → IsWithinFiles outcome.after
outcome_leaves rules processes S p n (OpenFile file access) outcome (result, descriptors, gives, comes) within =
    grind (arith, common_steps, if_result, leaves, with_files, All-append, all_one, refusal_leaves)
outcome_leaves rules processes S p n (Dup fd) outcome (result, descriptors, gives, comes) within =
    grind (arith, common_steps, if_result, leaves, with_files, same_files, refusal_leaves)
outcome_leaves rules processes S p n (DupTo fd to) outcome (result, descriptors, gives, comes) within =
    grind (arith, common_steps, if_result, by_bool, same_files, leaves, refusal_leaves)
outcome_leaves rules processes S p n (CloseFd fd) outcome (result, descriptors, gives, comes) within =
    grind (arith, common_steps, if_result, leaves, same_files, refusal_leaves)
outcome_leaves rules processes S p n (Seek fd offset) outcome (result, descriptors, gives, comes) within =
    grind (arith, common_steps, if_result, numbered_file, leaves, with_files, All-set, refusal_leaves)
outcome_leaves rules processes S p n (Resize fd size) outcome (result, descriptors, gives, comes) within =
    grind (arith, common_steps, if_result, leaves, with_files, same_files, refusal_leaves)
outcome_leaves rules processes S p n (Fork child) outcome (result, descriptors, gives, comes) within =
    grind (arith, common_steps, if_result, leaves, same_files, refusal_leaves)
outcome_leaves rules processes S p n (Lk fd cmd lock) outcome h within =
    if_option (look_at S.descriptors p fd) _ _ (IsWithinFiles outcome.after) h (λ closed. leaves outcome _ closed within)
    (λ look opened described.
    described_leaves rules S p n cmd lock look outcome described (look_file S.descriptors p fd look within.descriptions opened) within)
outcome_leaves rules processes S p n (Flock fd op nb) outcome h within =
    if_option (look_at S.descriptors p fd) _ _ (IsWithinFiles outcome.after) h (λ closed. leaves outcome _ closed within)
    (λ look opened done. op_leaves rules S p n look op nb outcome done (look_file S.descriptors p fd look within.descriptions opened) within)
outcome_leaves rules processes S p n Exit outcome h within = end_leaves S p [] outcome h within
outcome_leaves rules processes S p n (Signal target) outcome h within = signal_leaves S p n target (S.states target) outcome h within
outcome_leaves rules processes S p n (Kill target) outcome h within =
    by_bool (target == p) h (λ own. end_leaves S p [] outcome own within)
    (λ others. kill_leaves S p n target (S.states target) outcome others within)
outcome_leaves rules processes S p n (Enter section visit) outcome h within =
    by_bool (may_enter S.visits p section) h (λ done. leaves outcome _ done within) (λ no. leaves outcome _ no within)
outcome_leaves rules processes S p n (Leave section) outcome h within =
    by_bool (may_leave S.visits p section) h (λ done. leaves outcome _ done within) (λ no. leaves outcome _ no within)
outcome_leaves rules processes S p n Bail outcome h within =
    by_bool (S.refused p) h (λ ends. end_leaves S p [] outcome ends within) (λ goes_on. leaves outcome _ goes_on within)

-- each step keeps it
pub step_files : (rules : Rules) (processes : ℕ) (S : State) (p n : ℕ) (request : Request) (notes : List Note) (T : State)
    → Step rules processes S p n request notes T → IsWithinFiles S → IsWithinFiles T
step_files rules processes S p n request notes T step within = grind (arith, common_steps, settles_within, outcome_leaves)

-- the lock that a request asks for is of one of the files
pub asks_file : (S : State) (p n : ℕ) (request : Request) (wait : Wait) → IsWithinFiles S → AsksFor S p n request wait → wait.file < FILES
asks_file S p n request wait h h2 = grind (arith, common_steps, look_file)
