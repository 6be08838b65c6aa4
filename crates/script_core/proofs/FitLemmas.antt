-- What a request comes to has numbers that a line may have: its notes, and the waits and locks that it leaves; and the notes are few; for
-- `deadlock_of`, `outputs_are_legal`, `push_all_unborn` and others.
use Rattle.script_core.proofs.Common.{rules, ◌≡◌, ◌≢◌, ℕ, zero, suc, slice_get, ◌+◌, ◌^◌, ◌<◌, ◌≤◌, ◌==◌, ◌||◌, true, false, List, [], ◌∷◌, ◌++◌, length, map, Option, Some, None, option_map, ⊎_elim, refl, sym, ap, ◌∙◌, subst, arith, eq-eqb, ne_eqb, append_assoc, append-nil, common_steps, ⊤, option_and_then, list_any, cases_eq, slice_get_within}
use Rattle.script_core.proofs.Common.{OFFMAX, Owner, Process, Description, Change, FlockChange, whole_file, FILES, Look, Limits, Descriptors, OpenFileDescription, description_limit, description_numbered, look_of, Released, Policy, Wait, Locks, IsBlocked, Note, Request, ProcState, Unborn, Live, Waiting, State, with_lock, Settles, IsSettled, granted, Outcome, marked, with_released, process_releases, description_releases, flock_releases, IsProcess, IsWritableNote}
use Rattle.std.proofs.Common.{pred, filter_map}
use Rattle.std.specs.Prelude.{IfSome, slice_set}
use Rattle.std.specs.List.{AllByRecursion as Each, IsDistinct}
use Rattle.std.proofs.lemmas.Map.Steps.{length-le_from_distinct_below}
use Rattle.wait_core.specs.Blocking.{AllBlocked}

-- ---- what has such numbers

-- the owner is a description that may have been made, or a process of 64
abbrev pub IsSmallOwner : Owner → Type 0
IsSmallOwner (Process p) = p ≤ 64
IsSmallOwner (Description d) = d ≤ description_limit

-- the change is of such an owner, and within files
pub record FitsChange (change : Change) : Type 0 where
  pub owner : IsSmallOwner change.owner
  pub last : change.span.last ≤ OFFMAX

-- the change is of such a description
abbrev pub FitsFlock : FlockChange → Type 0
FitsFlock change = change.description ≤ description_limit

-- no more descriptions were made than may be, each of a file that there is
pub record FitsFiles (D : Descriptors) : Type 0 where
  pub few : length D.descriptions ≤ description_limit
  pub files : Each (λ opened. opened.file < FILES) D.descriptions

-- the state has such changes and such descriptions
pub record FitsLocks (S : State) : Type 0 where
  pub changes : Each FitsChange S.changes
  pub flocks : Each FitsFlock S.flock_changes
  pub files : FitsFiles S.descriptors

-- the lock that is asked for is of such an owner, within a file that there is
pub record FitsWanted (wait : Wait) : Type 0 where
  pub owner : IsSmallOwner wait.owner
  pub first : wait.span.first ≤ OFFMAX
  pub last : wait.span.last ≤ OFFMAX
  pub file : wait.file < FILES

-- the wait is of a process that the limits have, which waits, and for such a lock
pub record FitsWait (limits : Limits) (states : ℕ → ProcState) (wait : Wait) : Type 0 where
  pub process : IsProcess limits wait.p
  pub number : wait.n < 2 ^ 64
  pub wanted : FitsWanted wait
  pub waiting : states wait.p ≡ Waiting

-- no two waits are of one process
abbrev pub AreApart : List Wait → Type 0
AreApart [] = ⊤
AreApart (wait ∷ waits) = Each (λ other. other.p ≢ wait.p) waits × AreApart waits

-- the state has such locks and waits, and who isn't unborn was alive
pub record Fits (limits : Limits) (S : State) : Type 0 where
  pub locks : FitsLocks S
  pub waits : Each (FitsWait limits S.states) S.waits
  pub apart : AreApart S.waits
  pub born : (p : ℕ) → S.states p ≢ Unborn → S.descriptors.ever_alive p ≡ true

-- it still is, where its process still waits
pub still_waits : (limits : Limits) (states now : ℕ → ProcState) (wait : Wait) → FitsWait limits states wait → now wait.p ≡ Waiting → FitsWait limits now wait
still_waits limits states now wait is waiting = record { process = is.process; number = is.number; wanted = is.wanted; waiting = waiting }

-- ---- lists

pub each_append : {X : Type 0} (P : X → Type 0) (xs ys : List X) → Each P xs → Each P ys → Each P (xs ++ ys)
each_append P [] ys first second = second
each_append P (x ∷ xs) ys first second = (first.0, each_append P xs ys first.1 second)

pub each_map : {X : Type 0} (P Q : X → Type 0) (xs : List X) → ((x : X) → P x → Q x) → Each P xs → Each Q xs
each_map P Q [] f all = tt
each_map P Q (x ∷ xs) f all = (f x all.0, each_map P Q xs f all.1)

pub each_both : {X : Type 0} (P Q R : X → Type 0) (xs : List X) → ((x : X) → P x → Q x → R x) → Each P xs → Each Q xs → Each R xs
each_both P Q R [] f all both = tt
each_both P Q R (x ∷ xs) f all both = (f x all.0 both.0, each_both P Q R xs f all.1 both.1)

pub each_middle : {X : Type 0} (P : X → Type 0) (xs : List X) (x : X) (ys : List X) → Each P (xs ++ x ∷ ys) → P x × Each P (xs ++ ys)
each_middle P [] x ys all = all
each_middle P (first ∷ xs) x ys all = let rest = each_middle P xs x ys all.1 in (rest.0, (all.0, rest.1))

pub apart_middle : (before : List Wait) (wait : Wait) (after : List Wait) → AreApart (before ++ wait ∷ after)
    → AreApart (before ++ after) × Each (λ other. other.p ≢ wait.p) (before ++ after)
apart_middle [] wait after apart = (apart.1, apart.0)
apart_middle (first ∷ before) wait after apart =
    let rest = apart_middle before wait after apart.1 in
    let own = each_middle (λ (other : Wait). other.p ≢ first.p) before wait after apart.0 in
    ((own.1, rest.0), ((λ e. own.0 (sym e)), rest.1))

pub apart_push : (waits : List Wait) (wait : Wait) → AreApart waits → Each (λ other. other.p ≢ wait.p) waits → AreApart (waits ++ wait ∷ [])
apart_push [] wait apart others = (tt, tt)
apart_push (first ∷ waits) wait apart others = grind (arith, common_steps, each_append, apart_push waits)

-- ---- who waits

-- a process that lives has no wait
pub others_wait : (limits : Limits) (S : State) (p : ℕ) → S.states p ≢ Waiting → Fits limits S → Each (λ wait. wait.p ≢ p) S.waits
others_wait limits S p idle fits = grind (arith, common_steps, each_map)

pub few_processes : (limits : Limits) (p : ℕ) → IsProcess limits p → p ≤ 64
few_processes limits p is = grind (arith, common_steps)

numbers_of : List Wait → List ℕ
numbers_of waits = map (λ wait. wait.p) waits

each_number : (waits : List Wait) (p : ℕ) → Each (λ wait. wait.p ≢ p) waits → Each (λ q. (p == q) ≡ false) (numbers_of waits)
unfolding numbers_of
each_number [] p others = tt
each_number (wait ∷ waits) p others = (ne_eqb p wait.p (λ e. others.0 (sym e)), each_number waits p others.1)

distinct : (waits : List Wait) → AreApart waits → IsDistinct (λ p q. p == q) (numbers_of waits)
unfolding numbers_of IsDistinct
distinct [] apart = tt
distinct (wait ∷ waits) apart = (each_number waits wait.p apart.0, distinct waits apart.1)

no_zero : (limits : Limits) (states : ℕ → ProcState) (waits : List Wait) → Each (FitsWait limits states) waits → Each (λ q. (0 == q) ≡ false) (numbers_of waits)
unfolding numbers_of
no_zero limits states [] fits = tt
no_zero limits states (wait ∷ waits) fits = grind (arith, common_steps, no_zero limits states waits)

below : (limits : Limits) (states : ℕ → ProcState) (waits : List Wait) → Each (FitsWait limits states) waits → (q : ℕ)
    → list_any (λ p. q == p) (numbers_of waits) ≡ true → q < 65
unfolding numbers_of
below limits states [] fits q among = absurd (let bad : false ≡ true = among in cc)
below limits states (wait ∷ waits) fits q among =
    ⊎_elim
    (λ same. let few = few_processes limits wait.p fits.0.process in omega (arith, same, few))
    (λ other.
    let later : list_any (λ p. q == p) (numbers_of waits) ≡ true =
    subst (λ b. (b || list_any (λ p. q == p) (numbers_of waits)) ≡ true) (ne_eqb q wait.p other) among in
    below limits states waits fits.1 q later)
    (cases_eq q wait.p)

below_zero : (limits : Limits) (states : ℕ → ProcState) (waits : List Wait) → Each (FitsWait limits states) waits → (q : ℕ)
    → list_any (λ r. q == r) (0 ∷ numbers_of waits) ≡ true → q < 65
below_zero limits states waits fits q among = grind (arith, common_steps, below, numbers_of, cases_eq)

many_numbers : (waits : List Wait) → length (numbers_of waits) ≡ length waits
unfolding numbers_of
many_numbers [] = refl
many_numbers (wait ∷ waits) = ap suc (many_numbers waits)

below_more : (limits : Limits) (states : ℕ → ProcState) (waits : List Wait) (p : ℕ) → p ≤ 64 → Each (FitsWait limits states) waits → (q : ℕ)
    → list_any (λ r. q == r) (0 ∷ p ∷ numbers_of waits) ≡ true → q < 65
below_more limits states waits p few fits q among = grind (arith, common_steps, numbers_of, below, cases_eq)

-- while a process lives, 63 others wait at most
pub few_wait : (limits : Limits) (S : State) (p : ℕ) → IsProcess limits p → S.states p ≡ Live → Fits limits S → length S.waits + 1 ≤ 64
unfolding numbers_of IsDistinct
few_wait limits S p is live fits =
    let idle : S.states p ≢ Waiting = λ e. let bad : Live ≡ Waiting = sym live ∙ e in cc in
    let few = few_processes limits p is in
    let low = is.0 in
    let others = each_number S.waits p (others_wait limits S p idle fits) in
    let counted = length-le_from_distinct_below (0 ∷ p ∷ numbers_of S.waits) 65
    ((ne_eqb 0 p (λ e. omega (arith, e, low)), no_zero limits S.states S.waits fits.waits), (others, distinct S.waits fits.apart))
    (below_more limits S.states S.waits p few fits.waits) in
    let all = many_numbers S.waits in
    omega (arith, counted, all)

-- and 64 wait at most
pub few_waits : (limits : Limits) (S : State) → Fits limits S → length S.waits ≤ 64
unfolding numbers_of IsDistinct
few_waits limits S fits =
    let counted = length-le_from_distinct_below (0 ∷ numbers_of S.waits) 65 (no_zero limits S.states S.waits fits.waits, distinct S.waits fits.apart)
    (below_zero limits S.states S.waits fits.waits) in
    let all = many_numbers S.waits in
    omega (arith, counted, all)

-- ---- changes

-- a lock that is set for a wait fits
pub lock_locks : (S : State) (wait : Wait) → FitsWanted wait → FitsLocks S → FitsLocks (with_lock S wait)
lock_locks S wait wanted locks = grind (arith, common_steps, each_append)

-- it leaves the processes and the waits
pub record SameProcesses (S T : State) : Type 0 where
  pub states : T.states ≡ S.states
  pub waits : T.waits ≡ S.waits
  pub alive : (p : ℕ) → T.descriptors.ever_alive p ≡ S.descriptors.ever_alive p

pub same_locked : (S : State) (wait : Wait) → SameProcesses S (with_lock S wait)
same_locked S wait = grind (arith, common_steps)

pub fits_same : (limits : Limits) (S T : State) → Fits limits S → SameProcesses S T → FitsLocks T → Fits limits T
fits_same limits S T fits same locks = grind (arith, common_steps)

-- who is in which section, and was refused, changes nothing of it
pub marked_same : (S : State) (p : ℕ) (request : Request) (outcome : Outcome) → SameProcesses outcome.after (marked S p request outcome)
marked_same S p request outcome = record { states = refl; waits = refl; alive = λ q. refl }

pub marked_fits : (limits : Limits) (S : State) (p : ℕ) (request : Request) (outcome : Outcome) → Fits limits outcome.after
    → Fits limits (marked S p request outcome)
marked_fits limits S p request outcome fits =
    fits_same limits outcome.after (marked S p request outcome) fits (marked_same S p request outcome)
    (record { changes = fits.locks.changes; flocks = fits.locks.flocks; files = fits.locks.files })

-- what a process releases fits
released_files : (p : ℕ) (files : List ℕ) → p ≤ 64 → Each FitsChange (process_releases p files)
released_files p [] few = tt
released_files p (file ∷ files) few = (record { owner = few; last = omega arith }, released_files p files few)

each_filtered : {X Y : Type 0} (P : Y → Type 0) (f : X → Option Y) (xs : List X) → ((x : X) → IfSome (f x) P) → Each P (filter_map f xs)
each_filtered P f [] is = tt
each_filtered {Y = Y} P f (x ∷ xs) is = grind (arith, common_steps, each_filtered P f xs)

-- a description that was made has a number of those
numbered_within : (opened : List OpenFileDescription) (d : ℕ) (x : OpenFileDescription) → description_numbered opened d ≡ Some x → d ≤ length opened
numbered_within opened d x is = grind (arith, common_steps, below, slice_get_within)

released_descriptions : (opened : List OpenFileDescription) (descriptions : List ℕ) → length opened ≤ description_limit
    → Each FitsChange (description_releases opened descriptions)
released_descriptions opened descriptions few = each_filtered FitsChange _ descriptions (λ d. one d (description_numbered opened d) refl)
  where
    one : (d : ℕ) (found : Option OpenFileDescription) → description_numbered opened d ≡ found
        → IfSome (option_map (λ (x : OpenFileDescription). record { file = x.file; owner = Description d; span = whole_file; mode = None }) found) FitsChange
    one d None is = tt
    one d (Some x) is = let within = numbered_within opened d x is in record { owner = omega (arith, within, few); last = omega arith }

released_flocks : (opened : List OpenFileDescription) (descriptions : List ℕ) → length opened ≤ description_limit
    → Each FitsFlock (flock_releases opened descriptions)
released_flocks opened descriptions few = each_filtered FitsFlock _ descriptions (λ d. one d (description_numbered opened d) refl)
  where
    one : (d : ℕ) (found : Option OpenFileDescription) → description_numbered opened d ≡ found
        → IfSome (option_map (λ (x : OpenFileDescription). record { file = x.file; description = d; mode = None }) found) FitsFlock
    one d None is = tt
    one d (Some x) is = let within = numbered_within opened d x is in omega (arith, within, few)

pub released_locks : (S : State) (D : Descriptors) (p : ℕ) (released : Released) → p ≤ 64 → FitsLocks S → FitsFiles D
    → FitsLocks (with_released S D p released)
released_locks S D p released small locks files = grind (arith, common_steps, each_append, released_files, released_descriptions, released_flocks)

-- ---- what a descriptor refers to

each_at : {X : Type 0} (P : X → Type 0) (xs : List X) (k : ℕ) (x : X) → Each P xs → slice_get xs k ≡ Some x → P x
each_at P [] k x all is = absurd (let bad : None ≡ Some x = is in cc)
each_at P (first ∷ xs) zero x all is = let same : first ≡ x = cc in subst P same all.0
each_at P (first ∷ xs) (suc k) x all is = each_at P xs k x all.1 is

-- the descriptor refers to a description of a file that there is
abbrev pub FitsLook : Look → Type 0
FitsLook look = (look.file < FILES) × (look.desc ≤ description_limit)

file_of : (D : Descriptors) (number : ℕ) (x : OpenFileDescription) → FitsFiles D → description_numbered D.descriptions number ≡ Some x → x.file < FILES
file_of D zero x fits is = absurd (let bad : None ≡ Some x = is in cc)
file_of D (suc k) x fits is = each_at (λ (opened : OpenFileDescription). opened.file < FILES) D.descriptions k x fits.files is

look_by : (D : Descriptors) (number : ℕ) (found : Option OpenFileDescription) (look : Look) → FitsFiles D → description_numbered D.descriptions number ≡ found
    → option_map (look_of D number) found ≡ Some look → FitsLook look
look_by D number found look h h2 h3 = grind (arith, common_steps, numbered_within, file_of)

pub look_fits : (D : Descriptors) (found : Option ℕ) (look : Look) → FitsFiles D
    → option_and_then (λ number. option_map (look_of D number) (description_numbered D.descriptions number)) found ≡ Some look → FitsLook look
look_fits D found look fits is = grind (arith, common_steps, look_by)

-- the same descriptions
pub same_files : (old new : Descriptors) → new.descriptions ≡ old.descriptions → FitsFiles old → FitsFiles new
same_files old new same fits = grind (arith, common_steps)

-- one with another offset
pub moved_file : (old new : Descriptors) (number offset : ℕ) (x : OpenFileDescription) → description_numbered old.descriptions number ≡ Some x
    → new.descriptions ≡ slice_set old.descriptions (pred number) (record x { offset = offset }) → FitsFiles old → FitsFiles new
moved_file old new number offset x h h2 h3 = grind (arith, common_steps, file_of)

-- ---- settling

-- a wait leaves the list, and its process lives
granted_fits : (limits : Limits) (S : State) (before : List Wait) (wait : Wait) (after : List Wait) → S.waits ≡ before ++ wait ∷ after → Fits limits S
    → Fits limits (granted S before wait after)
granted_fits limits S before wait after place fits = search (rules, each_middle, apart_middle, same_locked, lock_locks, each_both, still_waits, cases_eq)

-- the waits that settling grants leave the list, and what it tells can be written
pub record SettlesFit (limits : Limits) (S : State) (grants : List Note) (T : State) : Type 0 where
  pub after : Fits limits T
  pub told : Each (IsWritableNote limits) grants
  pub count : length grants + length T.waits ≡ length S.waits
  pub live : (p : ℕ) → S.states p ≡ Live → T.states p ≡ Live

pub settles_fit : (limits : Limits) (policy : Policy) (S : State) (grants : List Note) (T : State) → Fits limits S → Settles policy S grants T
    → SettlesFit limits S grants T
settles_fit limits policy S [] T fits settles = grind (arith, common_steps)
settles_fit limits policy S (grant ∷ grants) T fits (before, wait, after, next, is, rest) =
    let U = granted S before wait after in
    let later = settles_fit limits policy U grants T (granted_fits limits S before wait after next.place fits) rest in
    let own = (each_middle (FitsWait limits S.states) before wait after (subst (λ (l : List Wait). Each (FitsWait limits S.states) l) next.place fits.waits)).0 in
    let size : length S.waits ≡ suc (length (before ++ after)) = ap length next.place ∙ one_more before wait after in
    record {
      after = later.after;
      told = (subst (IsWritableNote limits) (sym is) (own.process, own.number, tt), later.told);
      count = (let count = later.count in omega (arith, count, size));
      live = λ p live. later.live p (still_live p live);
    }
  where
    one_more : (before : List Wait) (wait : Wait) (after : List Wait) → length (before ++ wait ∷ after) ≡ suc (length (before ++ after))
    one_more [] wait after = refl
    one_more (first ∷ before) wait after = ap suc (one_more before wait after)

    still_live : (p : ℕ) → S.states p ≡ Live → (granted S before wait after).states p ≡ Live
    still_live p live = ⊎_elim (λ same. rw (eq-eqb p wait.p same) refl)
        (λ differs. rw (ne_eqb p wait.p differs) (ap (λ (states : ℕ → ProcState). states p) (same_locked S wait).states ∙ live)) (cases_eq p wait.p)

-- settling leaves a settled state
pub settles_settled : (policy : Policy) (S : State) (grants : List Note) (T : State) → Settles policy S grants T → IsSettled policy T
settles_settled policy S [] T settles = subst (IsSettled policy) (sym settles.1) settles.0
settles_settled policy S (grant ∷ grants) T (before, wait, after, next, is, rest) = settles_settled policy (granted S before wait after) grants T rest

pub blocked_at : (policy : Policy) (locks : Locks) (earlier before : List Wait) (wait : Wait) (after : List Wait)
    → AllBlocked policy locks earlier (before ++ wait ∷ after) → IsBlocked policy locks (earlier ++ before) wait
blocked_at policy locks earlier [] wait after all = subst (λ (l : List Wait). IsBlocked policy locks l wait) (sym (append-nil earlier)) all.0
blocked_at policy locks earlier (first ∷ before) wait after all =
    grind (arith, common_steps, append_assoc, blocked_at policy locks (earlier ++ first ∷ []) before)

-- in a settled state it grants nothing
pub nothing_granted : (policy : Policy) (S : State) (grants : List Note) (T : State) → IsSettled policy S → Settles policy S grants T → grants ≡ []
nothing_granted policy S [] T settled settles = refl
nothing_granted policy S (grant ∷ grants) T settled (before, wait, after, next, is, rest) = grind (arith, common_steps, blocked_at)

-- a blocked wait behind blocked ones is blocked there
pub blocked_more : (policy : Policy) (locks : Locks) (earlier waits : List Wait) (wait : Wait) → AllBlocked policy locks earlier waits
    → IsBlocked policy locks (earlier ++ waits) wait → AllBlocked policy locks earlier (waits ++ wait ∷ [])
blocked_more policy locks earlier [] wait all is = (subst (λ (l : List Wait). IsBlocked policy locks l wait) (append-nil earlier) is, tt)
blocked_more policy locks earlier (first ∷ waits) wait all is =
    grind (arith, common_steps, append_assoc, blocked_more policy locks (earlier ++ first ∷ []) waits)
