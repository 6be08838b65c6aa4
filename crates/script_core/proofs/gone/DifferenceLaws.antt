-- The locks that an event releases and those that it loses are the difference of the reports before and behind it.
use Rattle.script_core.proofs.Common.{arith, rules, ne_eqb, ◌≡◌, ◌≢◌, ℕ, ◌<◌, ◌≤◌, ◌==◌, ◌&&◌, ◌⊎◌, inl, inr, not, Bool, true, false, MatchBool, MatchOption, if◌then◌else◌, Option, Some, None, is_some, option_map, option_to_list, List, [], ◌∷◌, ◌++◌, refl, sym, ap, ◌∙◌, subst, eq-eqb, append-nil, common_steps, and_from, and_parts, cases_Bool, eqb-true}
use Rattle.script_core.proofs.Common.{Mode, Look, look_at, descriptor_limit, Held, Owner, Process, Description, mode_in, flock_mode_in, LocksHaveOneReport, AreFlockLocks, IsHeldReport, Rules, Lock, LkCmd, Sh, Ex, Un, Note, Request, OpenFile, Dup, DupTo, CloseFd, Seek, Resize, Lk, Flock, Fork, Exit, Signal, Kill, Enter, Leave, Bail, Live, Family, Bytes, Whole, Policy, State, opening_state, with_lock_of, with_process, Settles, granted, Wait, Outcome, wanted_mode, may_enter, may_leave, marked, ComesTo, Event, IsStep, Leads, Closing, OneOf, AllOf, IsWithinFiles, flock_line, closed_by, lost}
use Rattle.std.specs.Prelude.{is_none}
use Rattle.std.proofs.lemmas.Bool.{not-true}
use Rattle.script_core.specs.Losses.{AreReleased, flock_of, lost_of, gone, is_unlock, LossesAreDifferences}
use Rattle.script_core.proofs.FilesLemmas.{opening_files, step_files, look_file}
use Rattle.script_core.proofs.DeadlockStepLemmas.{if_option}
use Rattle.script_core.proofs.explained.LossLaws.{goes_with, released_reported}
use Rattle.script_core.proofs.explained.ReportPlaceLemmas.{PlaceTest, bytes_at, flocks_at, file_reported, none_reported, no_bytes, one_flock}
use Rattle.script_core.proofs.explained.WaitingMoves.{AreStanding, opening_stands, step_stands, request_stands, marked_stands}
use Rattle.script_core.proofs.gone.GoneLaws.{Leaves, gone_is}
use Rattle.script_core.proofs.gone.HolderMoves.{AreHeld, Keeps, keeps_then, opening_held, settles_held, settles_keep}
use Rattle.script_core.proofs.gone.StepMoves.{Stays, StaysBut, KeepsBut, but_then, told_stays, tested_stays, open_stays, dup_stays, seek_stays, resize_stays, fork_stays, signal_stays, described_held, described_stays, shared_stays, exclusive_stays, op_held}
use Rattle.script_core.proofs.gone.TakenMoves.{IsTaken, keeps_leave, close_taken, dup_to_taken, end_taken, kill_taken, bail_taken, settles_leave}

-- ---- the states of a run

request_held : (rules : Rules) (processes : ℕ) (S : State) (p n : ℕ) (request : Request) (outcome : Outcome) → AreStanding S
    → AreHeld processes (descriptor_limit rules.limits) S → S.states p ≡ Live → ComesTo rules processes S p n request outcome
    → AreHeld processes (descriptor_limit rules.limits) outcome.after
request_held rules processes S p n (OpenFile file access) outcome standing h live is = (open_stays rules processes S p n file access outcome h live is).held
request_held rules processes S p n (Dup fd) outcome standing h live is = (dup_stays rules processes S p n fd outcome h is).held
request_held rules processes S p n (DupTo fd to) outcome standing h live is = (dup_to_taken rules processes S p n fd to outcome standing h live is).held
request_held rules processes S p n (CloseFd fd) outcome standing h live is =
    (close_taken processes (descriptor_limit rules.limits) S p n fd outcome standing h live is).held
request_held rules processes S p n (Seek fd offset) outcome standing h live is =
    (seek_stays processes (descriptor_limit rules.limits) S p n fd offset outcome h is).held
request_held rules processes S p n (Resize fd size) outcome standing h live is =
    (resize_stays processes (descriptor_limit rules.limits) S p n fd size outcome h is).held
request_held rules processes S p n (Lk fd cmd lock) outcome standing h live is =
    if_option (look_at S.descriptors p fd) _ _ (AreHeld processes (descriptor_limit rules.limits) outcome.after) is
    (λ closed. (told_stays processes (descriptor_limit rules.limits) S p n _ [] outcome h closed).held)
    (λ look opened described. described_held rules processes (descriptor_limit rules.limits) S p n fd cmd lock look outcome h live opened described)
request_held rules processes S p n (Flock fd op nb) outcome standing h live is =
    if_option (look_at S.descriptors p fd) _ _ (AreHeld processes (descriptor_limit rules.limits) outcome.after) is
    (λ closed. (told_stays processes (descriptor_limit rules.limits) S p n _ [] outcome h closed).held)
    (λ look opened done. op_held rules processes (descriptor_limit rules.limits) S p n fd look op nb outcome standing h live opened done)
request_held rules processes S p n (Fork child) outcome standing h live is =
    (fork_stays processes (descriptor_limit rules.limits) S p n child outcome standing h is).held
request_held rules processes S p n Exit outcome standing h live is = (end_taken processes (descriptor_limit rules.limits) S p [] outcome h is).held
request_held rules processes S p n (Signal target) outcome standing h live is =
    (signal_stays processes (descriptor_limit rules.limits) S p n target (S.states target) outcome h refl is).held
request_held rules processes S p n (Kill target) outcome standing h live is =
    (kill_taken processes (descriptor_limit rules.limits) S p n target outcome h live is).held
request_held rules processes S p n (Enter section visit) outcome standing h live is =
    (tested_stays processes (descriptor_limit rules.limits) S p n (may_enter S.visits p section) outcome h is).held
request_held rules processes S p n (Leave section) outcome standing h live is =
    (tested_stays processes (descriptor_limit rules.limits) S p n (may_leave S.visits p section) outcome h is).held
request_held rules processes S p n Bail outcome standing h live is = (bail_taken processes (descriptor_limit rules.limits) S p n outcome h is).held

-- who is in which section, and was refused, changes nothing of it
marked_held : (processes limit : ℕ) (S : State) (p : ℕ) (request : Request) (outcome : Outcome) → AreHeld processes limit outcome.after
    → AreHeld processes limit (marked S p request outcome)
marked_held processes limit S p request outcome h =
    record { bytes = h.bytes; flocks = h.flocks; waits = h.waits; descriptors = h.descriptors; numbered = h.numbered }

-- what holds of each state that a run leaves
record IsReached (processes limit : ℕ) (S : State) : Type 0 where
  files : IsWithinFiles S
  standing : AreStanding S
  held : AreHeld processes limit S

step_reaches : (rules : Rules) (processes : ℕ) (S : State) (event : Event) (T : State) → IsReached processes (descriptor_limit rules.limits) S
    → IsStep rules processes S event T → IsReached processes (descriptor_limit rules.limits) T
step_reaches rules processes S event T reached step =
    let behind = marked S event.p event.request step.outcome in
    let standing = request_stands rules processes S event.p event.n event.request step.outcome reached.standing step.live step.comes_to in
    record {
      files = step_files rules processes S event.p event.n event.request event.notes T step reached.files;
      standing = step_stands rules processes S event.p event.n event.request event.notes T reached.standing step;
      held = settles_held processes (descriptor_limit rules.limits) rules.policy behind step.grants T step.settles
          (marked_stands S event.p event.request step.outcome standing)
          (marked_held processes (descriptor_limit rules.limits) S event.p event.request step.outcome
          (request_held rules processes S event.p event.n event.request step.outcome reached.standing reached.held step.live step.comes_to));
    }

leads_reach : (rules : Rules) (processes : ℕ) (S : State) (events : List Event) (T : State) → IsReached processes (descriptor_limit rules.limits) S
    → Leads rules processes S events T → IsReached processes (descriptor_limit rules.limits) T
leads_reach rules processes S [] T reached leads = subst (IsReached processes (descriptor_limit rules.limits)) (sym leads) reached
leads_reach rules processes S (event ∷ events) T reached (between, step, rest) =
    leads_reach rules processes between events T (step_reaches rules processes S event between reached step) rest

reached_state : (rules : Rules) (processes : ℕ) (events : List Event) (S : State) → 1 ≤ processes → Leads rules processes opening_state events S
    → IsReached processes (descriptor_limit rules.limits) S
reached_state rules processes events S some leads =
    leads_reach rules processes opening_state events S
    (record { files = opening_files; standing = opening_stands; held = opening_held processes (descriptor_limit rules.limits) some }) leads

-- ---- a conversion by flock

-- the flock lock of the description, where it has none behind the event
abbrev lost_at : State → Look → PlaceTest
lost_at T look whole file (Process q) = false
lost_at T look whole file (Description e) = whole && ((look.file == file) && (look.desc == e) && not (is_some (flock_mode_in T.flock_changes look.file look.desc)))

three : (whole one other third : Bool) → whole && (one && other && third) ≡ true → ((one && other) ≡ true) × (third ≡ true)
three whole one other third is = grind (arith, common_steps)

none_of : (found : Option Mode) → is_some found ≡ false → found ≡ None
none_of found is = grind (arith, common_steps)

lost_leaves : (S T : State) (look : Look) → KeepsBut look.file look.desc S T → Leaves (lost_at T look) S T
lost_leaves S T look keeps = record {
  bytes_gone = λ f o byte is. absurd (no_byte f o is);
  bytes_kept = λ f o byte stays some. keeps.bytes f o byte some;
  flocks_gone = λ f e is.
      let parts = three true (look.file == f) (look.desc == e) (not (is_some (flock_mode_in T.flock_changes look.file look.desc))) is in
      let both = and_parts (look.file == f) (look.desc == e) parts.0 in
      let here : flock_mode_in T.flock_changes look.file look.desc ≡ None =
      none_of (flock_mode_in T.flock_changes look.file look.desc) (not-true (is_some (flock_mode_in T.flock_changes look.file look.desc)) parts.1) in
      ap (λ (n : ℕ). flock_mode_in T.flock_changes n e) (sym (eqb-true look.file f both.0))
      ∙ ap (flock_mode_in T.flock_changes look.file) (sym (eqb-true look.desc e both.1)) ∙ here;
  flocks_kept = λ f e stays some. kept f e stays some (cases_Bool ((look.file == f) && (look.desc == e)));
}
  where
    no_byte : (f : ℕ) (o : Owner) → lost_at T look false f o ≡ true → ⊥
    no_byte f (Process q) is = let bad : false ≡ true = is in cc
    no_byte f (Description e) is = let bad : false ≡ true = is in cc

    kept : (f e : ℕ) → lost_at T look true f (Description e) ≡ false → flock_mode_in S.flock_changes f e ≢ None
        → (((look.file == f) && (look.desc == e)) ≡ true) ⊎ (((look.file == f) && (look.desc == e)) ≡ false) → flock_mode_in T.flock_changes f e ≢ None
    kept f e stays some (inr other) = keeps.flocks f e other some
    kept f e stays some (inl here) = λ none.
        let both = and_parts (look.file == f) (look.desc == e) here in
        let own : flock_mode_in T.flock_changes look.file look.desc ≡ None =
        ap (λ (n : ℕ). flock_mode_in T.flock_changes n look.desc) (eqb-true look.file f both.0)
        ∙ ap (flock_mode_in T.flock_changes f) (eqb-true look.desc e both.1) ∙ none in
        let no_lock : not (is_some (flock_mode_in T.flock_changes look.file look.desc)) ≡ true = ap (λ (m : Option Mode). not (is_some m)) own in
        let all : lost_at T look true f (Description e) ≡ true = and_from ((look.file == f) && (look.desc == e)) (not (is_some (flock_mode_in T.flock_changes look.file look.desc))) here no_lock in
        let bad : false ≡ true = sym stays ∙ all in cc

lost_lines : (T : State) (look : Look) (found : Option Mode)
    → lost_of T (option_map (flock_line look.file look.desc) found)
    ≡ option_to_list (option_map (flock_line look.file look.desc) (if not (is_some (flock_mode_in T.flock_changes look.file look.desc)) then found else None))
lost_lines T look None = grind (arith, common_steps)
lost_lines T look (Some mode) = by_test (is_some (flock_mode_in T.flock_changes look.file look.desc))
  where
    by_test : (b : Bool) → (if b then [] else flock_line look.file look.desc mode ∷ [])
        ≡ option_to_list (option_map (flock_line look.file look.desc) (if not b then Some mode else None))
    by_test true = refl
    by_test false = refl

lost_reported : (S T : State) (look : Look) → look.file < 64
    → IsHeldReport (bytes_at (lost_at T look) (mode_in S.changes)) (flocks_at (lost_at T look) (flock_mode_in S.flock_changes)) (lost_of T (flock_of S (Some look)))
lost_reported S T look low =
    file_reported look.file _ _ (lost_of T (flock_of S (Some look))) low (λ f other o byte. no_byte f o byte) other_file
    (record {
      byte_locks = [];
      flock_locks = lost_of T (flock_of S (Some look));
      is = refl;
      are_bytes = no_bytes look.file _ (λ o byte. no_byte look.file o byte);
      are_flocks = subst (AreFlockLocks look.file _) (sym (lost_lines T look (flock_mode_in S.flock_changes look.file look.desc)))
          (one_flock look.file look.desc _ _ own other_description);
    })
  where
    no_byte : (f : ℕ) (o : Owner) (byte : ℕ) → bytes_at (lost_at T look) (mode_in S.changes) f o byte ≡ None
    no_byte f (Process q) byte = refl
    no_byte f (Description e) byte = refl

    other_file : (f : ℕ) → f ≢ look.file → (d : ℕ) → flocks_at (lost_at T look) (flock_mode_in S.flock_changes) f d ≡ None
    other_file f other d = rw (ne_eqb look.file f (λ e. other (sym e))) refl

    other_description : (e : ℕ) → e ≢ look.desc → flocks_at (lost_at T look) (flock_mode_in S.flock_changes) look.file e ≡ None
    other_description e other =
        rw (eq-eqb look.file look.file refl, ne_eqb look.desc e (λ same. other (sym same))) refl

    own : flocks_at (lost_at T look) (flock_mode_in S.flock_changes) look.file look.desc
        ≡ (if not (is_some (flock_mode_in T.flock_changes look.file look.desc)) then flock_mode_in S.flock_changes look.file look.desc else None)
    own = rw (eq-eqb look.file look.file refl, eq-eqb look.desc look.desc refl) refl

-- ---- each event

-- a list of locks is the difference of the reports of the two states
abbrev IsDifference : State → State → List Held → Type 0
IsDifference S T locks =
    (before after : List Held) → IsHeldReport (mode_in S.changes) (flock_mode_in S.flock_changes) before
    → IsHeldReport (mode_in T.changes) (flock_mode_in T.flock_changes) after → locks ≡ gone before after

-- where nobody loses a lock there is none
none_differ : LocksHaveOneReport → (S T : State) → Keeps S T → IsDifference S T []
none_differ one S T keeps before after first second =
    gone_is one (λ whole file owner. false) S T before after [] (keeps_leave (λ whole file owner. false) S T (λ whole file owner. refl) keeps) first second
    (none_reported _ _ (λ f owner byte. refl) (λ f d. refl))

stays_differ : LocksHaveOneReport → (processes limit : ℕ) (rules : Rules) (S : State) (outcome : Outcome) (grants : List Note) (T : State)
    → Stays processes limit S outcome → Settles rules.policy outcome.after grants T → IsDifference S T []
stays_differ one processes limit rules S outcome grants T stays settles =
    none_differ one S T (keeps_then S outcome.after T stays.keeps (settles_keep rules.policy outcome.after grants T settles))

taken_differs : LocksHaveOneReport → (processes limit : ℕ) (rules : Rules) (S : State) (closing : Closing) (outcome : Outcome) (grants : List Note)
    (T : State) (released : List Held) → IsWithinFiles S → AreReleased processes limit S closing released → IsTaken processes limit S closing outcome
    → Settles rules.policy outcome.after grants T → IsDifference S T released
taken_differs one processes limit rules S closing outcome grants T released files are taken settles before after first second =
    gone_is one (goes_with processes limit S closing) S T before after released
    (settles_leave (goes_with processes limit S closing) rules.policy S outcome.after grants T settles taken.leaves taken.spared) first second
    (released_reported processes limit S closing released files are)

flock_differs : LocksHaveOneReport → (processes limit : ℕ) (rules : Rules) (S : State) (look : Look) (outcome : Outcome) (grants : List Note) (T : State)
    → look.file < 64 → StaysBut processes limit look.file look.desc S outcome → Settles rules.policy outcome.after grants T
    → IsDifference S T (lost_of T (flock_of S (Some look)))
flock_differs one processes limit rules S look outcome grants T low stays settles before after first second =
    gone_is one (lost_at T look) S T before after (lost_of T (flock_of S (Some look)))
    (lost_leaves S T look
    (but_then look.file look.desc S outcome.after T stays.keeps (settles_keep rules.policy outcome.after grants T settles))) first second
    (lost_reported S T look low)

-- what an event released and lost
abbrev Differs : Rules → ℕ → State → ℕ → Request → State → Type 0
Differs rules processes S p request T =
    (released : List Held) → AreReleased processes (descriptor_limit rules.limits) S (closed_by rules.limits S p request) released
    → MatchBool (is_unlock request) (released ++ lost S T p request ≡ []) (IsDifference S T (released ++ lost S T p request))

-- of a request that closes nothing, and is no conversion
plain : LocksHaveOneReport → (processes limit : ℕ) (rules : Rules) (S : State) (outcome : Outcome) (grants : List Note) (T : State)
    → Stays processes limit S outcome → Settles rules.policy outcome.after grants T → (released : List Held) → released ≡ [] → IsDifference S T (released ++ [])
plain one processes limit rules S outcome grants T stays settles released none =
    subst (λ (l : List Held). IsDifference S T (l ++ [])) (sym none) (stays_differ one processes limit rules S outcome grants T stays settles)

closing : LocksHaveOneReport → (processes limit : ℕ) (rules : Rules) (S : State) (shut : Closing) (outcome : Outcome) (grants : List Note) (T : State)
    → IsWithinFiles S → IsTaken processes limit S shut outcome → Settles rules.policy outcome.after grants T → (released : List Held)
    → AreReleased processes limit S shut released → IsDifference S T (released ++ [])
closing one processes limit rules S shut outcome grants T files taken settles released are =
    subst (IsDifference S T) (sym (append-nil released)) (taken_differs one processes limit rules S shut outcome grants T released files are taken settles)

-- a lock command
lock_differs : LocksHaveOneReport → (rules : Rules) (processes : ℕ) (S : State) (p n fd : ℕ) (cmd : LkCmd) (lock : Lock) (outcome : Outcome)
    (grants : List Note) (T : State) → AreHeld processes (descriptor_limit rules.limits) S → S.states p ≡ Live
    → ComesTo rules processes S p n (Lk fd cmd lock) outcome → Settles rules.policy outcome.after grants T → Differs rules processes S p (Lk fd cmd lock) T
lock_differs one rules processes S p n fd cmd lock outcome grants T h live is settles released none = by_kind (wanted_mode lock.kind) refl
  where
    by_kind : (found : Option Mode) → wanted_mode lock.kind ≡ found → MatchBool (is_none found) (released ++ [] ≡ []) (IsDifference S T (released ++ []))
    by_kind None at = append-nil released ∙ none
    by_kind (Some mode) at =
        plain one processes (descriptor_limit rules.limits) rules S outcome grants T
        (if_option (look_at S.descriptors p fd) _ _ (Stays processes (descriptor_limit rules.limits) S outcome) is
        (λ closed. told_stays processes (descriptor_limit rules.limits) S p n _ [] outcome h closed)
        (λ look opened described.
        described_stays rules processes (descriptor_limit rules.limits) S p n fd cmd lock look mode outcome h live opened at described))
        settles released none

-- flock
flock_by : LocksHaveOneReport → (rules : Rules) (processes : ℕ) (S : State) (p n fd : ℕ) (outcome : Outcome) (grants : List Note) (T : State)
    (released : List Held) (found : Option Look) → IsWithinFiles S → look_at S.descriptors p fd ≡ found → released ≡ []
    → Settles rules.policy outcome.after grants T → (found ≡ None → Stays processes (descriptor_limit rules.limits) S outcome)
    → ((look : Look) → found ≡ Some look → StaysBut processes (descriptor_limit rules.limits) look.file look.desc S outcome)
    → IsDifference S T (released ++ lost_of T (flock_of S found))
flock_by one rules processes S p n fd outcome grants T released None files at none settles closed opened =
    subst (λ (l : List Held). IsDifference S T (l ++ [])) (sym none)
    (stays_differ one processes (descriptor_limit rules.limits) rules S outcome grants T (closed refl) settles)
flock_by one rules processes S p n fd outcome grants T released (Some look) files at none settles closed opened =
    subst (λ (l : List Held). IsDifference S T (l ++ lost_of T (flock_of S (Some look)))) (sym none)
    (flock_differs one processes (descriptor_limit rules.limits) rules S look outcome grants T (look_file S.descriptors p fd look files.descriptions at)
    (opened look refl) settles)

when_closed : (found : Option Look) (P : Type 0) (Q : Look → Type 0) → found ≡ None → MatchOption found P Q → P
when_closed found P Q none is = subst (λ (f : Option Look). MatchOption f P Q) none is

when_open : (found : Option Look) (P : Type 0) (Q : Look → Type 0) (look : Look) → found ≡ Some look → MatchOption found P Q → Q look
when_open found P Q look some is = subst (λ (f : Option Look). MatchOption f P Q) some is

event_differs : LocksHaveOneReport → (rules : Rules) (processes : ℕ) (S : State) (p n : ℕ) (request : Request) (outcome : Outcome) (grants : List Note)
    (T : State) → IsReached processes (descriptor_limit rules.limits) S → S.states p ≡ Live → ComesTo rules processes S p n request outcome
    → Settles rules.policy outcome.after grants T → Differs rules processes S p request T
event_differs one rules processes S p n (OpenFile file access) outcome grants T reached live is settles released none =
    plain one processes (descriptor_limit rules.limits) rules S outcome grants T (open_stays rules processes S p n file access outcome reached.held live is) settles released none
event_differs one rules processes S p n (Dup fd) outcome grants T reached live is settles released none =
    plain one processes (descriptor_limit rules.limits) rules S outcome grants T (dup_stays rules processes S p n fd outcome reached.held is) settles released none
event_differs one rules processes S p n (DupTo fd to) outcome grants T reached live is settles released are =
    closing one processes (descriptor_limit rules.limits) rules S (closed_by rules.limits S p (DupTo fd to)) outcome grants T reached.files
    (dup_to_taken rules processes S p n fd to outcome reached.standing reached.held live is) settles released are
event_differs one rules processes S p n (CloseFd fd) outcome grants T reached live is settles released are =
    closing one processes (descriptor_limit rules.limits) rules S (OneOf p fd) outcome grants T reached.files
    (close_taken processes (descriptor_limit rules.limits) S p n fd outcome reached.standing reached.held live is) settles released are
event_differs one rules processes S p n (Seek fd offset) outcome grants T reached live is settles released none =
    plain one processes (descriptor_limit rules.limits) rules S outcome grants T
    (seek_stays processes (descriptor_limit rules.limits) S p n fd offset outcome reached.held is) settles released none
event_differs one rules processes S p n (Resize fd size) outcome grants T reached live is settles released none =
    plain one processes (descriptor_limit rules.limits) rules S outcome grants T
    (resize_stays processes (descriptor_limit rules.limits) S p n fd size outcome reached.held is) settles released none
event_differs one rules processes S p n (Lk fd cmd lock) outcome grants T reached live is settles released none =
    lock_differs one rules processes S p n fd cmd lock outcome grants T reached.held live is settles released none
event_differs one rules processes S p n (Flock fd Sh nb) outcome grants T reached live is settles released none =
    flock_by one rules processes S p n fd outcome grants T released (look_at S.descriptors p fd) reached.files refl none settles
    (λ closed. told_stays processes (descriptor_limit rules.limits) S p n _ [] outcome reached.held (when_closed (look_at S.descriptors p fd) _ _ closed is))
    (λ look opened. shared_stays rules processes (descriptor_limit rules.limits) S p n fd look nb outcome reached.standing reached.held live opened
    (when_open (look_at S.descriptors p fd) _ _ look opened is))
event_differs one rules processes S p n (Flock fd Ex nb) outcome grants T reached live is settles released none =
    flock_by one rules processes S p n fd outcome grants T released (look_at S.descriptors p fd) reached.files refl none settles
    (λ closed. told_stays processes (descriptor_limit rules.limits) S p n _ [] outcome reached.held (when_closed (look_at S.descriptors p fd) _ _ closed is))
    (λ look opened. exclusive_stays rules processes (descriptor_limit rules.limits) S p n fd look nb outcome reached.standing reached.held live opened
    (when_open (look_at S.descriptors p fd) _ _ look opened is))
event_differs one rules processes S p n (Flock fd Un nb) outcome grants T reached live is settles released none = append-nil released ∙ none
event_differs one rules processes S p n (Fork child) outcome grants T reached live is settles released none =
    plain one processes (descriptor_limit rules.limits) rules S outcome grants T
    (fork_stays processes (descriptor_limit rules.limits) S p n child outcome reached.standing reached.held is) settles released none
event_differs one rules processes S p n Exit outcome grants T reached live is settles released are =
    closing one processes (descriptor_limit rules.limits) rules S (AllOf p) outcome grants T reached.files
    (end_taken processes (descriptor_limit rules.limits) S p [] outcome reached.held is) settles released are
event_differs one rules processes S p n (Signal target) outcome grants T reached live is settles released none =
    plain one processes (descriptor_limit rules.limits) rules S outcome grants T
    (signal_stays processes (descriptor_limit rules.limits) S p n target (S.states target) outcome reached.held refl is) settles released none
event_differs one rules processes S p n (Kill target) outcome grants T reached live is settles released are =
    closing one processes (descriptor_limit rules.limits) rules S (closed_by rules.limits S p (Kill target)) outcome grants T reached.files
    (kill_taken processes (descriptor_limit rules.limits) S p n target outcome reached.held live is) settles released are
event_differs one rules processes S p n (Enter section visit) outcome grants T reached live is settles released none =
    plain one processes (descriptor_limit rules.limits) rules S outcome grants T
    (tested_stays processes (descriptor_limit rules.limits) S p n (may_enter S.visits p section) outcome reached.held is) settles released none
event_differs one rules processes S p n (Leave section) outcome grants T reached live is settles released none =
    plain one processes (descriptor_limit rules.limits) rules S outcome grants T
    (tested_stays processes (descriptor_limit rules.limits) S p n (may_leave S.visits p section) outcome reached.held is) settles released none
event_differs one rules processes S p n Bail outcome grants T reached live is settles released are =
    closing one processes (descriptor_limit rules.limits) rules S (closed_by rules.limits S p Bail) outcome grants T reached.files
    (bail_taken processes (descriptor_limit rules.limits) S p n outcome reached.held is) settles released are

-- with others in sections, and refused, the settling is the same
unmarked : State → State → State
unmarked U T = record T { visits = U.visits; refused = U.refused }

unmarked_lock : (family : Family) (owner : Owner) (U S : State) (wait : Wait)
    → unmarked U (with_lock_of family owner S wait) ≡ with_lock_of family owner (unmarked U S) wait
unfolding unmarked
unmarked_lock Bytes owner U S wait = refl
unmarked_lock Whole (Process p) U S wait = refl
unmarked_lock Whole (Description d) U S wait = refl

settles_unmarked : (policy : Policy) (U S : State) (grants : List Note) (T : State) → Settles policy S grants T
    → Settles policy (unmarked U S) grants (unmarked U T)
unfolding unmarked
settles_unmarked policy U S [] T (settled, is) = (settled, ap (unmarked U) is)
settles_unmarked policy U S (grant ∷ grants) T (before, wait, after, next, is, rest) = (
  before,
  wait,
  after,
  next,
  is,
  subst (λ (X : State). Settles policy (with_process (record X { waits = before ++ after }) wait.p Live) grants (unmarked U T))
      (unmarked_lock wait.family wait.owner U S wait) (settles_unmarked policy U (granted S before wait after) grants T rest),
)

pub losses_are_differences : LocksHaveOneReport → LossesAreDifferences
unfolding unmarked
losses_are_differences one rules processes events S event T before after released some leads step first second are =
    let reached = reached_state rules processes events S some leads in
    by_test (is_unlock event.request)
    (event_differs one rules processes S event.p event.n event.request step.outcome step.grants (unmarked step.outcome.after T) reached step.live step.comes_to
    (settles_unmarked rules.policy step.outcome.after (marked S event.p event.request step.outcome) step.grants T step.settles) released are)
  where
    by_test : (unlock : Bool)
        → MatchBool unlock (released ++ lost S T event.p event.request ≡ []) (IsDifference S T (released ++ lost S T event.p event.request))
        → released ++ lost S T event.p event.request ≡ (if unlock then [] else gone before after)
    by_test true is = is
    by_test false is = is before after first second
