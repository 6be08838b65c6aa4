-- What the clients of a server see is permitted, call by call and of a whole run.
use Rattle.history_of_server.proofs.Common.{inl, inr, ℕ, ◌≡◌, sym, refl, subst, true, false, Bool, Option, Some, None, List, [], ◌∷◌, false≢true, Mode, Span, World, HistoryLine, WaitComesTo, SameFile, State, Names}
use Rattle.range_core.specs.Ranges.{IsByteRange}
use Rattle.history_core.specs.declared.request.Action.TheVariants as actions
use Rattle.history_judge.specs.Histories.{beginnings}
use Rattle.lock_server.specs.declared.Rules.{Rules}
use Rattle.lock_server.specs.declared.server.LockServer.{LockServer}
use Rattle.lock_server.specs.Agreement.{Call, CallComesTo, Reply, Through, WithTicket}
use Rattle.lock_server.specs.Agreement as calls
use Rattle.lock_server.specs.Calls.{CancelComesTo, FetchComesTo, FlockWaitComesTo, byte_request, flock_request}
use Rattle.lock_server.specs.ServerView.{rules_of, state_of, through_of}
use Rattle.lock_server.specs.States.{opening}
use Rattle.history_of_server.specs.ServerLines.{IsAsked, IsCancel, IsFetch, IsGet, IsSilent, IsTest, IsWait, RunsAreLegal, Shows, ShowsRun, flock_action, set_action}
use Rattle.history_of_server.proofs.PartLemmas.{LegalFrom, path_none}
use Rattle.history_of_server.proofs.FollowLemmas.{Follows, Next, follows_same}
use Rattle.history_of_server.proofs.CallLemmas.{fresh_of}
use Rattle.history_of_server.proofs.CallLaws.{cancel_next, fetch_next, flock_next, flock_release_next, flock_wait_next, flush_next, get_next, set_next, wait_next}
use Rattle.history_of_server.proofs.ClientLaws.{forget_file_next, forget_owners_next, release_next}
use Rattle.history_of_server.proofs.ForgetLaws.{forget_next}

-- the lines and names are those that were told
at_lines : (runs : Bool) (worlds : ℕ → World) (T : State) (told lines : List HistoryLine) (names after : Names) → lines ≡ told → after ≡ names
    → Next runs worlds told T names → Next runs worlds lines T after
at_lines runs worlds T told lines names after is same next =
    subst (λ n. Next runs worlds lines T n) (sym same) (subst (λ ls. Next runs worlds ls T names) (sym is) next)

-- a call that no client sees, and that changes no file and no grant
silent : (runs : Bool) (S T : State) (names after : Names) (worlds : ℕ → World) (lines : List HistoryLine) → Follows S names worlds
    → ((file : ℕ) → SameFile (S.files file) (T.files file)) → T.grants ≡ S.grants → IsSilent names lines after → Next runs worlds lines T after
silent runs S T names after worlds lines follows same grants shown =
    at_lines runs worlds T [] lines names after shown.0 shown.1
    (record { worlds' = worlds; path = path_none runs worlds; follows = follows_same S T names worlds same grants follows })

wait_shown : (runs : Bool) (rules : Rules) (S T : State) (through next : Through) (names after : Names) (worlds : ℕ → World) (ticket file owner : ℕ)
    (span : Span) (mode : Mode) (detect : Bool) (reply : Reply) (lines : List HistoryLine) → Follows S names worlds → IsByteRange span
    → WithTicket S through ticket reply T next (λ answer. WaitComesTo rules.policy S file (byte_request ticket owner span mode detect) answer T)
    → IsWait names ticket file owner (actions.Wait mode span) reply lines after → Next runs worlds lines T after
wait_shown runs rules S T through next names after worlds ticket file owner span mode detect reply lines follows range (inl (taken, (is, stays))) shown =
    silent runs S T names after worlds lines follows stays.state.files stays.state.grants
    (subst (λ r. IsWait names ticket file owner (actions.Wait mode span) r lines after) is shown)
wait_shown runs rules S T through next names after worlds ticket file owner span mode detect reply lines follows range (inr (free, (answer, is, comes, openings))) shown =
    let said = subst (λ r. IsWait names ticket file owner (actions.Wait mode span) r lines after) is shown in
    at_lines runs worlds T _ lines _ after said.0 said.1
    (wait_next runs rules.policy S T names worlds ticket file owner span mode detect answer follows range (fresh_of S ticket free) comes)

flock_wait_shown : (runs : Bool) (rules : Rules) (S T : State) (through next : Through) (names after : Names) (worlds : ℕ → World) (ticket file owner : ℕ)
    (mode : Mode) (reply : Reply) (lines : List HistoryLine) → Follows S names worlds
    → WithTicket S through ticket reply T next (λ answer. FlockWaitComesTo rules S file (flock_request ticket owner mode) ((S.files file).flocks owner) answer T)
    → IsWait names ticket file owner (actions.FlockWait mode) reply lines after → Next runs worlds lines T after
flock_wait_shown runs rules S T through next names after worlds ticket file owner mode reply lines follows (inl (taken, (is, stays))) shown =
    silent runs S T names after worlds lines follows stays.state.files stays.state.grants
    (subst (λ r. IsWait names ticket file owner (actions.FlockWait mode) r lines after) is shown)
flock_wait_shown runs rules S T through next names after worlds ticket file owner mode reply lines follows (inr (free, (answer, is, comes, openings))) shown =
    let said = subst (λ r. IsWait names ticket file owner (actions.FlockWait mode) r lines after) is shown in
    at_lines runs worlds T _ lines _ after said.0 said.1
    (flock_wait_next runs rules S T names worlds ticket file owner mode answer follows (fresh_of S ticket free) comes)

cancel_shown : (runs : Bool) (rules : Rules) (S T : State) (names after : Names) (worlds : ℕ → World) (ticket : ℕ) (was_there : Bool) (lines : List HistoryLine)
    → Follows S names worlds → CancelComesTo rules.policy S ticket was_there T → IsCancel names ticket (calls.TellsEnded was_there) lines after
    → Next runs worlds lines T after
cancel_shown runs rules S T names after worlds ticket true lines follows (inl (is, cancels)) shown =
    at_lines runs worlds T _ lines names after shown.0 shown.1 (cancel_next runs rules.policy S T names worlds ticket follows cancels)
cancel_shown runs rules S T names after worlds ticket false lines follows (inl (is, cancels)) shown = absurd (false≢true is)
cancel_shown runs rules S T names after worlds ticket true lines follows (inr (is, none, same)) shown = absurd (false≢true (sym is))
cancel_shown runs rules S T names after worlds ticket false lines follows (inr (is, none, same)) shown =
    silent runs S T names after worlds lines follows same.files same.grants shown

fetch_shown : (runs : Bool) (S T : State) (names after : Names) (worlds : ℕ → World) (granted : Option ℕ) (lines : List HistoryLine)
    → Follows S names worlds → FetchComesTo S granted T → IsFetch names (calls.TellsGrant granted) lines after → Next runs worlds lines T after
fetch_shown runs S T names after worlds None lines follows fetch shown = silent runs S T names after worlds lines follows fetch.1.files fetch.1.grants shown
fetch_shown runs S T names after worlds (Some ticket) lines follows fetch shown =
    at_lines runs worlds T _ lines names after shown.0 shown.1 (fetch_next runs S T names worlds ticket follows fetch)

-- one call
call_shown : (runs : Bool) (rules : Rules) (S T : State) (through next : Through) (names after : Names) (worlds : ℕ → World) (call : Call) (reply : Reply)
    (lines : List HistoryLine) → Follows S names worlds → IsAsked call → CallComesTo rules S through call reply T next
    → Shows S through names call reply lines after → Next runs worlds lines T after
call_shown runs rules S T through next names after worlds (calls.Get file owner span mode) reply lines follows asked comes shown =
    let said = subst (λ r. IsGet names file owner (actions.Get mode span) r lines after) comes.1 shown in
    at_lines runs worlds T _ lines names after said.0 said.1
    (get_next runs S T names worlds file owner span mode comes.0 follows comes.2 comes.3.state)
call_shown runs rules S T through next names after worlds (calls.Set file owner span mode) reply lines follows asked comes shown =
    let said = subst (λ r. IsTest names file owner (set_action mode span) r lines after) comes.1 shown in
    at_lines runs worlds T _ lines names after said.0 said.1
    (set_next runs rules.policy S T names worlds file owner span mode comes.0 follows asked comes.2)
call_shown runs rules S T through next names after worlds (calls.Wait ticket file owner span mode detect) reply lines follows asked comes shown =
    wait_shown runs rules S T through next names after worlds ticket file owner span mode detect reply lines follows asked comes shown
call_shown runs rules S T through next names after worlds (calls.Cancel ticket) reply lines follows asked comes shown =
    cancel_shown runs rules S T names after worlds ticket comes.0 lines follows comes.2 (subst (λ r. IsCancel names ticket r lines after) comes.1 shown)
call_shown runs rules S T through next names after worlds (calls.Note file owner open_file) reply lines follows asked comes shown =
    silent runs S T names after worlds lines follows comes.1.files comes.1.grants shown
call_shown runs rules S T through next names after worlds (calls.Flush file owner) reply lines follows asked comes shown =
    at_lines runs worlds T _ lines names after shown.0 shown.1 (flush_next runs rules.policy S T names worlds file owner follows comes.1)
call_shown runs rules S T through next names after worlds (calls.Forget owner) reply lines follows asked comes shown =
    at_lines runs worlds T lines lines names after refl shown.1 (forget_next runs rules.policy S T names worlds owner lines follows comes.1 shown.0)
call_shown runs rules S T through next names after worlds (calls.Flock file owner mode) reply lines follows asked comes shown =
    let said = subst (λ r. IsTest names file owner (flock_action mode) r lines after) comes.1 shown in
    at_lines runs worlds T _ lines names after said.0 said.1 (flock_next runs rules S T names worlds file owner mode comes.0 follows comes.2)
call_shown runs rules S T through next names after worlds (calls.FlockWait ticket file owner mode) reply lines follows asked comes shown =
    flock_wait_shown runs rules S T through next names after worlds ticket file owner mode reply lines follows comes shown
call_shown runs rules S T through next names after worlds (calls.FlockRelease file owner) reply lines follows asked comes shown =
    at_lines runs worlds T _ lines names after shown.0 shown.1 (flock_release_next runs rules.policy S T names worlds file owner follows comes.1)
call_shown runs rules S T through next names after worlds (calls.Release file open_file flock_owner) reply lines follows asked comes shown =
    at_lines runs worlds T lines lines names after refl shown.1
    (release_next runs rules.policy S T through names worlds file open_file flock_owner lines follows comes.1 shown.0)
call_shown runs rules S T through next names after worlds calls.NextGrant reply lines follows asked comes shown =
    fetch_shown runs S T names after worlds comes.0 lines follows comes.2 (subst (λ r. IsFetch names r lines after) comes.1 shown)
call_shown runs rules S T through next names after worlds (calls.ForgetOwners first last) reply lines follows asked comes shown =
    at_lines runs worlds T lines lines names after refl shown.1
    (forget_owners_next runs rules.policy S T names worlds first last lines follows comes.1 shown.0)
call_shown runs rules S T through next names after worlds (calls.ForgetFile file) reply lines follows asked comes shown =
    at_lines runs worlds T lines lines names after refl shown.1 (forget_file_next runs S T names worlds file lines follows comes.1 shown.0)
call_shown runs rules S T through next names after worlds (calls.HasLocks first last) reply lines follows asked comes shown =
    silent runs S T names after worlds lines follows comes.3.state.files comes.3.state.grants shown
call_shown runs rules S T through next names after worlds (calls.CountsOf first last) reply lines follows asked comes shown =
    silent runs S T names after worlds lines follows comes.3.state.files comes.3.state.grants shown

-- one call after another
run_shown : (runs : Bool) (server : LockServer) (names : Names) (worlds : ℕ → World) (run : List Call) (replies : List Reply) (lines : List HistoryLine)
    → Follows (state_of server) names worlds → ShowsRun server names run replies lines → LegalFrom runs worlds lines
run_shown runs server names worlds [] [] lines follows shown =
    subst (λ ls. LegalFrom runs worlds ls) (sym shown) (record { last = worlds; moments = []; in_order = refl; leads = λ file. refl })
run_shown runs server names worlds [] (reply ∷ replies) lines follows shown = absurd shown
run_shown runs server names worlds (call ∷ run) [] lines follows shown = absurd shown
run_shown runs server names worlds (call ∷ run) (reply ∷ replies) lines follows shown =
    let first = call_shown runs (rules_of server) (state_of server) (state_of shown.0) (through_of server) (through_of shown.0) names shown.3 worlds call reply
    shown.4 follows shown.1 shown.2.comes_to shown.6 in
    subst (λ ls. LegalFrom runs worlds ls) (sym shown.8)
    (first.path shown.5 (run_shown runs shown.0 shown.3 first.worlds' run replies shown.5 first.follows shown.7))

-- at first there is nothing to follow
opening_followed : (names : Names) → Follows opening names beginnings
unfolding opening
opening_followed names = record {
  files = λ file. record {
    locks = record { bytes = λ owner byte. refl; flocks = λ owner. refl };
    sound = record {
      within = λ owner byte mode is. absurd (let bad : None ≡ Some mode = is in cc);
      compatible = λ one other m k differs has too. absurd (let bad : None ≡ Some m = has in cc);
    };
    waits = tt;
    apart = tt;
    spans = tt;
  };
  free = λ file id past. refl;
  alone = λ file other id one two here there. absurd (let bad : None ≡ Some one = here in cc);
  grants = tt;
  apart = tt;
}

pub runs_are_legal : RunsAreLegal
runs_are_legal runs server names run replies lines start shown =
    let follows = follows_same opening (state_of server) names beginnings start.files start.grants (opening_followed names) in
    let legal = run_shown runs server names beginnings run replies lines follows shown in
    (legal.last, record { moments = legal.moments; in_order = legal.in_order; leads = legal.leads })
