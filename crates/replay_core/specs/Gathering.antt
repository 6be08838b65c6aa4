-- What is known of the callers at a table once it is closed (the words are this project's choice).
use Rattle.std.specs.Prelude.{◌≡◌, ℕ, ◌+◌, Some, List, true, length, slice_get}
use Rattle.lock_manager.specs.declared.request.Reply.{Reply}
use Rattle.lock_manager.specs.declared.request.ProcState.TheVariants.{Live}
use Rattle.lock_manager.specs.ManagerView.{state_at}
use Rattle.session_core.specs.Event.{Event}
use Rattle.session_core.specs.Mail.{IsPrefixOf, events_of, requests_taken, answers_to}
use Rattle.session_core.specs.declared.session.Session.{Session}
use Rattle.session_core.specs.SessionView.{manager_of, events_in}
use Rattle.call_table.specs.declared.client.Client.{Client}
use Rattle.call_table.specs.Shown.{client_view}
use Rattle.replay_core.specs.declared.caller.Caller.{Caller}
use Rattle.replay_core.specs.Watching.{IsWatched}

-- what was taken of the caller's process is a prefix of its requests, and these are the answers to it
pub record IsGathered (journal : List Event) (caller : Caller) (answers : List (ℕ × Reply × ℕ)) : Type 0 where
  pub taken_in_order : IsPrefixOf (requests_taken caller.process journal) caller.requests.items
  pub all_answers : answers ≡ answers_to caller.process journal

-- so it is of each caller and its answers
abbrev pub AreGathered : List Event → List Caller → List (List (ℕ × Reply × ℕ)) → Type 0
AreGathered journal callers collected =
    (length collected ≡ length callers)
    × ((i : ℕ) (caller : Caller) (answers : List (ℕ × Reply × ℕ))
    → slice_get callers i ≡ Some caller → slice_get collected i ≡ Some answers → IsGathered journal caller answers)

-- the caller's client, met by the desk, has seen the whole journal and collected all; what was taken of it is a prefix of what it posted
pub record HasLeft (journal : List Event) (caller : Caller) : Type 0 where
  pub client : Client
  pub process : (client_view client).process ≡ caller.process
  pub posted : (client_view client).posted ≡ (client_view caller.client).posted
  pub seen : (client_view client).seen ≡ journal
  pub drained : (client_view client).drained ≡ true
  pub taken : IsPrefixOf (requests_taken caller.process journal) (client_view client).posted

-- this was told of all that the client of each caller's process posted
abbrev pub AreToldOf : (ℕ → ℕ → Type 0) → List Event → List Caller → Type 0
AreToldOf told journal callers = (i : ℕ) (caller : Caller) → slice_get callers i ≡ Some caller → IsWatched told caller.process journal

-- so many requests of the process were taken, if it is able
abbrev pub HasAllTaken : Session → ℕ → ℕ → Type 0
HasAllTaken session p count =
    state_at (manager_of session) p ≡ Live → length (events_of p (events_in session)) ≡ count

-- of each able process so many requests were taken, from process 1 on
abbrev pub AreAllTaken : Session → List ℕ → Type 0
AreAllTaken session counts = (i count : ℕ) → slice_get counts i ≡ Some count → HasAllTaken session (i + 1) count
