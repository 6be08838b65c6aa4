-- What contracts see of a desk.
use Rattle.std.specs.Prelude.{◌≡◌, ℕ, ◌+◌, ◌<◌, ◌≤◌, Some, slice_get, List, [], ◌∷◌, ◌++◌, true, length}
use Rattle.lock_manager.specs.State.{State}
use Rattle.lock_manager.specs.ManagerView.{StandsFor, rules_of, processes_of}
use Rattle.session_core.specs.Event.{Event}
use Rattle.session_core.specs.Runs.{IsStep}
use Rattle.session_core.specs.SessionView.{manager_of, SameSession, IsEmptySession}
use Rattle.atomic_table.specs.Seated.{TableId}
use Rattle.table_steps.specs.declared.setup.Setup.{Setup}
use Rattle.table_steps.specs.declared.tally.Tally.{Tally}
use Rattle.call_table.specs.declared.client.Client.{Client}
use Rattle.call_table.specs.declared.served.Served.{Served}
use Rattle.call_table.specs.declared.served.Served.TheVariants.{Idle, Took, Closed}
use Rattle.table_steps.specs.Places.{IsProcess}
use Rattle.call_table.specs.Serving.{IsAble}
use Rattle.call_table.specs.Shown.{hub_table, hub_setup, client_view, IsClientOf}
use Rattle.session_core.specs.Mail.{IsPrefixOf, requests_taken, answers_to}
use Rattle.table_steps.specs.declared.client_view.ClientView.{ClientView}
use Rattle.session_core.specs.declared.session.Session.{Session}
use Rattle.table_steps.specs.declared.desk_view.DeskView.{DeskView}
use Rattle.call_table.specs.declared.hub.Hub.{Hub}
use Rattle.call_table.specs.declared.desk.Desk.{Desk}
use Rattle.table_steps.specs.Views.{tally_at, new_desk, new_client}
use Rattle.table_steps.specs.Shown.{desk_at, desk_knows}

-- what the desk knows
unfoldable pub desk_view : Desk → DeskView
desk_view desk = desk_knows desk.seat

-- the session of the desk
unfoldable pub session_in : Desk → Session
session_in desk = desk.session

-- the table of the desk
unfoldable pub desk_table : Desk → TableId
desk_table desk = desk_at desk.seat

-- what its table was made with
unfoldable pub desk_setup : Desk → Setup
desk_setup desk = desk.setup

-- it is the desk of this hub
pub record IsDeskOf (hub : Hub) (desk : Desk) : Type 0 where
  pub table : desk_table desk ≡ hub_table hub
  pub setup : desk_setup desk ≡ hub_setup hub

-- it is the desk of the same hub
pub record SameDesk (old new : Desk) : Type 0 where
  pub table : desk_table new ≡ desk_table old
  pub setup : desk_setup new ≡ desk_setup old

-- the session has the rules and as many processes as the table was made with
pub record HasSetup (setup : Setup) (session : Session) : Type 0 where
  pub rules_are : rules_of (manager_of session) ≡ setup.rules
  pub processes_are : processes_of (manager_of session) ≡ setup.processes

-- once the two have met, the client saw the desk's journal, which begins with what it had seen. What was taken of it is a prefix of
-- what it posted; where it is drained, it has collected every answer; and neither knows less of the other than before
pub record IsMet (desk_before : DeskView) (client_before : ClientView) (d : DeskView) (c : ClientView) : Type 0 where
  pub seen : c.seen ≡ d.journal
  pub begins : IsPrefixOf client_before.seen c.seen
  pub knows_more : client_before.known ≤ c.known
  pub looked_more : (tally_at desk_before.tallies c.process).looked ≤ (tally_at d.tallies c.process).looked
  pub known : c.known ≡ (tally_at d.tallies c.process).published
  pub looked : (tally_at d.tallies c.process).looked ≡ length c.posted
  pub taken_in_order : IsPrefixOf (requests_taken c.process d.journal) c.posted
  pub drained_all : c.drained ≡ true → c.collected ≡ length (answers_to c.process d.journal)

-- the desk looked at the process, once, and nothing else changed of its tally
pub record IsProbed (old new : Tally) : Type 0 where
  pub probes : new.probes ≡ old.probes + 1
  pub looked : old.looked ≤ new.looked
  pub published : new.published ≡ old.published

-- one request was taken: the next one of the least able process of which more was seen than was taken. All answers are published
pub record IsTook (old new : Desk) (place : ℕ) : Type 0 where
  pub event : Event
  pub is_process : IsProcess (desk_setup old).processes event.p
  pub able : IsAble (session_in old) event.p
  pub seen : length (requests_taken event.p (desk_view old).journal) < (tally_at (desk_view new).tallies event.p).looked
  pub number : event.n ≡ length (requests_taken event.p (desk_view old).journal) + 1
  pub least : (q : ℕ) → 1 ≤ q → q < event.p → IsAble (session_in old) q
      → (tally_at (desk_view new).tallies q).looked ≡ length (requests_taken q (desk_view old).journal)
  pub probed : (q : ℕ) → 1 ≤ q → q ≤ event.p → IsAble (session_in old) q
      → (tally_at (desk_view new).tallies q).probes ≡ (tally_at (desk_view old).tallies q).probes + 1
  pub unprobed : (q : ℕ) → 1 ≤ q → ¬ ((q ≤ event.p) × IsAble (session_in old) q)
      → ((tally_at (desk_view new).tallies q).probes ≡ (tally_at (desk_view old).tallies q).probes)
      × ((tally_at (desk_view new).tallies q).looked ≡ (tally_at (desk_view old).tallies q).looked)
  pub journal : (desk_view new).journal ≡ (desk_view old).journal ++ event ∷ []
  pub at_place : place ≡ length (desk_view new).journal
  pub step : (S : State) → StandsFor (manager_of (session_in old)) S
      → (T : State) × IsStep (desk_setup old).rules (desk_setup old).processes S event T × StandsFor (manager_of (session_in new)) T
  pub published : (q : ℕ) → IsProcess (desk_setup old).processes q
      → (tally_at (desk_view new).tallies q).published ≡ length (answers_to q (desk_view new).journal)
  pub closed : (desk_view new).closed ≡ (desk_view old).closed

-- no able process had a request that was seen and not taken
pub record IsIdle (old new : Desk) : Type 0 where
  pub probed : (p : ℕ) → IsProcess (desk_setup old).processes p → IsAble (session_in old) p
      → IsProbed (tally_at (desk_view old).tallies p) (tally_at (desk_view new).tallies p)
      × ((tally_at (desk_view new).tallies p).looked ≡ length (requests_taken p (desk_view old).journal))
  pub others : (p : ℕ) → IsProcess (desk_setup old).processes p → ¬ IsAble (session_in old) p
      → tally_at (desk_view new).tallies p ≡ tally_at (desk_view old).tallies p
  pub journal : (desk_view new).journal ≡ (desk_view old).journal
  pub closed : (desk_view new).closed ≡ (desk_view old).closed
  pub session : session_in new ≡ session_in old

-- nothing was taken, filled in, published or closed, and the session is as it was
pub record IsUnserved (old new : Desk) : Type 0 where
  pub journal : (desk_view new).journal ≡ (desk_view old).journal
  pub filling : (desk_view new).filling ≡ (desk_view old).filling
  pub published : (p : ℕ) → (tally_at (desk_view new).tallies p).published ≡ (tally_at (desk_view old).tallies p).published
  pub closed : (desk_view new).closed ≡ (desk_view old).closed
  pub session : SameSession (session_in old) (session_in new)

-- the desk did what it answers
abbrev pub IsServed : Desk → Desk → Served → Type 0
IsServed old new Idle = IsIdle old new
IsServed old new (Took place) = IsTook old new place
IsServed old new Closed = (desk_view new ≡ desk_view old) × (session_in new ≡ session_in old)

-- a hub just opened: a client for each process, in order, and a desk, which know nothing yet
pub record IsOpened (setup : Setup) (hub : Hub) (clients : List Client) (desk : Desk) : Type 0 where
  pub setup_is : hub_setup hub ≡ setup
  pub desk_of_hub : IsDeskOf hub desk
  pub desk_new : desk_view desk ≡ record (new_desk setup) { made = setup.processes }
  pub session_new : IsEmptySession setup.rules setup.processes (session_in desk)
  pub all : length clients ≡ setup.processes
  pub client_of_hub : (i : ℕ) (client : Client) → slice_get clients i ≡ Some client
      → IsClientOf hub client × (client_view client ≡ new_client setup (i + 1))
