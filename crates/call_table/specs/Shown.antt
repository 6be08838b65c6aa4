-- What contracts see of a hub and of a client.
use Rattle.std.specs.Prelude.{◌≡◌, ℕ, ◌≤◌, ◌+◌, ◌++◌, Bool, true, List, [], ◌∷◌, length}
use mathlib.Core.Option.{some}
use lib.ListN.{get_elem?}
use Rattle.lock_manager.specs.declared.request.Reply.{Reply}
use Rattle.session_core.specs.Event.{Event}
use Rattle.session_core.specs.Mail.{answers_to}
use Rattle.table_steps.specs.Steps.{client_found, client_collected, IsSeen}
use Rattle.lock_manager.specs.declared.request.Request.{Request}
use Rattle.atomic_table.specs.Seated.{TableId}
use Rattle.table_steps.specs.declared.setup.Setup.{Setup}
use Rattle.table_steps.specs.declared.client_view.ClientView.{ClientView}
use Rattle.call_table.specs.declared.hub.Hub.{Hub}
use Rattle.call_table.specs.declared.client.Client.{Client}
use Rattle.table_steps.specs.Shown.{words_table, words_setup, client_at, client_knows}

-- the table of the hub
unfoldable pub hub_table : Hub → TableId
hub_table hub = words_table hub.words

-- what the hub was made with
unfoldable pub hub_setup : Hub → Setup
hub_setup hub = words_setup hub.words

-- what the client knows
unfoldable pub client_view : Client → ClientView
client_view client = client_knows client.seat

-- the table of the client
unfoldable pub client_table : Client → TableId
client_table client = client_at client.seat

-- what its table was made with
unfoldable pub client_setup : Client → Setup
client_setup client = client.setup

-- its process
unfoldable pub client_process : Client → ℕ
client_process client = client.process

-- it is a client of this hub
pub record IsClientOf (hub : Hub) (client : Client) : Type 0 where
  pub table : client_table client ≡ hub_table hub
  pub setup : client_setup client ≡ hub_setup hub

-- it is the same client, of the same hub
pub record SameClient (old new : Client) : Type 0 where
  pub table : client_table new ≡ client_table old
  pub setup : client_setup new ≡ client_setup old
  pub process : client_process new ≡ client_process old

-- the request is one more of the posted ones, and nothing else is known
abbrev pub IsPosted : ClientView → Request → ClientView → Type 0
IsPosted old r new = new ≡ record old { posted = old.posted ++ r ∷ [] }

-- the next answer was collected: it stands in the journal that is then seen, which is a run and begins with what was seen
pub record IsCollected (old new : ClientView) (answer : ℕ × Reply × ℕ) : Type 0 where
  pub journal : List Event
  pub found : ℕ
  pub view : new ≡ client_collected (client_found old journal found)
  pub seen : IsSeen old journal
  pub grows : old.known ≤ new.known
  pub number : answer.0 ≡ new.collected
  pub is_next : get_elem? (answers_to old.process journal) old.collected ≡ some answer

-- there is no answer to collect: all that were published are collected
pub record IsNothing (old new : ClientView) : Type 0 where
  pub journal : List Event
  pub view : new ≡ client_found old journal old.collected
  pub seen : IsSeen old journal
  pub grows : old.known ≤ new.known
  pub all : old.over ≡ true → old.collected ≡ length (answers_to old.process journal)

-- the mark was looked at, and was so
pub record IsMarked (old new : ClientView) (over : Bool) : Type 0 where
  pub view : new ≡ record old { over = over; marks = old.marks + 1 }
  pub stays : old.over ≡ true → over ≡ true
