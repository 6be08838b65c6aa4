-- The callers at a table (the words are this project's choice).
use Rattle.std.specs.Prelude.{◌≡◌, ℕ, ◌+◌, Some, List, [], true, length, slice_get}
use Rattle.lock_manager.specs.declared.request.Request.{Request}
use Rattle.session_core.specs.Mail.{requests_sent}
use Rattle.table_steps.specs.declared.setup.Setup.{Setup}
use Rattle.call_table.specs.declared.client.Client.{Client}
use Rattle.call_table.specs.declared.hub.Hub.{Hub}
use Rattle.table_steps.specs.Views.{new_client}
use Rattle.call_table.specs.Shown.{client_view, IsClientOf, SameClient}
use Rattle.replay_core.specs.declared.caller.Caller.{Caller}
use Rattle.replay_core.specs.Watching.{IsToldOf}

-- it is the same process, with the same client and the same requests
pub record SameCaller (old new : Caller) : Type 0 where
  pub client : SameClient old.client new.client
  pub process : new.process ≡ old.process
  pub requests : new.requests.items ≡ old.requests.items

-- the same caller has collected all that the closed table ever has for it
pub record HasEnded (old new : Caller) : Type 0 where
  pub same : SameCaller old new
  pub drained : (client_view new.client).drained ≡ true

-- this was told of the process of each request that the caller posted
abbrev pub WasTold : (ℕ → ℕ → Type 0) → Caller → Type 0
WasTold told caller = IsToldOf told caller.process (length (client_view caller.client).posted)

-- each has the client of the process that its place names, from process 1 on, which did nothing yet
abbrev pub AreNew : List Client → Type 0
AreNew clients =
    (i : ℕ) (client : Client) → slice_get clients i ≡ Some client → (setup : Setup) × (client_view client ≡ new_client setup (i + 1))

-- it is of this process, and has the requests that arrive of it
pub record IsOf (arrivals : List (ℕ × Request)) (p : ℕ) (caller : Caller) : Type 0 where
  pub process : caller.process ≡ p
  pub requests : caller.requests.items ≡ requests_sent p arrivals

-- each is of the process that its place names, from process 1 on
abbrev pub AreOf : List (ℕ × Request) → List Caller → Type 0
AreOf arrivals callers = (i : ℕ) (caller : Caller) → slice_get callers i ≡ Some caller → IsOf arrivals (i + 1) caller

-- its client is of this hub, and has posted nothing
pub record IsReady (hub : Hub) (caller : Caller) : Type 0 where
  pub client : IsClientOf hub caller.client
  pub unposted : (client_view caller.client).posted ≡ []

-- so each is
abbrev pub AreReady : Hub → List Caller → Type 0
AreReady hub callers = (i : ℕ) (caller : Caller) → slice_get callers i ≡ Some caller → IsReady hub caller
