-- The clients of a hub just opened.
use Rattle.std.specs.Prelude.{◌≡◌, ℕ, ◌+◌, Some, List, slice_get}
use Rattle.call_table.specs.declared.hub.Hub.{Hub}
use Rattle.call_table.specs.declared.client.Client.{Client}
use Rattle.table_steps.specs.Views.{new_client}
use Rattle.call_table.specs.Shown.{hub_setup, client_view, IsClientOf}

-- each is the client of the process that its place names, of this hub, and did nothing yet
abbrev pub AreClients : Hub → List Client → Type 0
AreClients hub clients =
    (i : ℕ) (client : Client) → slice_get clients i ≡ Some client
    → IsClientOf hub client × (client_view client ≡ new_client (hub_setup hub) (i + 1))
