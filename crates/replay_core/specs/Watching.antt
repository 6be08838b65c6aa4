-- What a watch is told of a run in threads (the words are this project's choice).
use Rattle.std.specs.Prelude.{◌≡◌, ℕ, ◌≤◌, List, true, length}
use Rattle.session_core.specs.Event.{Event}
use Rattle.session_core.specs.Mail.{IsPrefixOf, requests_taken}
use Rattle.script_core.specs.ScriptText.{Meaning, IsProcess}
use Rattle.call_table.specs.declared.client.Client.{Client}
use Rattle.call_table.specs.Shown.{client_view}

-- this was told of each of the first requests of the process, so many, by its number
abbrev pub IsToldOf : (ℕ → ℕ → Type 0) → ℕ → ℕ → Type 0
IsToldOf told p count = (n : ℕ) → 1 ≤ n → n ≤ count → told p n

-- a client of the process has posted so many requests
pub record HasPosted (p n : ℕ) : Type 0 where
  pub client : Client
  pub process : (client_view client).process ≡ p
  pub count : length (client_view client).posted ≡ n

-- the client of the process has seen the whole journal, and collected all; what was taken of it, it posted, and this was told of all that
-- it posted
pub record IsWatched (told : ℕ → ℕ → Type 0) (p : ℕ) (journal : List Event) : Type 0 where
  pub client : Client
  pub process : (client_view client).process ≡ p
  pub seen : (client_view client).seen ≡ journal
  pub drained : (client_view client).drained ≡ true
  pub taken : IsPrefixOf (requests_taken p journal) (client_view client).posted
  pub all_told : IsToldOf told p (length (client_view client).posted)

-- so it is of each process of the script
abbrev pub AreWatched : (ℕ → ℕ → Type 0) → Meaning → List Event → Type 0
AreWatched told script journal = (p : ℕ) → IsProcess script.rules.limits p → IsWatched told p journal
