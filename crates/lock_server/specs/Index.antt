-- How what is known of tickets and of owners goes with the waits (the words are this project's choice).
use Rattle.std.specs.Prelude.{◌≡◌, ◌≢◌, ℕ, ◌==◌, ◌&&◌, ◌↔◌, Some, List, [], IsTrue, AllPairs, length, filter, false}
use Rattle.std.specs.List.{list_any}
use Rattle.lock_server.specs.declared.Pending.{Pending}
use Rattle.lock_server.specs.declared.files.Files.{Files}
use Rattle.lock_server.specs.declared.tickets.Place.TheVariants.{Waits, Granted}
use Rattle.lock_server.specs.declared.tickets.Tickets.{Tickets}
use Rattle.lock_server.specs.declared.waiters.Waiters.{Waiters}
use Rattle.lock_server.specs.Files.{FileState}
use Rattle.lock_server.specs.FileView.{state_at}
use Rattle.lock_server.specs.FilesView.{entry_in}
use Rattle.lock_server.specs.TicketsView.{place_at, grants_of}
use Rattle.lock_server.specs.WaitersView.{files_of, crossed_of, times}

-- the state of the file, by these entries
abbrev pub state_in : Files → ℕ → FileState
state_in files file = state_at (entry_in files file)

-- for how many detected locks the owner waits among these
abbrev pub detected_waits : List Pending → ℕ → ℕ
detected_waits waits owner = length (filter (λ wait. wait.detect && (wait.owner == owner)) waits)

-- a ticket is known to wait just where a wait has it, and to be granted just where a grant does, each once; an owner has a file for
-- each of its detected waits there, and isn't crossed without one; said by tests, so that it is a proposition
pub record IsIndexed (files : Files) (tickets : Tickets) (waiters : Waiters) : Type 0 where
  pub pending : (ticket file : ℕ) → (place_at tickets ticket ≡ Some (Waits file))
      ↔ IsTrue (list_any (λ wait. wait.ticket == ticket) (state_in files file).waits)
  pub granted : (ticket : ℕ) → (place_at tickets ticket ≡ Some Granted) ↔ IsTrue (list_any (λ grant. grant == ticket) (grants_of tickets))
  pub once_on_a_file : (file : ℕ) → AllPairs (λ v w. v.ticket ≢ w.ticket) (state_in files file).waits
  pub granted_once : AllPairs (λ one other. one ≢ other) (grants_of tickets)
  pub detected : (owner file : ℕ) → times file (files_of waiters owner) ≡ detected_waits (state_in files file).waits owner
  pub crossed : (owner : ℕ) → files_of waiters owner ≡ [] → crossed_of waiters owner ≡ false
