-- What a table stands for (the words are this project's choice).
use Rattle.std.specs.Prelude.{◌≡◌, ◌≢◌, ℕ, Bool, [], Option, Some}
use Rattle.wait_core.specs.declared.Policy.{Policy}
use Rattle.lock_server.specs.declared.file.LockFile.{LockFile}
use Rattle.lock_server.specs.declared.table.Table.{Table}
use Rattle.lock_server.specs.Clients.{StripsLocks}
use Rattle.lock_server.specs.FileView.{state_at}
use Rattle.lock_server.specs.FilesView.{entry_in}
use Rattle.lock_server.specs.Files.{SameFile, untouched}
use Rattle.lock_server.specs.Safety.{IsSafe}
use Rattle.lock_server.specs.TicketsView.{grants_of}
use Rattle.lock_server.specs.WaitersView.{crossed_of}
use Rattle.lock_server.specs.States.{State, ChangesFile}

-- the entry of the file, where it has a lock or a wait
unfoldable pub entry_of : Table → ℕ → Option LockFile
entry_of table file = entry_in table.files file

-- the file has an entry
pub record HasEntry (table : Table) (file : ℕ) : Type 0 where
  pub entry : LockFile
  pub is : entry_of table file ≡ Some entry

-- the state that a table stands for
unfoldable pub table_state : Table → State
table_state table = record {
  files = λ file. state_at (entry_of table file);
  grants = grants_of table.tickets;
  crossed = crossed_of table.waiters;
}

-- the file has no entry where it has neither a lock nor a wait
abbrev pub IsSwept : Table → ℕ → Type 0
IsSwept table file = SameFile ((table_state table).files file) untouched → ¬ HasEntry table file

-- and so has none of all files
abbrev pub AreSwept : Table → Type 0
AreSwept table = (file : ℕ) → IsSwept table file

-- each file but this one has the entry that it had, or none
abbrev pub KeepsOthers : Table → Table → ℕ → Type 0
KeepsOthers old new file = (other : ℕ) → other ≢ file → entry_of new other ≡ entry_of old other

-- each file has the entry that it had, or none
abbrev pub KeepsEntries : Table → Table → Type 0
KeepsEntries old new = (file : ℕ) → entry_of new file ≡ entry_of old file

-- what holds between two calls holds afterwards, where it held before
abbrev pub StaysSafe : Policy → Table → Table → Type 0
StaysSafe policy old new = ∥ IsSafe policy (table_state old) ∥₁ → ∥ IsSafe policy (table_state new) ∥₁

-- all waits leave the file, and none is granted
pub record AllLeave (S : State) (file : ℕ) (T : State) : Type 0 where
  pub waits : (T.files file).waits ≡ []
  pub changes : ChangesFile S file [] T

-- of these owners all locks leave the file, the waits stay, and none is granted yet
pub record StripsLocksOn (S : State) (file : ℕ) (gone : ℕ → Bool) (T : State) : Type 0 where
  pub strips : StripsLocks (S.files file) gone (T.files file)
  pub waits : (T.files file).waits ≡ (S.files file).waits
  pub changes : ChangesFile S file [] T
