-- The exports of servers.
use Rattle.std.specs.Prelude.{◌≡◌, ℕ, ◌<◌, ◌≤◌, ◌↔◌, List, Result, Ok, Err, drop, length, min, take}
use Rattle.lock_server.specs.declared.ImportFault.{ImportFault}
use Rattle.lock_server.specs.declared.ImportFault.TheVariants.{Invalid, Memory}
use Rattle.lock_server.specs.declared.server.LockServer.{LockServer}
use Rattle.lock_server.specs.Agreement.{SameServer}
use Rattle.lock_server.specs.Bytes.{IsExport}
use Rattle.lock_server.specs.ServerView.{rules_of, state_of, through_of}
use Rattle.lock_server.specs.Words.{greatest}

-- the bytes are the export of the server (this project's choice)
abbrev pub IsExportOf : LockServer → List ℕ → Type 0
IsExportOf server bytes = IsExport (rules_of server) (state_of server) (through_of server) bytes

-- the bytes are told to be no server's export (this project's choice)
abbrev pub IsInvalid : {X : Type 0} → Result X ImportFault → Type 0
IsInvalid (Ok x) = ⊥
IsInvalid (Err (Memory memory)) = ⊥
IsInvalid (Err (Invalid fault)) = Unit {0}

-- this is how many bytes the export of the server has, or the greatest number where it has more (this project's choice)
abbrev pub IsExportSize : LockServer → ℕ → Type 0
IsExportSize server size = (bytes : List ℕ) → IsExportOf server bytes → size ≡ min (length bytes) greatest

-- the export of the server stands in front of the buffer, and the bytes behind it stay; a buffer that is shorter stays as it was; its
-- size is told either way (this project's choice)
pub record ExportComesTo (server : LockServer) (old new : List ℕ) (size : ℕ) : Type 0 where
  pub size_is : IsExportSize server size
  pub bytes : size ≤ length old → size < greatest → IsExportOf server (take size new)
  pub behind : size ≤ length old → size < greatest → drop size new ≡ drop size old
  pub short : length old < size → new ≡ old

-- two servers are in the same state just where their exports are equal (this project's choice)
abbrev pub ExportsTellStates : Type 0
ExportsTellStates = (one other : LockServer) (bytes others : List ℕ) → IsExportOf one bytes → IsExportOf other others
    → SameServer one other ↔ (others ≡ bytes)
