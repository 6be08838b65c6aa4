-- How the parts of an export become a table (the words are this project's choice).
use Rattle.std.specs.Prelude.{◌≡◌, ◌≢◌, ℕ, ◌<◌, ◌↔◌, IsTrue, false, Option, Some, List, [], ◌∷◌, All, AllPairs, Contains, map}
use Rattle.lock_server.specs.declared.import.parts.FilePart.{FilePart}
use Rattle.lock_server.specs.declared.import.parts.Note.{Note}
use Rattle.lock_server.specs.declared.import.parts.Parts.{Parts}
use Rattle.lock_server.specs.Files.{SameFile, untouched}
use Rattle.lock_server.specs.Inventory.{SaysFile}
use Rattle.lock_server.specs.Reading.{entry_of}
use Rattle.lock_server.specs.Restoring.{JoinsEach, SetsEach, flock_lock_request, lock_request}
use Rattle.lock_server.specs.Safety.{IsSafe}
use Rattle.lock_server.specs.States.{HasDetected, SameState, State}

-- the locks of one file are set
pub record SetsOnFile (S : State) (part : FilePart) (T : State) : Type 0 where
  pub between : State
  pub locks : SetsEach S part.number (map lock_request part.locks.items) between
  pub flocks : SetsEach between part.number (map flock_lock_request part.flocks.items) T

-- the locks of these files are set, one file after another
abbrev pub SetsAll : State → List FilePart → State → Type 0
SetsAll S [] T = SameState S T
SetsAll S (part ∷ parts) T = (between : State) × SetsOnFile S part between × SetsAll between parts T

-- the waits join on these files, on one after another
abbrev pub JoinsAll : State → List FilePart → State → Type 0
JoinsAll S [] T = SameState S T
JoinsAll S (part ∷ parts) T = (between : State) × JoinsEach S part.number part.waits.items between × JoinsAll between parts T

-- these say what stands on all files of the state, by rising numbers
pub record AreFilesOf (S : State) (parts : List FilePart) : Type 0 where
  pub rising : AllPairs (λ one other. one.number < other.number) parts
  pub says : All (λ part. SaysFile (S.files part.number) (entry_of part)) parts
  pub others : (file : ℕ) → All (λ part. part.number ≢ file) parts → SameFile (S.files file) untouched

-- these are just the notes
pub record AreNotesOf (through : ℕ → ℕ → Option ℕ) (notes : List Note) : Type 0 where
  pub says : All (λ note. through note.file note.owner ≡ Some note.open_file) notes
  pub each : (file owner open_file : ℕ) → through file owner ≡ Some open_file
      → Contains notes (record { file = file; owner = owner; open_file = open_file })

-- no wait, no grant and nobody crossed
pub record HasLocksAlone (S : State) : Type 0 where
  pub waits : (file : ℕ) → (S.files file).waits ≡ []
  pub grants : S.grants ≡ []
  pub crossed : (owner : ℕ) → S.crossed owner ≡ false

-- the waits of the other state, and no grant
pub record HasWaitsOf (S T : State) : Type 0 where
  pub waits : (file : ℕ) → (T.files file).waits ≡ (S.files file).waits
  pub grants : T.grants ≡ []

-- the parts tell of this state, which is that of some server
pub record AreOf (S : State) (parts : Parts) : Type 0 where
  pub files : AreFilesOf S parts.files.items
  pub grants : parts.grants.items ≡ S.grants
  pub crossed : (owner : ℕ) → Contains parts.crossed.items owner ↔ IsTrue (S.crossed owner)
  pub waiting : (owner : ℕ) → IsTrue (S.crossed owner) → HasDetected S owner
  pub safe : IsSafe parts.rules.policy S
