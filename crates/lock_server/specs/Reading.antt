-- What is read of an export, and how the words in front of the others tell it (the words are this project's choice).
use Rattle.std.specs.Prelude.{◌≡◌, ℕ, All, List, [], ◌∷◌, ◌++◌, Result, Ok, Err, length, map}
use Rattle.range_core.specs.declared.Span.{Span}
use Rattle.range_core.specs.Ranges.{IsByteRange}
use Rattle.lock_server.specs.declared.ImportFault.{ImportFault}
use Rattle.lock_server.specs.declared.ImportFault.TheVariants.{Invalid, Memory}
use Rattle.lock_server.specs.declared.Lock.{Lock}
use Rattle.lock_server.specs.declared.Pending.{Pending}
use Rattle.lock_server.specs.declared.Rules.{Rules}
use Rattle.lock_server.specs.declared.import.parts.FilePart.{FilePart}
use Rattle.lock_server.specs.declared.import.parts.Note.{Note as NotePart}
use Rattle.lock_server.specs.declared.import.parts.Parts.{Parts}
use Rattle.lock_server.specs.Bytes.{export_words, rules_words, version}
use Rattle.lock_server.specs.Inventory.{FileEntry, Inventory, Note}

-- nothing is said to be invalid, and where memory isn't wanting, there is a value of which this holds
abbrev pub Succeeds : {X : Type 0} → Result X ImportFault → (X → Type 0) → Type 0
Succeeds (Ok x) Holds = Holds x
Succeeds (Err (Memory memory)) Holds = Unit {0}
Succeeds (Err (Invalid fault)) Holds = ⊥

-- what was read is this, seen so, and the words behind it are left
abbrev pub IsRead : {X Y : Type 0} → (X → Y) → Result X ImportFault → List ℕ → Y → List ℕ → Type 0
IsRead view result left y rest = Succeeds result (λ x. (view x ≡ y) × (left ≡ rest))

-- whatever may stand there, and is spelled so by the words in front, is read
abbrev pub Reads : {X Y : Type 0} → (X → Y) → (Y → List ℕ) → (Y → Type 0) → List ℕ → Result X ImportFault → List ℕ → Type 0
Reads {X} {Y} view spell May old result left = (y : Y) (rest : List ℕ) → May y → old ≡ spell y ++ rest → IsRead view result left y rest

-- a thing as it is
abbrev pub itself : {X : Type 0} → X → X
itself x = x

-- each may stand there
abbrev pub Always : {X : Type 0} → X → Type 0
Always x = Unit {0}

-- one word
abbrev pub alone : {X : Type 0} → (X → ℕ) → X → List ℕ
alone word x = word x ∷ []

-- a span as words
abbrev pub span_words : Span → List ℕ
span_words span = span.first ∷ span.last ∷ []

-- the version and the rules as words
abbrev pub head_words : Rules → List ℕ
head_words rules = version ∷ rules_words rules

-- the file, as an inventory has it
abbrev pub entry_of : FilePart → FileEntry
entry_of part = record { number = part.number; locks = part.locks.items; flocks = part.flocks.items; waits = part.waits.items }

-- the note, as an inventory has it
abbrev pub note_of : NotePart → Note
note_of note = record { file = note.file; owner = note.owner; open_file = note.open_file }

-- all that the parts tell of, as an inventory
abbrev pub inventory_of : Parts → Inventory
inventory_of all = record { files = map entry_of all.files.items; grants = all.grants.items; crossed = all.crossed.items; notes = map note_of all.notes.items }

-- a range of bytes with a lock
abbrev pub MayLock : Lock → Type 0
MayLock lock = IsByteRange lock.span

-- a range of bytes that is waited for
abbrev pub MayWait : Pending → Type 0
MayWait wait = IsByteRange wait.span

-- a file that may stand in an export: its locks and waits are for bytes that a file may have, and it has some
pub record MayStand (entry : FileEntry) : Type 0 where
  pub locks : All MayLock entry.locks
  pub waits : All MayWait entry.waits
  pub used : length entry.locks ≡ 0 → length entry.flocks ≡ 0 → length entry.waits ≡ 0 → ⊥

-- all that an export tells
pub record Told : Type 0 where
  pub rules : Rules
  pub inventory : Inventory

-- what the parts tell
abbrev pub told_by : Parts → Told
told_by all = record { rules = all.rules; inventory = inventory_of all }

-- what is told, as words
abbrev pub told_words : Told → List ℕ
told_words told = export_words told.rules told.inventory

-- what a server may tell
abbrev pub MayBeTold : Told → Type 0
MayBeTold told = All MayStand told.inventory.files
