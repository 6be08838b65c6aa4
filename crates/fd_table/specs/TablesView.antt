-- What `Tables` shows, and which descriptors it stands for (the words are this project's choice).
use Rattle.std.specs.Prelude.{◌≡◌, ℕ, ◌<◌, ◌≤◌, Bool, Option, Some, None, length, slice_index, option_map, option_and_then, List}
use Rattle.slab.specs.Slab.{Slab, get}
use Rattle.range_core.specs.declared.TheConstants.{OFFMAX}
use Rattle.fd_table.specs.declared.TheConstants.{FILES}
use Rattle.fd_table.specs.declared.Limits.{Limits}
use Rattle.fd_table.specs.declared.tables.Look.{Look}
use Rattle.fd_table.specs.declared.tables.Opened.{Opened}
use Rattle.fd_table.specs.declared.tables.Tables.{Tables}
use Rattle.fd_table.specs.Rows.{Keys, key_at, has_row}
use Rattle.fd_table.specs.Descriptors.{Descriptors, OpenFileDescription, description_numbered}

-- an open file description with its number
pub record Numbered : Type 0 where
  pub number : ℕ
  pub description : OpenFileDescription

-- what each open descriptor refers to, how many descriptions were ever made, the size of each file, and which processes
-- were ever alive
pub record View : Type 0 where
  pub seen : ℕ → ℕ → Option Numbered
  pub made : ℕ
  pub sizes : ℕ → ℕ
  pub born : ℕ → Bool

-- an entry of the slab as a description with its number
abbrev pub numbered : Opened → Numbered
numbered entry =
    record { number = entry.number; description = record { file = entry.file; access = entry.access; offset = entry.offset } }

-- the entry that the descriptor refers to, by way of its key
abbrev pub opened_in : List Keys → Slab Opened → ℕ → ℕ → Option Opened
opened_in rows opened p fd = option_and_then (get opened) (key_at rows p fd)

-- what the descriptor refers to
abbrev pub seen_in : List Keys → Slab Opened → ℕ → ℕ → Option Numbered
seen_in rows opened p fd = option_map numbered (opened_in rows opened p fd)

-- what the tables show
unfoldable pub view_of : Tables → View
view_of tables =
    record {
      seen = seen_in tables.rows.items tables.opened;
      made = tables.made;
      sizes = λ file. slice_index tables.sizes file;
      born = has_row tables.rows.items;
    }

-- the definition's descriptor is closed, or refers to this very description
abbrev pub IsSeen : Option Numbered → Descriptors → ℕ → ℕ → Type 0
IsSeen None descriptors p fd = descriptors.description_of p fd ≡ None
IsSeen (Some seen) descriptors p fd =
    (descriptors.description_of p fd ≡ Some seen.number)
    × (description_numbered descriptors.descriptions seen.number ≡ Some seen.description)

-- what is shown stands for these descriptors: they agree on each descriptor, on the description that it refers to, on how
-- many descriptions were ever made, on sizes, and on who was ever alive. Of a description that no descriptor refers to
-- nothing is kept but that it was made: no call can see it again
pub record ViewStandsFor (view : View) (descriptors : Descriptors) : Type 0 where
  pub seen : (p fd : ℕ) → IsSeen (view.seen p fd) descriptors p fd
  pub made : length descriptors.descriptions ≡ view.made
  pub sizes : (file : ℕ) → descriptors.sizes file ≡ view.sizes file
  pub ever_alive : (p : ℕ) → descriptors.ever_alive p ≡ view.born p

-- the tables stand for these descriptors
abbrev pub StandFor : Tables → Descriptors → Type 0
StandFor tables descriptors = ViewStandsFor (view_of tables) descriptors

-- any tables stand for some descriptors
abbrev pub TablesStandForSome : Type 0
TablesStandForSome = (tables : Tables) → (descriptors : Descriptors) × StandFor tables descriptors

-- the process was ever alive
abbrev pub ever_alive : Tables → ℕ → Bool
ever_alive tables p = (view_of tables).born p

-- the file is one of the files, and offset and size are offsets that a range may be counted from
abbrev pub IsInRange : Look → Type 0
IsInRange look = (look.file < FILES) × (look.offset ≤ OFFMAX) × (look.size ≤ OFFMAX)

-- how many processes there are
unfoldable pub processes_of : Tables → ℕ
processes_of tables = tables.processes

-- the limits of the tables
unfoldable pub limits_of : Tables → Limits
limits_of tables = tables.limits

-- the number of processes and the limits stay
pub record SameLimits (old new : Tables) : Type 0 where
  pub processes : processes_of new ≡ processes_of old
  pub limits : limits_of new ≡ limits_of old

-- the number of processes, the limits, and who was ever alive stay
pub record SameProcesses (old new : Tables) : Type 0 where
  pub processes : processes_of new ≡ processes_of old
  pub limits : limits_of new ≡ limits_of old
  pub alive : (p : ℕ) → ever_alive new p ≡ ever_alive old p
