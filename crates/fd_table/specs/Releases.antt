-- What the closing of one descriptor finds, and what the closing of descriptors releases.
use Rattle.std.specs.Prelude.{ℕ, List, ◌≡◌, ◌↔◌, Bool, Some, IsTrue, Contains, option_map, ◌==◌, Option, None, option_to_list, false, [], ◌∷◌, slice_index_or}
use Rattle.std.specs.List.Sorted.{IsStrictlyIncreasing}
use Rattle.fd_table.specs.declared.releases.Closed.{Closed}
use Rattle.fd_table.specs.Descriptors.{Descriptors, IsOpen, description_numbered, without_descriptors}

-- the files of the closed descriptors, and the descriptions that were closed for good
-- (POSIX.1-2017 close, DESCRIPTION)
pub record Released : Type 0 where
  pub files : List ℕ
  pub descriptions : List ℕ

-- nothing is released (POSIX.1-2017 close)
abbrev pub nothing : Released
nothing = record { files = []; descriptions = [] }

-- the numbers of which the fact holds, each once and in rising order (this project's choice)
pub record AreExactly (numbers : List ℕ) (fact : ℕ → Type 0) : Type 0 where
  pub rising : IsStrictlyIncreasing numbers
  pub each : (x : ℕ) → Contains numbers x ↔ fact x

-- one of the numbers to be closed is open, and its description is of this file (POSIX.1-2017 close, DESCRIPTION)
pub record ClosesFile (descriptors : Descriptors) (p : ℕ) (closed : ℕ → Bool) (file : ℕ) : Type 0 where
  pub fd : ℕ
  pub is_closed : IsTrue (closed fd)
  pub description : ℕ
  pub refers : descriptors.description_of p fd ≡ Some description
  pub of_file : option_map (λ opened. opened.file) (description_numbered descriptors.descriptions description) ≡ Some file

-- the description was open before the call, and no descriptor refers to it after the whole call
-- (POSIX.1-2017 close, DESCRIPTION, "When all file descriptors ... have been closed")
abbrev pub ClosesDescription : Descriptors → Descriptors → ℕ → Type 0
ClosesDescription before after description = IsOpen before description × ¬ IsOpen after description

-- what the closing of these numbers of the process releases, where the descriptors were before and are after the call
-- (POSIX.1-2017 close, DESCRIPTION: "all outstanding record locks owned by the process on the file" and "the open file
-- description shall be freed"; fcntl_locking(2), "Open file description locks"; flock(2))
pub record AreReleased (before after : Descriptors) (p : ℕ) (closed : ℕ → Bool) (released : Released) : Type 0 where
  pub files : AreExactly released.files (ClosesFile before p closed)
  pub descriptions : AreExactly released.descriptions (ClosesDescription before after)

-- this descriptor alone is closed
abbrev pub without_one : Descriptors → ℕ → ℕ → Descriptors
without_one descriptors p fd = without_descriptors descriptors p (λ k. k == fd)

-- it was the last to refer to the description, whose number is told; else another one does
abbrev pub TellsLastClose : Descriptors → ℕ → Option ℕ → Type 0
TellsLastClose after description None = IsOpen after description
TellsLastClose after description (Some number) = (number ≡ description) × ¬ IsOpen after description

-- the descriptor was open, with this file, and whether it was the last to refer to its description is told
pub record ClosesOne (before : Descriptors) (p fd : ℕ) (closed : Closed) : Type 0 where
  pub description : ℕ
  pub refers : before.description_of p fd ≡ Some description
  pub of_file : option_map (λ opened. opened.file) (description_numbered before.descriptions description) ≡ Some closed.file
  pub last : TellsLastClose (without_one before p fd) description closed.last

-- the descriptor wasn't open, or this is told of it
abbrev pub IsClosing : Descriptors → ℕ → ℕ → Option Closed → Type 0
IsClosing before p fd None = before.description_of p fd ≡ None
IsClosing before p fd (Some closed) = ClosesOne before p fd closed

-- what the closing of one descriptor released
abbrev pub released_by : Option Closed → Released
released_by None = nothing
released_by (Some closed) = record { files = closed.file ∷ []; descriptions = option_to_list closed.last }

-- the number is marked
abbrev pub IsMarked : List Bool → ℕ → Type 0
IsMarked marks x = IsTrue (slice_index_or marks x false)
