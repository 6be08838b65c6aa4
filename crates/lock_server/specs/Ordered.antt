-- The order of the lists of an export (the words are this project's choice).
use Rattle.std.specs.Prelude.{◌≡◌, ◌<◌, ◌⊎◌, All, AllPairs}
use Rattle.range_core.specs.Ranges.{IsApart}
use Rattle.lock_server.specs.declared.Lock.{Lock}
use Rattle.lock_server.specs.declared.import.parts.FilePart.{FilePart}
use Rattle.lock_server.specs.declared.import.parts.Note.{Note}
use Rattle.lock_server.specs.declared.import.parts.Parts.{Parts}

-- the lock is of a lesser owner, or of the same one, lies before the other, and isn't one with it
abbrev pub IsLockBefore : Lock → Lock → Type 0
IsLockBefore one other = (one.owner < other.owner) ⊎ ((one.owner ≡ other.owner) × IsApart (one.mode, one.span) (other.mode, other.span))

-- the note is of a lesser file, or of the same one and a lesser owner
abbrev pub IsNoteBefore : Note → Note → Type 0
IsNoteBefore one other = (one.file < other.file) ⊎ ((one.file ≡ other.file) × (one.owner < other.owner))

-- the locks on the file are in their orders
pub record IsInOrder (part : FilePart) : Type 0 where
  pub locks : AllPairs IsLockBefore part.locks.items
  pub flocks : AllPairs (λ one other. one.owner < other.owner) part.flocks.items

-- each list is in its order, but those of waits and grants, which are in any
pub record AreInOrder (parts : Parts) : Type 0 where
  pub files : AllPairs (λ one other. one.number < other.number) parts.files.items
  pub each : All IsInOrder parts.files.items
  pub crossed : AllPairs (λ one other. one < other) parts.crossed.items
  pub notes : AllPairs IsNoteBefore parts.notes.items
