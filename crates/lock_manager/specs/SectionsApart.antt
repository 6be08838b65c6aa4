-- Sections, and whose last answer was an error, make a difference to enter, leave and bail alone (this project's choice).
use Rattle.std.specs.Prelude.{◌≡◌, ℕ, Bool, true, false, List}
use Rattle.lock_manager.specs.declared.request.Rules.{Rules}
use Rattle.lock_manager.specs.declared.request.Note.{Note}
use Rattle.lock_manager.specs.declared.request.Request.{Request}
use Rattle.lock_manager.specs.declared.request.Request.TheVariants.{OpenFile, Dup, DupTo, CloseFd, Seek, Resize, Lk, Flock, Fork, Exit, Signal, Kill, Enter, Leave, Bail}
use Rattle.lock_manager.specs.State.{State, Visits}
use Rattle.lock_manager.specs.Step.{Step}

-- the state, but these are in these sections, and these were told an error last
abbrev pub with_marks : State → Visits → (ℕ → Bool) → State
with_marks S visits refused = record S { visits = visits; refused = refused }

-- whether the request is an enter, a leave or a bail
abbrev pub is_of_sections : Request → Bool
is_of_sections (Enter section visit) = true
is_of_sections (Leave section) = true
is_of_sections Bail = true
is_of_sections (OpenFile file access) = false
is_of_sections (Dup fd) = false
is_of_sections (DupTo fd to) = false
is_of_sections (CloseFd fd) = false
is_of_sections (Seek fd offset) = false
is_of_sections (Resize fd size) = false
is_of_sections (Lk fd cmd lock) = false
is_of_sections (Flock fd op nb) = false
is_of_sections (Fork child) = false
is_of_sections Exit = false
is_of_sections (Signal target) = false
is_of_sections (Kill target) = false

-- whoever else is in which section and was told an error last, any other request makes the same notes, and leaves the same state but for these
abbrev pub SectionsChangeNothingElse : Type 0
SectionsChangeNothingElse =
    (rules : Rules) (processes : ℕ) (S : State) (p n : ℕ) (request : Request) (notes : List Note) (T : State) (visits : Visits) (refused : ℕ → Bool)
    → is_of_sections request ≡ false → Step rules processes S p n request notes T
    → (inside : Visits) × (told : ℕ → Bool) × Step rules processes (with_marks S visits refused) p n request notes (with_marks T inside told)
