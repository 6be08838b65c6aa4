-- What is known of all files of a history, one by one.
use Rattle.std.specs.Prelude.{◌≡◌, ℕ, ◌-◌, ◌<◌, ◌==◌, ◌↔◌, ◌⊎◌, Bool, true, IfSome, IsTrue, if◌then◌else◌, Option, Some, None, List, [], ◌∷◌, ◌++◌}
use Rattle.std.specs.BTreeMap.{get}
use Rattle.std.specs.Ordering.{nat_cmp}
use Rattle.history_core.specs.declared.file.FileHistory.{FileHistory}
use Rattle.history_core.specs.Moments.{FileLine, HasMore, IsLegal, MayEnd, Reaches}
use Rattle.history_core.specs.FileView as one_file
use Rattle.history_judge.specs.declared.files.Files.{Files}
use Rattle.history_judge.specs.Entries.{count_on}
use Rattle.history_judge.specs.Kept.{kept_by}

-- what is known of the file, where a request was sent on it
abbrev pub file_in : Files → ℕ → Option FileHistory
file_in files file = get nat_cmp files.files file

-- whether a get tells largest ranges alone
abbrev pub runs_of : Files → Bool
runs_of files = files.runs

-- whether an order of each file is kept
abbrev pub keeps_in : Files → Bool
keeps_in files = files.keeps

-- how many are kept, of all files together
abbrev pub kept_in : Files → ℕ
kept_in files = kept_by files.files

-- how many are kept of the other files
abbrev pub kept_beside : Files → ℕ → ℕ
kept_beside files file = kept_in files - count_on (file_in files file)

-- just these lines were read of the file; none, where nothing is known of it
abbrev pub KnowsFile : Bool → Option FileHistory → List FileLine → Type 0
KnowsFile runs None lines = lines ≡ []
KnowsFile runs (Some history) lines = one_file.Knows runs history lines

-- an order of the file is kept, where one of each is to be
abbrev pub KeepsOn : Bool → Option FileHistory → Type 0
KeepsOn keeps entry = IfSome entry (λ history. keeps ≡ true → one_file.keeps_order history ≡ true)

-- just these lines were read of each file
pub record Knows (runs : Bool) (files : Files) (lines : ℕ → List FileLine) : Type 0 where
  pub is_runs : runs_of files ≡ runs
  pub each : (file : ℕ) → KnowsFile runs (file_in files file) (lines file)
  pub keep : (file : ℕ) → KeepsOn (keeps_in files) (file_in files file)

-- the lines of each file with one more of this file
abbrev pub with_line : (ℕ → List FileLine) → ℕ → FileLine → ℕ → List FileLine
with_line lines file line other = if other == file then lines other ++ line ∷ [] else lines other

-- the line of the file was read
abbrev pub Takes : Files → Files → ℕ → FileLine → Type 0
Takes old new file line = (runs : Bool) (lines : ℕ → List FileLine) → Knows runs old lines → Knows runs new (with_line lines file line)

-- no line was read
abbrev pub Stays : Files → Files → Type 0
Stays old new = (runs : Bool) (lines : ℕ → List FileLine) → Knows runs old lines → Knows runs new lines

-- the line of the file isn't possible behind its lines that were read
abbrev pub Refuses : Files → ℕ → FileLine → Type 0
Refuses files file line = (runs : Bool) (lines : ℕ → List FileLine) → Knows runs files lines → ¬ IsLegal runs (lines file ++ line ∷ [])

-- the lines of the file allow more different possibilities than the limit leaves beside those that are kept of the other files
abbrev pub ExceedsOn : Files → ℕ → ℕ → Type 0
ExceedsOn files file limit =
    (runs : Bool) (lines : ℕ → List FileLine) → Knows runs files lines → HasMore (limit - kept_beside files file) (Reaches runs (lines file))

-- more than the limit are kept, or more are possible on a file than it leaves
abbrev pub Exceeds : Files → ℕ → Type 0
Exceeds files limit = (limit < kept_in files) ⊎ ((file : ℕ) × ExceedsOn files file limit)

-- this tells whether the history may end so on each file
abbrev pub TellsEnd : Files → Bool → Type 0
TellsEnd files may_end =
    (runs : Bool) (lines : ℕ → List FileLine) → Knows runs files lines → IsTrue may_end ↔ ((file : ℕ) → MayEnd runs (lines file))
