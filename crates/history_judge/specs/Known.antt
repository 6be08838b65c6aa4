-- What is known of the lines that were read.
use Rattle.std.specs.Prelude.{◌≡◌, ◌≢◌, ℕ, Bool, Option, option_map, List}
use Rattle.std.specs.BTreeMap.{BTreeMap, get}
use Rattle.std.specs.Ordering.{nat_cmp}
use Rattle.history_judge.specs.declared.files.Files.{Files}
use Rattle.history_judge.specs.declared.judge.OpenRequest.{OpenRequest}
use Rattle.history_judge.specs.Histories.{HistoryLine, IsLegal}
use Rattle.history_judge.specs.FilesApart.{Sending, lines_of, open_after}
use Rattle.history_judge.specs.FilesView as all_files

-- what was sent, without the line
abbrev pub sending_of : OpenRequest → Sending
sending_of opened = record { file = opened.file; request = opened.request }

-- just these lines were read, and they are legal
pub record AreKnown (runs : Bool) (files : Files) (opened : BTreeMap ℕ OpenRequest) (lines : List HistoryLine) : Type 0 where
  pub legal : IsLegal runs lines
  pub opens : (id : ℕ) → option_map sending_of (get nat_cmp opened id) ≡ open_after lines id
  pub files_known : all_files.Knows runs files (λ file. lines_of file lines)

-- some lines were read, and they are legal
abbrev pub IsHistory : Files → BTreeMap ℕ OpenRequest → Type 0
IsHistory files opened = (lines : List HistoryLine) × AreKnown (all_files.runs_of files) files opened lines

-- this is open under the ID, if anything, and under others what was
abbrev pub PutsRequest : BTreeMap ℕ OpenRequest → BTreeMap ℕ OpenRequest → ℕ → Option OpenRequest → Type 0
PutsRequest old new id sent = (get nat_cmp new id ≡ sent) × ((other : ℕ) → other ≢ id → get nat_cmp new other ≡ get nat_cmp old other)
