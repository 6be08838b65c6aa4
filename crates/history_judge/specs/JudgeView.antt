-- What is known of a whole history.
use Rattle.std.specs.Prelude.{◌≡◌, ◌≢◌, ℕ, ◌-◌, ◌<◌, ◌⊎◌, Bool, true, Option, None, List, [], ◌∷◌, ◌++◌}
use Rattle.std.specs.BTreeMap.{get}
use Rattle.std.specs.Ordering.{nat_cmp}
use Rattle.history_core.specs.Moments.{HasMore}
use Rattle.history_core.specs.Moments as one_file
use Rattle.history_core.specs.declared.search.SearchFault.{SearchFault}
use Rattle.history_core.specs.declared.search.SearchFault.TheVariants as searches
use Rattle.history_judge.specs.declared.fault.JudgeFault.{JudgeFault}
use Rattle.history_judge.specs.declared.fault.JudgeFault.TheVariants as faults
use Rattle.history_judge.specs.declared.judge.HistoryJudge.{HistoryJudge}
use Rattle.history_judge.specs.declared.judge.OpenRequest.{OpenRequest}
use Rattle.history_judge.specs.Histories.{HistoryLine, IsIllegalAt}
use Rattle.history_judge.specs.FilesApart.{lines_of}
use Rattle.history_judge.specs.Merging.{files_of}
use Rattle.history_judge.specs.Known.{AreKnown, PutsRequest}
use Rattle.history_judge.specs.FilesView as all_files

-- the open request of the ID
abbrev pub open_in : HistoryJudge → ℕ → Option OpenRequest
open_in judge id = get nat_cmp judge.opened id

-- how many possibilities are kept, of all files together
abbrev pub kept_in : HistoryJudge → ℕ
kept_in judge = all_files.kept_in judge.files

-- how many are kept of the other files
abbrev pub kept_beside : HistoryJudge → ℕ → ℕ
kept_beside judge file = all_files.kept_beside judge.files file

-- whether an order of effects is kept
abbrev pub keeps_order : HistoryJudge → Bool
keeps_order judge = all_files.keeps_in judge.files

-- just these lines were read, and they are legal; where an order is kept, so is the file of each
pub record Knows (runs : Bool) (judge : HistoryJudge) (lines : List HistoryLine) : Type 0 where
  pub known : AreKnown runs judge.files judge.opened lines
  pub logged : keeps_order judge ≡ true → judge.line_files.items ≡ files_of lines

-- the line was read
abbrev pub Takes : HistoryJudge → HistoryJudge → HistoryLine → Type 0
Takes old new line = (runs : Bool) (lines : List HistoryLine) → Knows runs old lines → Knows runs new (lines ++ line ∷ [])

-- no line was read
abbrev pub Stays : HistoryJudge → HistoryJudge → Type 0
Stays old new = (runs : Bool) (lines : List HistoryLine) → Knows runs old lines → Knows runs new lines

-- the lines that were read are legal, and aren't with this one
abbrev pub Refuses : HistoryJudge → HistoryLine → Type 0
Refuses judge line = (runs : Bool) (lines : List HistoryLine) → Knows runs judge lines → IsIllegalAt runs lines line

-- a request of this ID is open
abbrev pub HasOpen : HistoryJudge → ℕ → Type 0
HasOpen judge id = open_in judge id ≢ None

-- the open request of the ID is this one, if one, and those of other IDs are as they were
abbrev pub Opens : HistoryJudge → HistoryJudge → ℕ → Option OpenRequest → Type 0
Opens old new id sent = PutsRequest old.opened new.opened id sent

-- the open requests are as they were
abbrev pub StaysOpen : HistoryJudge → HistoryJudge → Type 0
StaysOpen old new = (id : ℕ) → open_in new id ≡ open_in old id

-- the lines allow more different possibilities on the file than the limit leaves beside those that are kept of the other files
abbrev pub ExceedsOn : HistoryJudge → ℕ → ℕ → Type 0
ExceedsOn judge file limit =
    (runs : Bool) (lines : List HistoryLine) → Knows runs judge lines → HasMore (limit - kept_beside judge file) (one_file.Reaches runs (lines_of file lines))

-- more than the limit are kept, or more are possible on a file than it leaves
abbrev pub Exceeds : HistoryJudge → ℕ → Type 0
Exceeds judge limit = (limit < kept_in judge) ⊎ ((file : ℕ) × ExceedsOn judge file limit)

-- why a search ended, as a fault of the line
abbrev pub judge_fault_of : SearchFault → JudgeFault
judge_fault_of searches.Limit = faults.Limit
judge_fault_of (searches.Memory memory) = faults.Memory memory
