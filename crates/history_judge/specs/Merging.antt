-- How the orders of the files are merged to one: what happened on a file behind a line of it comes next behind that line.
use Rattle.std.specs.Prelude.{ℕ, ◌+◌, ◌==◌, nat_le, if◌then◌else◌, Option, Some, None, option_map, List, [], ◌∷◌, ◌++◌, map, reverse}
use Rattle.std.specs.BTreeMap.{BTreeMap, get}
use Rattle.std.specs.Ordering.{nat_cmp}
use Rattle.history_core.specs.declared.order.Happening.{Happening}
use Rattle.history_judge.specs.declared.order.FileHappening.{FileHappening}
use Rattle.history_judge.specs.declared.order.FileOrder.{FileOrder}
use Rattle.history_judge.specs.FilesApart.{Sending, none_open, open_behind}
use Rattle.history_judge.specs.Histories.{Answered, HistoryLine, Sent}

-- the file of what was sent, if anything was
abbrev pub file_sent : Option Sending → ℕ
file_sent None = 0
file_sent (Some sending) = sending.file

-- the file of the line
abbrev pub file_of : (ℕ → Option Sending) → HistoryLine → ℕ
file_of opens (Sent file request) = file
file_of opens (Answered id answer) = file_sent (opens id)

-- the file of each line, where these requests are open before
abbrev pub files_from : (ℕ → Option Sending) → List HistoryLine → List ℕ
files_from opens [] = []
files_from opens (line ∷ lines) = file_of opens line ∷ files_from (open_behind opens line) lines

-- the file of each line
abbrev pub files_of : List HistoryLine → List ℕ
files_of lines = files_from none_open lines

-- what is left of the order of one file, of which so many lines came
pub record Left : Type 0 where
  pub told : List Happening
  pub lines : ℕ

-- what is left of the order
abbrev pub left_in : FileOrder → Left
left_in order = record { told = reverse order.happenings.items; lines = order.lines }

-- what is left of the order of each file
abbrev pub lefts_in : BTreeMap ℕ FileOrder → ℕ → Option Left
lefts_in orders file = option_map left_in (get nat_cmp orders file)

-- what comes behind no more than so many lines, before all that comes later
abbrev pub front : ℕ → List Happening → List Happening
front lines [] = []
front lines (happening ∷ told) = if nat_le happening.behind lines then happening ∷ front lines told else []

-- and what is behind that
abbrev pub beyond : ℕ → List Happening → List Happening
beyond lines [] = []
beyond lines (happening ∷ told) = if nat_le happening.behind lines then beyond lines told else happening ∷ told

-- what happened on a file as one of the history, behind so many of its lines
abbrev pub told_as : ℕ → ℕ → Happening → FileHappening
told_as behind file happening = record { behind = behind; file = file; request = happening.request; deed = happening.deed }

-- what happened on the file before the second line from here, told behind so many lines of the history
abbrev pub passed : ℕ → ℕ → Option Left → List FileHappening
passed behind file None = []
passed behind file (Some left) = map (told_as behind file) (front (left.lines + 1) left.told)

-- what is left then
abbrev pub left_behind : Option Left → Option Left
left_behind None = None
left_behind (Some left) = Some (record { told = beyond (left.lines + 1) left.told; lines = left.lines + 1 })

-- a line of the file has come
abbrev pub pass : ℕ → (ℕ → Option Left) → ℕ → Option Left
pass file lefts other = if other == file then left_behind (lefts other) else lefts other

-- the orders of the files, merged: lines of these files come behind so many lines
abbrev pub merged : ℕ → (ℕ → Option Left) → List ℕ → List FileHappening
merged behind lefts [] = []
merged behind lefts (file ∷ files) = passed (behind + 1) file (lefts file) ++ merged (behind + 1) (pass file lefts) files
