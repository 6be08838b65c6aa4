-- The lines of each file of a history, and the law that the files may be judged apart.
use Rattle.std.specs.Prelude.{◌≡◌, ◌≢◌, ◌↔◌, ℕ, ◌==◌, Bool, false, if◌then◌else◌, Option, Some, None, List, [], ◌∷◌, ◌++◌, fold}
use Rattle.history_core.specs.declared.request.Request.{Request}
use Rattle.history_core.specs.Moments.{FileLine, World}
use Rattle.history_core.specs.Moments as one_file
use Rattle.history_judge.specs.Histories.{Answered, HistoryLine, IsLegal, MayEnd, Reaches, Sent}

-- a request that was sent on a file
pub record Sending : Type 0 where
  pub file : ℕ
  pub request : Request

-- the open request of each ID, if there is one, behind one line more
abbrev pub open_behind : (ℕ → Option Sending) → HistoryLine → ℕ → Option Sending
open_behind opens (Sent file request) id = if id == request.id then Some (record { file = file; request = request }) else opens id
open_behind opens (Answered answered answer) id = if id == answered then None else opens id

-- no ID is open
abbrev pub none_open : ℕ → Option Sending
none_open id = None

-- the open request of each ID, if there is one, behind these lines
abbrev pub open_after : List HistoryLine → ℕ → Option Sending
open_after lines = fold open_behind none_open lines

-- whether the request is on the file
abbrev pub is_on : Option Sending → ℕ → Bool
is_on None file = false
is_on (Some sending) file = sending.file == file

-- the line as one of the file, if it is one
abbrev pub line_on : (ℕ → Option Sending) → ℕ → HistoryLine → List FileLine
line_on opens file (Sent other request) = if other == file then one_file.Sent request ∷ [] else []
line_on opens file (Answered id answer) = if is_on (opens id) file then one_file.Answered id answer ∷ [] else []

-- the file's lines among lines that come where these are open
abbrev pub lines_from : (ℕ → Option Sending) → ℕ → List HistoryLine → List FileLine
lines_from opens file [] = []
lines_from opens file (line ∷ lines) = line_on opens file line ++ lines_from (open_behind opens line) file lines

-- the file's lines
abbrev pub lines_of : ℕ → List HistoryLine → List FileLine
lines_of file lines = lines_from none_open file lines

-- the ID of a request that is sent isn't open, and that of an answer is
abbrev pub IsNamed : (ℕ → Option Sending) → HistoryLine → Type 0
IsNamed opens (Sent file request) = opens request.id ≡ None
IsNamed opens (Answered id answer) = opens id ≢ None

-- so of each line
abbrev pub AreNamedFrom : (ℕ → Option Sending) → List HistoryLine → Type 0
AreNamedFrom opens [] = Unit {0}
AreNamedFrom opens (line ∷ lines) = IsNamed opens line × AreNamedFrom (open_behind opens line) lines

-- no request is sent by an ID that is open, and no other ID is answered
abbrev pub AreNamed : List HistoryLine → Type 0
AreNamed lines = AreNamedFrom none_open lines

-- one order of a whole history ends in these worlds just where its IDs are used so, and an order of each file's lines ends in the file's world
abbrev pub ReachedApart : Type 0
ReachedApart = (runs : Bool) (lines : List HistoryLine) (last : ℕ → World)
    → Reaches runs lines last ↔ (AreNamed lines × ((file : ℕ) → one_file.Reaches runs (lines_of file lines) (last file)))

-- a history is legal just where its IDs are used so, and each file's lines are legal
abbrev pub LegalApart : Type 0
LegalApart = (runs : Bool) (lines : List HistoryLine)
    → IsLegal runs lines ↔ (AreNamed lines × ((file : ℕ) → one_file.IsLegal runs (lines_of file lines)))

-- a history may end so just where its IDs are used so, and each file's lines may
abbrev pub EndsApart : Type 0
EndsApart = (runs : Bool) (lines : List HistoryLine)
    → MayEnd runs lines ↔ (AreNamed lines × ((file : ℕ) → one_file.MayEnd runs (lines_of file lines)))
