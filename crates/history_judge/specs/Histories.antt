-- A whole history of locks, on any number of files: whether there was one order of all its effects in which every answer is permitted.
use Rattle.std.specs.Prelude.{◌≡◌, ◌≢◌, ℕ, Bool, ⊤, List, [], ◌∷◌, ◌++◌}
use Rattle.history_core.specs.declared.request.Request.{Request}
use Rattle.history_core.specs.declared.request.Answer.{Answer}
use Rattle.history_core.specs.Moments.{AllWaitStill, FileLine, IsFree, World, beginning}
use Rattle.history_core.specs.Moments as one_file

-- a line of a history: a request was sent on the file, or the answer of the request of this ID came
pub data HistoryLine : Type 0 where
  Sent : ℕ → Request → HistoryLine
  Answered : ℕ → Answer → HistoryLine

-- what comes at a moment, on one file: a line, the effect of an open request, or the loss of the old lock of a conversion
pub record Moment : Type 0 where
  pub file : ℕ
  pub what : one_file.Moment

-- what a line of the file is in the history: an answer doesn't tell its file
abbrev pub line_of : ℕ → FileLine → HistoryLine
line_of file (one_file.Sent request) = Sent file request
line_of file (one_file.Answered id answer) = Answered id answer

-- the line that comes at the moment, if one does
abbrev pub lines_at : ℕ → one_file.Moment → List HistoryLine
lines_at file (one_file.Line line) = line_of file line ∷ []
lines_at file (one_file.Effects id) = []
lines_at file (one_file.LetsGo id) = []

-- the lines among the moments
abbrev pub lines_among : List Moment → List HistoryLine
lines_among [] = []
lines_among (moment ∷ moments) = lines_at moment.file moment.what ++ lines_among moments

-- a request is sent by an ID that no open request has, whatever its file
abbrev pub IsNew : (ℕ → World) → one_file.Moment → Type 0
IsNew worlds (one_file.Line (one_file.Sent request)) = (file : ℕ) → IsFree (worlds file) request.id
IsNew worlds (one_file.Line (one_file.Answered id answer)) = ⊤
IsNew worlds (one_file.Effects id) = ⊤
IsNew worlds (one_file.LetsGo id) = ⊤

-- at this moment the files' worlds may become the next: that of its own file, by what is permitted there, and no other
pub record Comes (runs : Bool) (worlds : ℕ → World) (moment : Moment) (next : ℕ → World) : Type 0 where
  pub comes : one_file.Comes runs (worlds moment.file) moment.what (next moment.file)
  pub others : (other : ℕ) → other ≢ moment.file → next other ≡ worlds other
  pub is_new : IsNew worlds moment.what

-- the moments, one after another, lead from these worlds to those
abbrev pub Leads : Bool → (ℕ → World) → List Moment → (ℕ → World) → Type 0
Leads runs worlds [] last = (file : ℕ) → last file ≡ worlds file
Leads runs worlds (moment ∷ moments) last = (next : ℕ → World) × Comes runs worlds moment next × Leads runs next moments last

-- at the first line nobody has a lock on any file
abbrev pub beginnings : ℕ → World
beginnings file = beginning

-- one order of moments of these lines, under which every answer is permitted, and which ends in these worlds
pub record Reaches (runs : Bool) (lines : List HistoryLine) (last : ℕ → World) : Type 0 where
  pub moments : List Moment
  pub in_order : lines_among moments ≡ lines
  pub leads : Leads runs beginnings moments last

-- there was an order of all effects
abbrev pub IsLegal : Bool → List HistoryLine → Type 0
IsLegal runs lines = (last : ℕ → World) × Reaches runs lines last

-- these lines are legal, and with this one more they aren't: it is the first at which no order is left
pub record IsIllegalAt (runs : Bool) (lines : List HistoryLine) (line : HistoryLine) : Type 0 where
  pub before : IsLegal runs lines
  pub behind : ¬ IsLegal runs (lines ++ line ∷ [])

-- the history may end so: there was an order behind which each open wait on any file waits still
pub record MayEnd (runs : Bool) (lines : List HistoryLine) : Type 0 where
  pub last : ℕ → World
  pub reaches : Reaches runs lines last
  pub wait : (file : ℕ) → AllWaitStill (last file)
