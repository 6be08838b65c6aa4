-- The order in which the requests of a whole history had their effects.
use Rattle.std.specs.Prelude.{◌≡◌, ◌≢◌, ℕ, ◌+◌, Bool, List, [], ◌∷◌, ◌++◌}
use Rattle.history_core.specs.declared.order.Deed.TheVariants.{Effect, LetGo}
use Rattle.history_core.specs.Locks.{FileLocks}
use Rattle.history_core.specs.Locks as one_file_locks
use Rattle.history_core.specs.Moments.{World}
use Rattle.history_core.specs.Moments as one_file
use Rattle.history_core.specs.Orders.{MayDo}
use Rattle.history_judge.specs.declared.order.FileHappening.{FileHappening}
use Rattle.history_judge.specs.Histories.{Comes, HistoryLine, Moment, beginnings, lines_among}

-- what happens on the file at the moment, behind so many lines
abbrev pub told_at : (runs : Bool) (world : World) (file behind : ℕ) (what : one_file.Moment) (next : World) → one_file.Comes runs world what next
    → List FileHappening
told_at runs world file behind (one_file.Line line) next comes = []
told_at runs world file behind (one_file.Effects id) next comes =
    record { behind = behind; file = file; request = comes.0.request; deed = Effect } ∷ []
told_at runs world file behind (one_file.LetsGo id) next comes =
    record { behind = behind; file = file; request = comes.0.request; deed = LetGo } ∷ []

-- how many lines came behind the moment
abbrev pub lines_behind : one_file.Moment → ℕ → ℕ
lines_behind (one_file.Line line) behind = behind + 1
lines_behind (one_file.Effects id) behind = behind
lines_behind (one_file.LetsGo id) behind = behind

-- the moments, one after another, lead from the worlds that so many lines led to as `Leads` has it, and this is what happens at those between the lines
abbrev pub Tells : Bool → (ℕ → World) → ℕ → List Moment → List FileHappening → (ℕ → World) → Type 0
Tells runs worlds behind [] told last = ((file : ℕ) → last file ≡ worlds file) × (told ≡ [])
Tells runs worlds behind (moment ∷ moments) told last =
    (next : ℕ → World) × (comes : Comes runs worlds moment next) × (rest : List FileHappening)
    × (told ≡ told_at runs (worlds moment.file) moment.file behind moment.what (next moment.file) comes.comes ++ rest)
    × Tells runs next (lines_behind moment.what behind) moments rest last

-- one order of moments of these lines, under which every answer is permitted, ends in these worlds, and this is what happens between the lines
pub record OrderTo (runs : Bool) (lines : List HistoryLine) (told : List FileHappening) (last : ℕ → World) : Type 0 where
  pub moments : List Moment
  pub in_order : lines_among moments ≡ lines
  pub tells : Tells runs beginnings 0 moments told last

-- at first nobody has a lock on any file
abbrev pub no_locks : ℕ → FileLocks
no_locks file = one_file_locks.no_locks

-- under these locks this may happen, and leaves those: on its own file what it does, and on no other anything
pub record MayHappen (locks : ℕ → FileLocks) (happening : FileHappening) (after : ℕ → FileLocks) : Type 0 where
  pub may_do : MayDo happening.deed (locks happening.file) happening.request (after happening.file)
  pub others : (other : ℕ) → other ≢ happening.file → after other ≡ locks other

-- under these locks these happenings may come one after another, and leave those
abbrev pub Leave : (ℕ → FileLocks) → List FileHappening → (ℕ → FileLocks) → Type 0
Leave locks [] last = (file : ℕ) → last file ≡ locks file
Leave locks (happening ∷ told) last = (next : ℕ → FileLocks) × MayHappen locks happening next × Leave next told last

-- there was an order of all effects, and this is one, which leaves the locks of the worlds in which it ends
pub record IsLeft (runs : Bool) (lines : List HistoryLine) (told : List FileHappening) : Type 0 where
  pub last : ℕ → World
  pub order : OrderTo runs lines told last
  pub leave : Leave no_locks told (λ file. (last file).locks)
