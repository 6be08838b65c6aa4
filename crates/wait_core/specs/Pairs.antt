-- What is told of pairs of processes (the words are this project's choice).
use Rattle.std.specs.Prelude.{◌≡◌, ◌≢◌, ◌⊎◌, ℕ, List, [], ◌∷◌, ◌++◌, Any, IsFalse}
use Rattle.range_core.specs.declared.Span.{Span}
use Rattle.lock_book.specs.Conflicts.{ProcessBlocks}
use Rattle.wait_core.specs.declared.Family.TheVariants.{Bytes}
use Rattle.wait_core.specs.declared.Wait.{Wait}
use Rattle.wait_core.specs.declared.processes.ProcessSet.{ProcessSet}
use Rattle.wait_core.specs.Locks.{Locks}
use Rattle.wait_core.specs.Blocking.{Meet, WaitsConflict}
use Rattle.wait_core.specs.Cycles.{IsTraditional}
use Rattle.wait_core.specs.Processes.{is_member}

-- the wait is the traditional wait of the process p, and a traditional lock of the process q blocks it
pub record IsBlockedWait (locks : Locks) (p q : ℕ) (wait : Wait) : Type 0 where
  pub of_p : wait.p ≡ p
  pub traditional : IsTraditional wait
  pub blocked : ProcessBlocks (locks.bytes wait.file) q wait.owner wait.span wait.mode

-- the wait is a traditional one of the process q that conflicts with this one
abbrev pub IsConflictOf : ℕ → Wait → Wait → Type 0
IsConflictOf q wait v = (v.p ≡ q) × IsTraditional v × WaitsConflict v wait

-- the wait is the traditional wait of the process p, and a traditional one of the process q, one of these earlier ones, conflicts with it
pub record IsBehind (earlier : List Wait) (p q : ℕ) (wait : Wait) : Type 0 where
  pub of_p : wait.p ≡ p
  pub traditional : IsTraditional wait
  pub behind : Any (IsConflictOf q wait) earlier

-- one of these waits is the traditional wait of the process p, behind one of the process q that conflicts with it, where the earlier
-- ones stand before them
abbrev pub StandsBehind : List Wait → List Wait → ℕ → ℕ → Type 0
StandsBehind earlier [] p q = ⊥
StandsBehind earlier (wait ∷ waits) p q = IsBehind earlier p q wait ⊎ StandsBehind (earlier ++ wait ∷ []) waits p q

-- the wait is on the file, and on a range that meets this one
abbrev pub IsOn : ℕ → Span → Wait → Type 0
IsOn file span wait = (wait.file ≡ file) × Meet Bytes wait.span span

-- the wait, if it is of the process, is on another file or on a range that doesn't meet this one
abbrev pub IsOff : ℕ → ℕ → Span → Wait → Type 0
IsOff p file span wait = wait.p ≡ p → ¬ IsOn file span wait

-- the wait, if it is of the process, is on another file
abbrev pub IsElsewhere : ℕ → ℕ → Wait → Type 0
IsElsewhere p file wait = wait.p ≡ p → wait.file ≢ file

-- the later wait, if its process isn't in the set, doesn't conflict with the earlier one
abbrev pub IsBehindNone : ProcessSet → Wait → Wait → Type 0
IsBehindNone behind earlier wait = IsFalse (is_member behind wait.p) → ¬ WaitsConflict earlier wait
