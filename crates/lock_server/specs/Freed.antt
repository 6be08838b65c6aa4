-- Which waits a change may have freed (the words are this project's choice).
use Rattle.std.specs.Prelude.{◌≡◌, ℕ, All, Option, List, [], ◌∷◌, ◌++◌}
use Rattle.range_core.specs.declared.Mode.{Mode}
use Rattle.range_core.specs.declared.Span.{Span}
use Rattle.range_core.specs.Ranges.{Covers, HeldConflicts, IsByteRange}
use Rattle.wait_core.specs.declared.Policy.{Policy}
use Rattle.wait_core.specs.Blocking.{Meet}
use Rattle.lock_server.specs.declared.Pending.{Pending}
use Rattle.lock_server.specs.declared.freed.Freed.{Freed}
use Rattle.lock_server.specs.declared.freed.Freed.TheVariants.{Nobody, Of, Meeting, Anybody}
use Rattle.lock_server.specs.declared.freed.Known.{Known}
use Rattle.lock_server.specs.declared.freed.Reach.{Reach}
use Rattle.lock_server.specs.Files.{FileState, Leaves, SetsBytes}
use Rattle.lock_server.specs.Settling.{Grants, IsSettled, IsWaitBlocked}
use Rattle.lock_server.specs.Waiting.{AreBlockedTo}

-- where the wait is to have its lock
abbrev pub reach_of : Pending → Reach
reach_of wait = record { family = wait.family; span = wait.span }

-- the wait is for a lock there
pub record Reaches (reach : Reach) (wait : Pending) : Type 0 where
  pub family : wait.family ≡ reach.family
  pub meet : Meet wait.family reach.span wait.span

-- the wait is among those that may be freed
abbrev pub IsAmong : Freed → Pending → Type 0
IsAmong Nobody wait = ⊥
IsAmong (Of owner reach) wait = (wait.owner ≡ owner) × Reaches reach wait
IsAmong (Meeting reach) wait = Reaches reach wait
IsAmong Anybody wait = Unit {0}

-- each of these waits but those that may be freed is blocked, where the earlier ones stand before them
abbrev pub AllBlockedBut : Policy → FileState → Freed → List Pending → List Pending → Type 0
AllBlockedBut policy F freed earlier [] = Unit {0}
AllBlockedBut policy F freed earlier (wait ∷ waits) =
    ((¬ IsAmong freed wait) → IsWaitBlocked policy F earlier wait) × AllBlockedBut policy F freed (earlier ++ wait ∷ []) waits

-- each wait on the file but those that may be freed is blocked
abbrev pub AreBlockedBut : Policy → FileState → Freed → Type 0
AreBlockedBut policy F freed = AllBlockedBut policy F freed [] F.waits

-- what is known of the waits on the file is so
pub record IsKnown (policy : Policy) (F : FileState) (known : Known) : Type 0 where
  pub earliest : AreBlockedTo policy F known.blocked
  pub others : AreBlockedBut policy F known.freed

-- the grant frees these waits at most, where before it those may have been freed
abbrev pub FreesBehind : Freed → Pending → Freed → Type 0
FreesBehind freed granted after = (policy : Policy) (F G : FileState) → All (λ wait. IsByteRange wait.span) F.waits → Grants policy F granted G
    → AreBlockedBut policy F freed → AreBlockedBut policy G after

-- where each wait was blocked, a change of the file to one of these frees these waits at most
abbrev pub Frees : Policy → FileState → (FileState → Type 0) → Freed → Type 0
Frees policy F Changed freed = (G : FileState) → Changed G → G.waits ≡ F.waits → IsSettled policy F → AreBlockedBut policy G freed

-- a set of the owner's mode, or an unlock, frees these waits at most
abbrev pub SetFrees : Policy → FileState → ℕ → Span → Option Mode → Freed → Type 0
SetFrees policy F owner span mode freed = Frees policy F (SetsBytes F owner span mode) freed

-- what the owner has blocks no more than what it is to have
abbrev pub Keeps : Option Mode → Option Mode → Type 0
Keeps held mode = (wanted : Mode) → HeldConflicts held wanted → HeldConflicts mode wanted

-- nor does it on any byte of the range
abbrev pub TakesNothing : FileState → ℕ → Span → Option Mode → Type 0
TakesNothing F owner span mode = (byte : ℕ) → Covers span byte → Keeps (F.bytes owner byte) mode

-- a wait that leaves frees these at most
abbrev pub LeavingFrees : Policy → Pending → Freed → Type 0
LeavingFrees policy wait freed = (F G : FileState) (before after : List Pending) → Leaves F before wait after G → IsSettled policy F → AreBlockedBut policy G freed
