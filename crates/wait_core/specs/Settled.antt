-- Waits that are known to be blocked, and what a change on one file leaves of that (the words are this project's choice).
use Rattle.std.specs.Prelude.{◌≡◌, ◌≢◌, ◌≤◌, ◌⊎◌, ℕ, ⊤, List, [], ◌∷◌, ◌++◌, IsFalse}
use Rattle.range_core.specs.declared.TheConstants.{OFFMAX}
use Rattle.range_core.specs.declared.Span.{Span}
use Rattle.range_core.specs.Ranges.{Covers}
use Rattle.lock_book.specs.declared.Owner.{Owner}
use Rattle.lock_book.specs.Changes.{whole_file}
use Rattle.wait_core.specs.declared.Policy.{Policy}
use Rattle.wait_core.specs.declared.Wait.{Wait}
use Rattle.wait_core.specs.declared.files.FileSet.{FileSet}
use Rattle.wait_core.specs.declared.waits.Waits.{Waits}
use Rattle.wait_core.specs.Locks.{Locks}
use Rattle.wait_core.specs.Blocking.{IsBlocked}
use Rattle.wait_core.specs.Files.{has_file}
use Rattle.wait_core.specs.WaitsView.{waits_of, policy_of, AgreeBut, IsTold}

-- each of these waits of which this holds is blocked, where the earlier ones stand before them
abbrev pub AllBlockedWhere : (Wait → Type 0) → Policy → Locks → List Wait → List Wait → Type 0
AllBlockedWhere Holds policy locks earlier [] = ⊤
AllBlockedWhere Holds policy locks earlier (wait ∷ waits) =
    (Holds wait → IsBlocked policy locks earlier wait) × AllBlockedWhere Holds policy locks (earlier ++ wait ∷ []) waits

-- each of these waits that is on none of the files is blocked
abbrev pub AllBlockedElsewhere : FileSet → Policy → Locks → List Wait → List Wait → Type 0
AllBlockedElsewhere files = AllBlockedWhere (λ wait. IsFalse (has_file files wait.file))

-- the files that may have a wait that isn't blocked
unfoldable pub changed_files : Waits → FileSet
changed_files waits = waits.changed

-- each wait on another file than those that count as changed is blocked
pub record AreBlockedElsewhere (waits : Waits) (locks : Locks) : Type 0 where
  pub blocked : AllBlockedElsewhere (changed_files waits) (policy_of waits) locks [] (waits_of waits)

-- the wait is known to be blocked: its file doesn't count as changed, or its process is told to wait for another by a lock
abbrev pub IsKnown : Waits → Wait → Type 0
IsKnown waits wait = IsFalse (has_file (changed_files waits) wait.file) ⊎ IsTold waits wait.p

-- each wait that is known to be blocked is
abbrev pub AllBlockedKnown : Waits → Locks → Type 0
AllBlockedKnown waits locks = AllBlockedWhere (IsKnown waits) (policy_of waits) locks [] (waits_of waits)

-- the two have the same locks on each file but this one
pub record AgreeElsewhere (file : ℕ) (old new : Locks) : Type 0 where
  pub bytes : AgreeBut file old new
  pub flocks : (other description : ℕ) → other ≢ file → new.flocks other description ≡ old.flocks other description

-- the two have the same locks on each other file; on this one the same byte locks, but on these bytes, and the same flock locks, but
-- where these are all its bytes
pub record AgreeOff (file : ℕ) (span : Span) (old new : Locks) : Type 0 where
  pub elsewhere : AgreeElsewhere file old new
  pub bytes : (owner : Owner) (byte : ℕ) → byte ≤ OFFMAX → ¬ Covers span byte → new.bytes file owner byte ≡ old.bytes file owner byte
  pub flocks : span ≢ whole_file → (description : ℕ) → new.flocks file description ≡ old.flocks file description
