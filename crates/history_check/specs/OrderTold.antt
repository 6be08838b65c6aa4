-- What is told of an order of effects, and of the locks that it leaves (the words are this project's choice).
use Rattle.std.specs.Prelude.{◌≡◌, ◌≢◌, ℕ, ◌+◌, ◌==◌, Bool, true, false, MatchBool, List, [], ◌∷◌, ◌++◌, All, codes, decimal, flat_map}
use Rattle.range_core.specs.declared.Mode.{Mode}
use Rattle.range_core.specs.declared.Mode.TheVariants.{Read, Write}
use Rattle.history_core.specs.declared.byte_locks.ByteLock.{ByteLock}
use Rattle.history_core.specs.declared.held_locks.FlockLock.{FlockLock}
use Rattle.history_core.specs.declared.order.Deed.{Deed}
use Rattle.history_core.specs.declared.order.Deed.TheVariants.{Effect, LetGo}
use Rattle.history_core.specs.ByteLists.{bytes_in}
use Rattle.history_core.specs.HeldView.{flocks_in}
use Rattle.history_core.specs.Locks.{FileLocks}
use Rattle.history_core.specs.Locks as one_file
use Rattle.history_judge.specs.declared.order.FileHappening.{FileHappening}
use Rattle.history_judge.specs.HistoryOrders.{MayHappen}
use Rattle.history_check.specs.declared.judging.LockStates.{LockStates}
use Rattle.history_check.specs.declared.judging.LockStates.TheVariants as places

-- what the line of an effect, or of an old lock that was let go, says behind the ID
abbrev pub deed_text : Deed → List ℕ
deed_text Effect = codes " behind "
deed_text LetGo = codes " lets go behind "

-- the line of what happened
abbrev pub happening_line : FileHappening → List ℕ
happening_line happening = decimal happening.request.id ++ deed_text happening.deed ++ decimal happening.behind ++ 10 ∷ []

-- the one text for a read lock, the other for a write lock
abbrev pub by_mode : Mode → List ℕ → List ℕ → List ℕ
by_mode Read read write = read
by_mode Write read write = write

-- the line of a byte lock
abbrev pub byte_lock_line : ℕ → ByteLock → List ℕ
byte_lock_line file lock =
    codes "# lock" ++ 32 ∷ decimal file ++ 32 ∷ decimal lock.owner ++ by_mode lock.mode (codes " r") (codes " w") ++ 32 ∷ decimal lock.span.first ++ 32 ∷ decimal lock.span.last
    ++ 10 ∷ []

-- the line of a flock lock
abbrev pub flock_line : ℕ → FlockLock → List ℕ
flock_line file lock = codes "# flock" ++ 32 ∷ decimal file ++ 32 ∷ decimal lock.owner ++ by_mode lock.mode (codes " sh") (codes " ex") ++ 10 ∷ []

-- the lines of the locks on a file, the flock locks behind the byte locks
pub record IsFileText (file : ℕ) (locks : FileLocks) (text : List ℕ) : Type 0 where
  pub bytes : List ByteLock
  pub are_bytes : bytes_in bytes ≡ locks.bytes
  pub flocks : List FlockLock
  pub are_flocks : flocks_in flocks ≡ locks.flocks
  pub is : text ≡ flat_map (byte_lock_line file) bytes ++ flat_map (flock_line file) flocks

-- a file, and what is told of its locks
pub record FileText : Type 0 where
  pub file : ℕ
  pub text : List ℕ

-- the lines of the locks on some files, and no other file has any
pub record IsStateText (locks : ℕ → FileLocks) (text : List ℕ) : Type 0 where
  pub told : List FileText
  pub are : All (λ one. IsFileText one.file (locks one.file) one.text) told
  pub others : (file : ℕ) → All (λ one. one.file ≢ file) told → locks file ≡ one_file.no_locks
  pub is : text ≡ flat_map (λ one. one.text) told

-- whether the locks are told behind the line of this number
abbrev pub are_behind : LockStates → ℕ → Bool
are_behind places.Nowhere number = false
are_behind (places.Behind place) number = place == number
are_behind places.Everywhere number = true

-- what is told of the locks behind the line of this number
abbrev pub IsStateBehind : LockStates → ℕ → (ℕ → FileLocks) → List ℕ → Type 0
IsStateBehind states number locks text = MatchBool (are_behind states number) (IsStateText locks text) (text ≡ [])

-- the lines of what happens under these locks behind so many lines, each with what is told of the locks behind it
abbrev pub IsOrderText : LockStates → ℕ → (ℕ → FileLocks) → List FileHappening → List ℕ → Type 0
IsOrderText states number locks [] text = text ≡ []
IsOrderText states number locks (happening ∷ told) text =
    (next : ℕ → FileLocks) × MayHappen locks happening next × (state : List ℕ) × IsStateBehind states (number + 1) next state
    × (rest : List ℕ) × IsOrderText states (number + 1) next told rest × (text ≡ happening_line happening ++ state ++ rest)
