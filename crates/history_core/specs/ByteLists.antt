-- How a list of byte locks stands for each owner's mode on each byte.
use Rattle.std.specs.Prelude.{◌≡◌, ◌≢◌, ℕ, ◌+◌, ◌^◌, ◌<◌, ◌≤◌, ◌==◌, ◌&&◌, ◌⊎◌, if◌then◌else◌, Option, Some, None, List, [], ◌∷◌, All}
use Rattle.range_core.specs.declared.Mode.{Mode}
use Rattle.range_core.specs.declared.Span.{Span}
use Rattle.range_core.specs.Ranges.{Conflict, Covers, IsConstant, Modes}
use Rattle.history_core.specs.declared.byte_locks.ByteLock.{ByteLock}
use Rattle.history_core.specs.Locks.{covers}

-- the span has a byte
abbrev pub IsRange : Span → Type 0
IsRange span = span.first ≤ span.last

-- the span has a byte, and bytes of 64 bits alone
abbrev pub HasBytes : Span → Type 0
HasBytes span = (span.first ≤ span.last) × (span.last < 2 ^ 64)

-- the spans share a byte
abbrev pub Meets : Span → Span → Type 0
Meets one other = (one.first ≤ other.last) × (other.first ≤ one.last)

-- the one span lies within the other
abbrev pub Within : Span → Span → Type 0
Within one other = (other.first ≤ one.first) × (one.last ≤ other.last)

-- the mode that the first of the locks gives that the owner has on the byte
abbrev pub bytes_in : List ByteLock → ℕ → Modes
bytes_in [] owner byte = None
bytes_in (lock ∷ locks) owner byte = if (lock.owner == owner) && covers lock.span byte then Some lock.mode else bytes_in locks owner byte

-- the lock gives its owner this mode on the byte
pub record Gives (lock : ByteLock) (owner : ℕ) (byte : ℕ) (mode : Mode) : Type 0 where
  pub is_owner : lock.owner ≡ owner
  pub is_mode : lock.mode ≡ mode
  pub on : Covers lock.span byte

-- the lock, where there is one, gives its owner this mode on the byte
abbrev pub GivesSome : Option ByteLock → ℕ → ℕ → Mode → Type 0
GivesSome None owner byte mode = ⊥
GivesSome (Some lock) owner byte mode = Gives lock owner byte mode

-- each lock has a byte
abbrev pub AreRanges : List ByteLock → Type 0
AreRanges locks = All (λ lock. HasBytes lock.span) locks

-- one of the locks gives the owner this mode on the byte
abbrev pub HasByte : List ByteLock → ℕ → ℕ → Mode → Type 0
HasByte [] owner byte mode = ⊥
HasByte (lock ∷ locks) owner byte mode = Gives lock owner byte mode ⊎ HasByte locks owner byte mode

-- the lock has a byte, and its owner has its mode on each of them
pub record IsTrueOf (locks : List ByteLock) (lock : ByteLock) : Type 0 where
  pub is_range : HasBytes lock.span
  pub constant : IsConstant (bytes_in locks lock.owner) lock.span lock.mode

-- no lock hides another of its owner
abbrev pub AreTrue : List ByteLock → Type 0
AreTrue locks = All (λ lock. IsTrueOf locks lock) locks

-- the locks are of one owner and one mode, and lie side by side
pub record Touches (lock other : ByteLock) : Type 0 where
  pub one_owner : lock.owner ≡ other.owner
  pub one_mode : lock.mode ≡ other.mode
  pub beside : (lock.span.last + 1 ≡ other.span.first) ⊎ (other.span.last + 1 ≡ lock.span.first)

-- the owner has another mode, or none, on the byte before these
abbrev pub IsBoundedBefore : Modes → Mode → Span → Type 0
IsBoundedBefore modes mode span = (byte : ℕ) → byte + 1 ≡ span.first → modes byte ≢ Some mode

-- and on the byte behind these
abbrev pub IsBoundedBehind : Modes → Mode → Span → Type 0
IsBoundedBehind modes mode span = modes (span.last + 1) ≢ Some mode

-- and on both
abbrev pub IsBounded : Modes → Mode → Span → Type 0
IsBounded modes mode span = IsBoundedBefore modes mode span × IsBoundedBehind modes mode span

-- the lock is of another owner than the one that is asked for, conflicts with it, and has one of its bytes
abbrev pub IsAskedFor : ByteLock → ByteLock → Type 0
IsAskedFor lock asked =
    (lock.owner ≢ asked.owner) × Conflict lock.mode asked.mode × IsRange lock.span × IsRange asked.span × Meets lock.span asked.span
