-- Owners that are gathered in a search for deadlocks (the words are this project's choice).
use Rattle.std.specs.Prelude.{◌≡◌, ◌≢◌, ℕ, ◌<◌, ◌≤◌, ◌⊎◌, IsTrue, Some, List, [], ◌∷◌, ◌++◌, Contains, slice_get}
use Rattle.range_core.specs.declared.Mode.{Mode}
use Rattle.range_core.specs.declared.Span.{Span}
use Rattle.range_core.specs.Ranges.{Covers, HeldConflicts}
use Rattle.wait_core.specs.declared.Policy.{Policy}
use Rattle.lock_server.specs.declared.Pending.{Pending}
use Rattle.lock_server.specs.declared.waiters.Waiters.{Waiters}
use Rattle.lock_server.specs.Deadlock.{LeadsTo}
use Rattle.lock_server.specs.Files.{FileState}
use Rattle.lock_server.specs.States.{State}
use Rattle.lock_server.specs.WaitersView.{files_of}

-- on some byte of the range this owner, another one, has a lock that conflicts with the wanted mode
pub record BlocksOn (F : FileState) (owner : ℕ) (span : Span) (wanted : Mode) (other : ℕ) : Type 0 where
  pub byte : ℕ
  pub covered : Covers span byte
  pub another : other ≢ owner
  pub conflicts : HeldConflicts (F.bytes other byte) wanted

-- and that on a byte before this one
pub record BlocksBefore (F : FileState) (owner : ℕ) (span : Span) (wanted : Mode) (end other : ℕ) : Type 0 where
  pub byte : ℕ
  pub covered : Covers span byte
  pub before : byte < end
  pub another : other ≢ owner
  pub conflicts : HeldConflicts (F.bytes other byte) wanted

-- this owner, another one, has a flock lock that conflicts with the wanted mode
pub record IsFlockHolder (F : FileState) (owner : ℕ) (wanted : Mode) (other : ℕ) : Type 0 where
  pub another : other ≢ owner
  pub conflicts : HeldConflicts (F.flocks other) wanted

-- new has the owners of old and those of which this holds, and no others
pub record AddsOwners (old new : List ℕ) (Added : ℕ → Type 0) : Type 0 where
  pub kept : (other : ℕ) → Contains old other → Contains new other
  pub added : (other : ℕ) → Added other → Contains new other
  pub only : (other : ℕ) → Contains new other → Contains old other ⊎ Added other

-- the owner is put behind the others, or is among them already
abbrev pub AddsOnce : List ℕ → List ℕ → ℕ → Type 0
AddsOnce old new owner = (new ≡ old ++ owner ∷ []) ⊎ ((new ≡ old) × Contains old owner)

-- the owner is the one that is looked for, or has a detected wait
abbrev pub IsGoingOn : Waiters → ℕ → ℕ → Type 0
IsGoingOn waiters target owner = (owner ≡ target) ⊎ (files_of waiters owner ≢ [])

-- new has old in front, and has the owners of old and of these those that are looked for or have a detected wait
pub record AddsGoingOn (waiters : Waiters) (target : ℕ) (Added : ℕ → Type 0) (old new : List ℕ) : Type 0 where
  pub more : List ℕ
  pub is : new ≡ old ++ more
  pub adds : AddsOwners old new (λ other. Added other × IsGoingOn waiters target other)

-- the wait at this place is a detected one of the owner, where there is one
abbrev pub IsDetectedAt : List Pending → ℕ → ℕ → Type 0
IsDetectedAt waits owner place = (wait : Pending) × (slice_get waits place ≡ Some wait) × IsTrue wait.detect × (wait.owner ≡ owner)

-- the first detected wait of the owner from a place on is at this one
pub record IsNextDetected (waits : List Pending) (owner from place : ℕ) : Type 0 where
  pub at_or_behind : from ≤ place
  pub is : IsDetectedAt waits owner place
  pub first : (earlier : ℕ) → from ≤ earlier → earlier < place → ¬ IsDetectedAt waits owner earlier

-- there is none from the place on
abbrev pub IsNoneDetected : List Pending → ℕ → ℕ → Type 0
IsNoneDetected waits owner from = (place : ℕ) → from ≤ place → ¬ IsDetectedAt waits owner place

-- the owner is another one, or is led to it
abbrev pub IsOrLeadsTo : Policy → State → ℕ → ℕ → Type 0
IsOrLeadsTo policy S one other = (one ≡ other) ⊎ LeadsTo policy S one other

-- some of these owners is that one, or is led to it
pub record SomeLeadsTo (policy : Policy) (S : State) (owners : List ℕ) (target : ℕ) : Type 0 where
  pub owner : ℕ
  pub among : Contains owners owner
  pub leads : IsOrLeadsTo policy S owner target
