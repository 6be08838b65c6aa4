-- What the owners with detected waits stand for (the words are this project's choice).
use Rattle.std.specs.Prelude.{◌≡◌, ◌≢◌, ℕ, ◌==◌, ◌<◌, ◌+◌, Bool, true, false, Option, Some, None, List, [], ◌∷◌, ◌++◌, count_by, vec_len, vec_capacity}
use Rattle.std.specs.BTreeMap.{get}
use Rattle.std.specs.Ordering.{nat_cmp}
use Rattle.range_core.specs.declared.Mode.{Mode}
use Rattle.lock_server.specs.declared.waiters.Waiter.{Waiter}
use Rattle.lock_server.specs.declared.waiters.Waiters.{Waiters}

-- the entry of the owner
unfoldable pub waiter_of : Waiters → ℕ → Option Waiter
waiter_of waiters owner = get nat_cmp waiters.owners owner

-- the files in an entry, and none without one
abbrev pub files_in : Option Waiter → List ℕ
files_in None = []
files_in (Some waiter) = waiter.files.items

-- whether the owner of an entry was given a lock while it waited
abbrev pub crossed_in : Option Waiter → Bool
crossed_in None = false
crossed_in (Some waiter) = waiter.crossed

-- the file of each detected wait of the owner
unfoldable pub files_of : Waiters → ℕ → List ℕ
files_of waiters owner = files_in (waiter_of waiters owner)

-- whether a lock was given to the owner while a detected wait of it was pending
unfoldable pub crossed_of : Waiters → ℕ → Bool
crossed_of waiters owner = crossed_in (waiter_of waiters owner)

-- on how many places of the list the file stands
abbrev pub times : ℕ → List ℕ → ℕ
times file files = count_by (λ other. other == file) files

-- the two stand for the same
pub record SameWaiters (old new : Waiters) : Type 0 where
  pub files : (owner : ℕ) → files_of new owner ≡ files_of old owner
  pub crossed : (owner : ℕ) → crossed_of new owner ≡ crossed_of old owner

-- there is an entry of the owner, with room for one file more
pub record HasWaiterRoom (waiters : Waiters) (owner : ℕ) : Type 0 where
  pub waiter : Waiter
  pub is : waiter_of waiters owner ≡ Some waiter
  pub room : vec_len waiter.files < vec_capacity waiter.files

-- the owner has one detected wait more, on the file
pub record Begins (old new : Waiters) (owner file : ℕ) : Type 0 where
  pub files : files_of new owner ≡ files_of old owner ++ file ∷ []
  pub others : (other : ℕ) → other ≢ owner → files_of new other ≡ files_of old other
  pub crossed : (other : ℕ) → crossed_of new other ≡ crossed_of old other

-- an entry with one place of the file less, if there was one
pub record LeavesFile (old new : Waiter) (file : ℕ) : Type 0 where
  pub on_file : times file old.files.items ≢ 0 → times file new.files.items + 1 ≡ times file old.files.items
  pub elsewhere : (other : ℕ) → other ≢ file → times other new.files.items ≡ times other old.files.items
  pub crossed : new.crossed ≡ old.crossed

-- all stand for the same, but that the owner isn't crossed where it has no detected wait
pub record Sweeps (old new : Waiters) (owner : ℕ) : Type 0 where
  pub files : (other : ℕ) → files_of new other ≡ files_of old other
  pub others : (other : ℕ) → other ≢ owner → crossed_of new other ≡ crossed_of old other
  pub still : files_of old owner ≢ [] → crossed_of new owner ≡ crossed_of old owner
  pub none : files_of old owner ≡ [] → crossed_of new owner ≡ false

-- the owner has one detected wait less on the file, and without any it isn't crossed
pub record Ends (old new : Waiters) (owner file : ℕ) : Type 0 where
  pub others : (other : ℕ) → other ≢ owner → files_of new other ≡ files_of old other
  pub on_file : times file (files_of old owner) ≢ 0 → times file (files_of new owner) + 1 ≡ times file (files_of old owner)
  pub elsewhere : (other : ℕ) → other ≢ file → times other (files_of new owner) ≡ times other (files_of old owner)
  pub crossed : (other : ℕ) → other ≢ owner → crossed_of new other ≡ crossed_of old other
  pub still : files_of new owner ≢ [] → crossed_of new owner ≡ crossed_of old owner
  pub none : files_of new owner ≡ [] → crossed_of new owner ≡ false

-- the owner is crossed, where it has a detected wait
pub record Crosses (old new : Waiters) (owner : ℕ) : Type 0 where
  pub files : (other : ℕ) → files_of new other ≡ files_of old other
  pub others : (other : ℕ) → other ≢ owner → crossed_of new other ≡ crossed_of old other
  pub without : files_of old owner ≡ [] → crossed_of new owner ≡ crossed_of old owner
  pub with_one : files_of old owner ≢ [] → crossed_of new owner ≡ true

-- there is room for a detected wait of the owner, if it is to be one
abbrev pub HasRoomIf : Bool → Waiters → ℕ → Type 0
HasRoomIf false waiters owner = Unit {0}
HasRoomIf true waiters owner = HasWaiterRoom waiters owner

-- the owner has one wait more on the file: it is noted if it is detected
abbrev pub BeginsIf : Bool → Waiters → Waiters → ℕ → ℕ → Type 0
BeginsIf false old new owner file = SameWaiters old new
BeginsIf true old new owner file = Begins old new owner file

-- the owner has one wait less on the file: it was noted if it is detected
abbrev pub EndsIf : Bool → Waiters → Waiters → ℕ → ℕ → Type 0
EndsIf false old new owner file = SameWaiters old new
EndsIf true old new owner file = Ends old new owner file

-- the owner is crossed if it is given a lock of some mode
abbrev pub CrossesIf : Option Mode → Waiters → Waiters → ℕ → Type 0
CrossesIf None old new owner = SameWaiters old new
CrossesIf (Some mode) old new owner = Crosses old new owner
