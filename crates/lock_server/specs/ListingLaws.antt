-- Going on from behind what was told lists all, each once, in order.
use Rattle.std.specs.Prelude.{ℕ, ◌+◌, List, [], ◌∷◌, All, AllPairs, Contains}
use Rattle.lock_server.specs.declared.FlockLock.{FlockLock}
use Rattle.lock_server.specs.declared.Lock.{Lock}
use Rattle.lock_server.specs.declared.OwnerWait.{OwnerWait}
use Rattle.lock_server.specs.Listing.{EndsBefore, IsByteLock, IsEarlier, IsFirstFrom, IsFlockLock, IsInUse, IsWaitUpTo, file_place, flock_place, lock_place, wait_place}
use Rattle.lock_server.specs.States.{State}

-- the place behind another: its last number and one (this project's choice)
abbrev pub place_behind : List ℕ → List ℕ
place_behind [] = []
place_behind (n ∷ []) = (n + 1) ∷ []
place_behind (n ∷ m ∷ ms) = n ∷ place_behind (m ∷ ms)

-- these are told one after another: the first from the place on, each further one from behind the one before, until there is none
-- (this project's choice)
abbrev pub AreTold : {X : Type 0} → (X → List ℕ) → (X → Type 0) → List ℕ → List X → Type 0
AreTold place Listed from [] = EndsBefore place Listed from
AreTold place Listed from (x ∷ xs) = IsFirstFrom place Listed from x × AreTold place Listed (place_behind (place x)) xs

-- these are all that are listed from the place on, each once, in order (this project's choice)
pub record AreAll {X : Type 0} (place : X → List ℕ) (Listed : X → Type 0) (from : List ℕ) (told : List X) : Type 0 where
  pub in_order : AllPairs (λ x y. IsEarlier (place x) (place y)) told
  pub each : All (λ x. Listed x × ¬ IsEarlier (place x) from) told
  pub every : (x : X) → Listed x → ¬ IsEarlier (place x) from → Contains told x

-- in any state, whoever goes on so is told all files in use, all byte locks and flock locks of a file, and all waits of owners up to the last
-- (this project's choice)
pub record ListingsTellAll : Type 0 where
  pub files : (S : State) (from : ℕ) (told : List ℕ) → AreTold file_place (IsInUse S) (from ∷ []) told
      → AreAll file_place (IsInUse S) (from ∷ []) told
  pub locks : (S : State) (file owner first : ℕ) (told : List Lock) → AreTold lock_place (IsByteLock (S.files file)) (owner ∷ first ∷ []) told
      → AreAll lock_place (IsByteLock (S.files file)) (owner ∷ first ∷ []) told
  pub flocks : (S : State) (file from : ℕ) (told : List FlockLock) → AreTold flock_place (IsFlockLock (S.files file)) (from ∷ []) told
      → AreAll flock_place (IsFlockLock (S.files file)) (from ∷ []) told
  pub waits : (S : State) (last : ℕ) (from : OwnerWait) (told : List OwnerWait) → AreTold wait_place (IsWaitUpTo S last) (wait_place from) told
      → AreAll wait_place (IsWaitUpTo S last) (wait_place from) told
