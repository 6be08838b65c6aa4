-- Clients that are gone, files that are gone, and what clients have. A client is a range of owner numbers, from first to last, both among
-- them; where first is above last it is nobody.
use Rattle.std.specs.Prelude.{◌≡◌, ◌≢◌, ℕ, zero, suc, ◌≤◌, nat_le, ◌⊎◌, ◌&&◌, if◌then◌else◌, not, Bool, IsTrue, Option, Some, None, [], filter}
use Rattle.range_core.specs.declared.Mode.{Mode}
use Rattle.wait_core.specs.declared.Policy.{Policy}
use Rattle.lock_server.specs.Files.{FileState, SameFile, untouched}
use Rattle.lock_server.specs.Settling.{IsSettled}
use Rattle.lock_server.specs.States.{State, SameState, ChangesFile, Crosses, SettlesFile}

-- whether the owner is one from first to last (this project's choice)
abbrev pub is_within : ℕ → ℕ → ℕ → Bool
is_within first last owner = nat_le first owner && nat_le owner last

-- these owners have no byte lock on the file, and all other locks stay (POSIX.1-2017 close; fcntl_locking(2))
pub record StripsBytes (F : FileState) (gone : ℕ → Bool) (G : FileState) : Type 0 where
  pub bytes : (other byte : ℕ) → G.bytes other byte ≡ (if gone other then None else F.bytes other byte)
  pub flocks : (other : ℕ) → G.flocks other ≡ F.flocks other

-- these owners have no flock lock on the file, and all other locks stay (flock(2))
pub record StripsFlocks (F : FileState) (gone : ℕ → Bool) (G : FileState) : Type 0 where
  pub bytes : (other byte : ℕ) → G.bytes other byte ≡ F.bytes other byte
  pub flocks : (other : ℕ) → G.flocks other ≡ (if gone other then None else F.flocks other)

-- these owners have no lock on the file, and all other locks stay (POSIX.1-2017 close; fcntl_locking(2); flock(2))
pub record StripsLocks (F : FileState) (gone : ℕ → Bool) (G : FileState) : Type 0 where
  pub bytes : (other byte : ℕ) → G.bytes other byte ≡ (if gone other then None else F.bytes other byte)
  pub flocks : (other : ℕ) → G.flocks other ≡ (if gone other then None else F.flocks other)

-- these owners have neither a lock nor a wait on the file, and all others have what they had (POSIX.1-2017 _Exit; flock(2))
pub record StripsFile (F : FileState) (gone : ℕ → Bool) (G : FileState) : Type 0 where
  pub locks : StripsLocks F gone G
  pub waits : G.waits ≡ filter (λ wait. not (gone wait.owner)) F.waits

-- the same of one file of a state, and no wait is granted yet (this project's choice)
pub record StripsOn (S : State) (file : ℕ) (gone : ℕ → Bool) (T : State) : Type 0 where
  pub strips : StripsFile (S.files file) gone (T.files file)
  pub changes : ChangesFile S file [] T

-- the same of all files, and no wait is granted yet; an owner whose detected waits are gone isn't crossed (this project's choice)
pub record Strips (S : State) (gone : ℕ → Bool) (T : State) : Type 0 where
  pub files : (file : ℕ) → StripsFile (S.files file) gone (T.files file)
  pub grants : T.grants ≡ S.grants
  pub crossed : Crosses S [] T

-- the files below this number are settled, one after another, the least first (this project's choice)
abbrev pub SettlesBelow : Policy → ℕ → State → State → Type 0
SettlesBelow policy zero S T = SameState S T
SettlesBelow policy (suc file) S T = (before : State) × SettlesBelow policy file S before × SettlesFile policy before file T

-- each file is settled, the least first; from some number on none of them has a wait that can be granted (this project's choice)
pub record SettlesAll (policy : Policy) (S T : State) : Type 0 where
  pub bound : ℕ
  pub beyond : (file : ℕ) → bound ≤ file → IsSettled policy (S.files file)
  pub settles : SettlesBelow policy bound S T

-- a client that is gone: the locks and waits of its owners leave all files, and then each file is settled, the least first; where nothing
-- left a file, that changes nothing (POSIX.1-2017 _Exit, "Consequences of Process Termination"; flock(2); the order is this project's choice)
pub record ForgetsOwners (policy : Policy) (S : State) (first last : ℕ) (T : State) : Type 0 where
  pub between : State
  pub strips : Strips S (is_within first last) between
  pub settles : SettlesAll policy between T

-- a file that is gone: it has neither a lock nor a wait, all other files have what they had, and no wait is granted
-- (this project's choice)
pub record ForgetsFile (S : State) (file : ℕ) (T : State) : Type 0 where
  pub nothing : SameFile untouched (T.files file)
  pub changes : ChangesFile S file [] T

-- of these owners none is seen on a file any more, and all others through theirs (this project's choice)
pub record ForgetsSeen (old new : ℕ → ℕ → Option ℕ) (gone : ℕ → Bool) : Type 0 where
  pub through : (file owner : ℕ) → new file owner ≡ (if gone owner then None else old file owner)

-- on the file no owner is seen any more, and on all others each through its own (this project's choice)
pub record ForgetsSeenOn (old new : ℕ → ℕ → Option ℕ) (file : ℕ) : Type 0 where
  pub here : (owner : ℕ) → new file owner ≡ None
  pub elsewhere : (other owner : ℕ) → other ≢ file → new other owner ≡ old other owner

-- the owner has a byte lock on the file (POSIX.1-2017 fcntl, DESCRIPTION, F_SETLK)
pub record HasByteLock (F : FileState) (owner : ℕ) : Type 0 where
  pub byte : ℕ
  pub mode : Mode
  pub is : F.bytes owner byte ≡ Some mode

-- the owner has a flock lock on the file (flock(2))
pub record HasFlockLock (F : FileState) (owner : ℕ) : Type 0 where
  pub mode : Mode
  pub is : F.flocks owner ≡ Some mode

-- one of the owners from first to last has a byte lock or a flock lock on the file (this project's choice)
pub record HaveLocksOn (F : FileState) (first last : ℕ) : Type 0 where
  pub owner : ℕ
  pub within : IsTrue (is_within first last owner)
  pub has : HasByteLock F owner ⊎ HasFlockLock F owner

-- and on some file (this project's choice)
pub record HaveLocks (S : State) (first last : ℕ) : Type 0 where
  pub file : ℕ
  pub on_file : HaveLocksOn (S.files file) first last
