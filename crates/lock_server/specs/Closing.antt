-- The last close of an open file that names no owner of byte locks (FUSE, release): a relation of the state before it and after it.
use Rattle.std.specs.Prelude.{◌≡◌, ℕ, if◌then◌else◌, Bool, Option, None, []}
use Rattle.wait_core.specs.declared.Policy.{Policy}
use Rattle.lock_server.specs.Files.{FileState}
use Rattle.lock_server.specs.Openings.{is_number}
use Rattle.lock_server.specs.States.{State, ChangesFile, SettlesFile}

-- whether this is an owner that was last seen through the open file, where each owner was seen so
abbrev pub is_through : (ℕ → Option ℕ) → ℕ → ℕ → Bool
is_through through open_file owner = is_number open_file (through owner)

-- the byte locks of just these owners go, and the flock lock of this one, if any; all other locks stay
-- (fcntl_locking(2), open file description locks, "last close"; flock(2))
pub record ClosesFile (F : FileState) (gone : ℕ → Bool) (flock_owner : Option ℕ) (G : FileState) : Type 0 where
  pub bytes : (other byte : ℕ) → G.bytes other byte ≡ (if gone other then None else F.bytes other byte)
  pub flocks : (other : ℕ) → G.flocks other ≡ (if is_number other flock_owner then None else F.flocks other)

-- the same of one file of a state: its waits stay, and none is granted yet (this project's choice)
pub record ClosesOn (S : State) (file : ℕ) (gone : ℕ → Bool) (flock_owner : Option ℕ) (T : State) : Type 0 where
  pub closes : ClosesFile (S.files file) gone flock_owner (T.files file)
  pub waits : (T.files file).waits ≡ (S.files file).waits
  pub changes : ChangesFile S file [] T

-- a last close: the byte locks of just the owners that were last seen on the file through the open file go, and the flock lock of
-- this owner, if any; then the file is settled (fcntl_locking(2), open file description locks; flock(2); FUSE, release)
pub record Closes (policy : Policy) (S : State) (through : ℕ → ℕ → Option ℕ) (file open_file : ℕ) (flock_owner : Option ℕ) (T : State) : Type 0 where
  pub between : State
  pub closes : ClosesOn S file (is_through (through file) open_file) flock_owner between
  pub settles : SettlesFile policy between file T
