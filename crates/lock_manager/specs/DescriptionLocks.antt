-- Which descriptions may hold locks or wait for them, and on which file.
use Rattle.std.specs.Prelude.{◌≡◌, ℕ, ◌<◌, ⊤, Some, None, List, All, option_map}
use Rattle.range_core.specs.declared.TheConstants.{OFFMAX}
use Rattle.lock_book.specs.declared.Owner.{Owner}
use Rattle.lock_book.specs.declared.Owner.TheVariants.{Process, Description}
use Rattle.fd_table.specs.declared.tables.Tables.{Tables}
use Rattle.fd_table.specs.Descriptors.{Descriptors, IsOpen, description_numbered}
use Rattle.fd_table.specs.TablesView.{StandFor}
use Rattle.wait_core.specs.declared.Wait.{Wait}
use Rattle.wait_core.specs.Locks.{Locks}

-- some descriptor refers to the description, which is of this file (POSIX.1-2017 open, DESCRIPTION)
pub record IsOpenOn (descriptors : Descriptors) (file description : ℕ) : Type 0 where
  pub is_open : IsOpen descriptors description
  pub of_file : option_map (λ opened. opened.file) (description_numbered descriptors.descriptions description) ≡ Some file

-- a description has no lock on a file but its own, and there only while some descriptor refers to it
-- (fcntl_locking(2), "Open file description locks"; flock(2))
pub record AreOfOpenDescriptions (descriptors : Descriptors) (locks : Locks) : Type 0 where
  pub bytes : (file description : ℕ) → ¬ IsOpenOn descriptors file description → (byte : ℕ) → locks.bytes file (Description description) byte ≡ None
  pub flocks : (file description : ℕ) → ¬ IsOpenOn descriptors file description → locks.flocks file description ≡ None

-- a descriptor of this process refers to the description, which is of this file (POSIX.1-2017 open, DESCRIPTION)
pub record HasOpenOn (descriptors : Descriptors) (p file description : ℕ) : Type 0 where
  pub fd : ℕ
  pub refers : descriptors.description_of p fd ≡ Some description
  pub of_file : option_map (λ opened. opened.file) (description_numbered descriptors.descriptions description) ≡ Some file

-- the owner is the process of the wait, or a description that this process has open on the file of the wait
-- (POSIX.1-2017 fcntl, DESCRIPTION, F_SETLKW; fcntl_locking(2), F_OFD_SETLKW; flock(2))
abbrev pub MayWaitAs : Descriptors → Wait → Owner → Type 0
MayWaitAs descriptors wait (Process q) = q ≡ wait.p
MayWaitAs descriptors wait (Description d) = HasOpenOn descriptors wait.p wait.file d

-- each wait is for a lock of its process, or of a description that this process has open
abbrev pub AreOfHolders : Descriptors → List Wait → Type 0
AreOfHolders descriptors waits = All (λ wait. MayWaitAs descriptors wait wait.owner) waits

-- for some descriptors that the tables stand for, the locks of descriptions are of open ones, and each wait is for a lock of its
-- process or of a description that this process has open
abbrev pub AreOwned : Tables → Locks → List Wait → Type 0
AreOwned tables locks waits =
    ∥ ((descriptors : Descriptors) × StandFor tables descriptors × AreOfOpenDescriptions descriptors locks × AreOfHolders descriptors waits) ∥₁

-- no owner has a lock past the largest offset (POSIX.1-2017 fcntl, DESCRIPTION, l_len)
abbrev pub AreWithinFiles : Locks → Type 0
AreWithinFiles locks = (file : ℕ) (owner : Owner) (byte : ℕ) → OFFMAX < byte → locks.bytes file owner byte ≡ None

-- the owner may have a lock on the file: a process, or a description that is open there
-- (POSIX.1-2017 fcntl, DESCRIPTION, F_SETLK; fcntl_locking(2), "Open file description locks")
abbrev pub MayLock : Tables → ℕ → Owner → Type 0
MayLock tables file (Process p) = ⊤
MayLock tables file (Description d) = (descriptors : Descriptors) → StandFor tables descriptors → ∥ IsOpenOn descriptors file d ∥₁

-- the process may wait for a lock of the owner on the file: its own, or that of a description that it has open there
-- (POSIX.1-2017 fcntl, DESCRIPTION, F_SETLKW; fcntl_locking(2), F_OFD_SETLKW)
abbrev pub MayWait : Tables → ℕ → ℕ → Owner → Type 0
MayWait tables p file (Process q) = q ≡ p
MayWait tables p file (Description d) = (descriptors : Descriptors) → StandFor tables descriptors → HasOpenOn descriptors p file d
