-- Who has something on which file.
use Rattle.std.specs.Prelude.{◌≡◌, ◌≢◌, ℕ, All, Option, None, List}
use Rattle.wait_core.specs.declared.Policy.{Policy}
use Rattle.lock_server.specs.declared.Pending.{Pending}
use Rattle.lock_server.specs.Files.{FileState}
use Rattle.lock_server.specs.Calls.{ForgetsOn}
use Rattle.lock_server.specs.States.{SettlesFile, State}

-- the owner has no lock on the file (this project's choice)
pub record HasNoLock (F : FileState) (owner : ℕ) : Type 0 where
  pub bytes : (byte : ℕ) → F.bytes owner byte ≡ None
  pub flocks : F.flocks owner ≡ None

-- no wait among these is the owner's (this project's choice)
abbrev pub AreOfOthers : List Pending → ℕ → Type 0
AreOfOthers waits owner = All (λ wait. wait.owner ≢ owner) waits

-- the owner has neither a lock nor a wait on the file (this project's choice)
pub record HasNothing (F : FileState) (owner : ℕ) : Type 0 where
  pub lock : HasNoLock F owner
  pub waits : AreOfOthers F.waits owner

-- and isn't noted there, where each owner was seen through these open files (this project's choice)
pub record IsGone (S : State) (through : ℕ → ℕ → Option ℕ) (owner file : ℕ) : Type 0 where
  pub nothing : HasNothing (S.files file) owner
  pub unseen : through file owner ≡ None

-- the owner's byte locks and its waits for byte locks leave the file, which is then settled (this project's choice)
pub record ForgetsThere (policy : Policy) (S : State) (file owner : ℕ) (T : State) : Type 0 where
  pub between : State
  pub forgets : ForgetsOn S file owner between
  pub settles : SettlesFile policy between file T
