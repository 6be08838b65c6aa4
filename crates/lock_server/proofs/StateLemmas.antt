-- States that are the same at each place are one state: for `Table::cancel`, `LockServer::flock_or_wait`, `Table::settle` and `LockServer::wait`.
use Rattle.lock_server.proofs.Common.{arith, ◌≡◌, refl, common_steps, FileState, SameLocks, SameFile, State, SameState}

-- the functions of a record are equal where their values are
pub file_from_same : (F G : FileState) → SameFile F G → G ≡ F
file_from_same F G same i = record {
  bytes = λ owner byte. same.locks.bytes owner byte i;
  flocks = λ owner. same.locks.flocks owner i;
  waits = same.waits i;
}

pub state_from_same : (S T : State) → SameState S T → T ≡ S
state_from_same S T same i = record {
  files = λ file. file_from_same (S.files file) (T.files file) (same.files file) i;
  grants = same.grants i;
  crossed = λ owner. same.crossed owner i;
}

pub SameLocks-itself : (F : FileState) → SameLocks F F
SameLocks-itself F = record { bytes = λ owner byte. refl; flocks = λ owner. refl }

pub SameFile-itself : (F : FileState) → SameFile F F
SameFile-itself F = record { locks = SameLocks-itself F; waits = refl }

pub SameFile-then : (F G H : FileState) → SameFile F G → SameFile G H → SameFile F H
SameFile-then F G H one other = grind (arith, common_steps)

pub SameState-itself : (S : State) → SameState S S
SameState-itself S = record { files = λ file. SameFile-itself (S.files file); grants = refl; crossed = λ owner. refl }
