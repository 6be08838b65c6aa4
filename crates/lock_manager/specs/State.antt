-- The state of the lock manager.
use Rattle.std.specs.Prelude.{◌≡◌, ◌≤◌, ◌↔◌, IsTrue, ℕ, zero, suc, ◌==◌, if◌then◌else◌, Bool, false, Option, Some, None, List, [], ◌∷◌, ◌++◌, slice_get, unwrap_or}
use Rattle.range_core.specs.declared.Mode.{Mode}
use Rattle.range_core.specs.declared.Span.{Span}
use Rattle.lock_book.specs.declared.Owner.{Owner}
use Rattle.lock_book.specs.declared.Owner.TheVariants.{Process, Description}
use Rattle.lock_book.specs.Changes.{Change, FlockChange}
use Rattle.fd_table.specs.Descriptors.{Descriptors, opening_descriptors}
use Rattle.wait_core.specs.declared.Family.{Family}
use Rattle.wait_core.specs.declared.Family.TheVariants.{Bytes, Whole}
use Rattle.wait_core.specs.declared.Wait.{Wait}
use Rattle.wait_core.specs.declared.processes.ProcessSet.{ProcessSet}
use Rattle.wait_core.specs.Locks.{Locks, locks_in}
use Rattle.wait_core.specs.Processes.{is_member}
use Rattle.lock_manager.specs.declared.request.ProcState.{ProcState}
use Rattle.lock_manager.specs.declared.request.ProcState.TheVariants.{Unborn, Live, Waiting}
use Rattle.lock_manager.specs.declared.request.Visit.{Visit}

-- by which visit a process is in a section, if it is (this project's choice)
abbrev pub Visits : Type 0
Visits = ℕ → ℕ → Option Visit

-- all accepted changes of byte locks and of flock locks, the oldest first; the descriptors; the waits in order of arrival;
-- where each process stands; who is in which section; and which of those that live were told an error last (this project's choice)
pub record State : Type 0 where
  pub changes : List Change
  pub flock_changes : List FlockChange
  pub descriptors : Descriptors
  pub waits : List Wait
  pub states : ℕ → ProcState
  pub visits : Visits
  pub refused : ℕ → Bool

-- the locks that are held in a state (POSIX.1-2017 fcntl; flock(2))
abbrev pub locks_held : State → Locks
locks_held S = locks_in S.changes S.flock_changes

-- at the opening process 1 lives, and there is nothing else (this project's choice)
unfoldable pub opening_state : State
opening_state =
    record {
      changes = [];
      flock_changes = [];
      descriptors = opening_descriptors;
      waits = [];
      states = λ p. if p == 1 then Live else Unborn;
      visits = λ p section. None;
      refused = λ p. false;
    }

-- the process with number p stands at place p - 1
abbrev pub state_numbered : List ProcState → ℕ → ProcState
state_numbered states zero = Unborn
state_numbered states (suc place) = unwrap_or (slice_get states place) Unborn

-- the set has the processes that wait, and no other (this project's choice: there are 64 at most)
abbrev pub AreWaiting : (ℕ → ProcState) → ProcessSet → Type 0
AreWaiting states set = (p : ℕ) → p ≤ 64 → IsTrue (is_member set p) ↔ (states p ≡ Waiting)

-- the process stands so from now on, and each other one as it did
abbrev pub StandsSo : List ProcState → List ProcState → ℕ → ProcState → Type 0
StandsSo old new p state = (q : ℕ) → state_numbered new q ≡ (if q == p then state else state_numbered old q)

-- the process stands so from now on (this project's choice)
abbrev pub with_process : State → ℕ → ProcState → State
with_process S p state = record S { states = λ q. if q == p then state else S.states q }

-- the owner has this mode on each byte of the range from now on, or none
-- (POSIX.1-2017 fcntl, DESCRIPTION, F_SETLK, "the previous lock type ... shall be replaced by the new lock type")
abbrev pub with_byte_mode : State → ℕ → Owner → Span → Option Mode → State
with_byte_mode S file owner span mode =
    record S { changes = S.changes ++ record { file = file; owner = owner; span = span; mode = mode } ∷ [] }

-- the description has this flock mode on the file from now on, or none (flock(2))
abbrev pub with_flock_mode : State → ℕ → ℕ → Option Mode → State
with_flock_mode S file description mode =
    record S { flock_changes = S.flock_changes ++ record { file = file; description = description; mode = mode } ∷ [] }

-- the lock of a request of this family is set for this owner: a flock lock is always that of a description
-- (POSIX.1-2017 fcntl, DESCRIPTION, F_SETLK; flock(2))
abbrev pub with_lock_of : Family → Owner → State → Wait → State
with_lock_of Bytes owner S wait = with_byte_mode S wait.file owner wait.span (Some wait.mode)
with_lock_of Whole (Description description) S wait = with_flock_mode S wait.file description (Some wait.mode)
with_lock_of Whole (Process p) S wait = S

-- the lock that the request asks for is set (POSIX.1-2017 fcntl, DESCRIPTION, F_SETLK; flock(2))
abbrev pub with_lock : State → Wait → State
with_lock S wait = with_lock_of wait.family wait.owner S wait
