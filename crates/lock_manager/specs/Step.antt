-- One event: a request of a live process, with all that it causes.
use Rattle.std.specs.Prelude.{◌≡◌, ℕ, List, [], ◌++◌}
use Rattle.lock_manager.specs.declared.request.Rules.{Rules}
use Rattle.lock_manager.specs.declared.request.Request.{Request}
use Rattle.lock_manager.specs.declared.request.Request.TheVariants.{OpenFile, Dup, DupTo, CloseFd, Seek, Resize, Lk, Flock, Fork, Exit, Signal, Kill, Enter, Leave, Bail}
use Rattle.lock_manager.specs.declared.request.Note.{Note}
use Rattle.lock_manager.specs.declared.request.ProcState.TheVariants.{Live}
use Rattle.lock_manager.specs.State.{State}
use Rattle.lock_manager.specs.Settling.{Settles}
use Rattle.lock_manager.specs.Outcomes.{Outcome}
use Rattle.lock_manager.specs.DescriptorCalls.{OpenComesTo, DupComesTo, DupToComesTo, CloseComesTo, SeekComesTo, ResizeComesTo}
use Rattle.lock_manager.specs.LockCommands.{LockComesTo}
use Rattle.lock_manager.specs.FlockCalls.{FlockComesTo}
use Rattle.lock_manager.specs.ProcessCalls.{ForkComesTo, EndComesTo, SignalComesTo, KillComesTo}
use Rattle.lock_manager.specs.Sections.{EnterComesTo, LeaveComesTo, BailComesTo, marked}

-- what the request number n of process p, one of so many, comes to before the waits are settled
-- (POSIX.1-2017 open, dup, close, lseek, ftruncate, fcntl, fork, _Exit and kill; fcntl_locking(2); flock(2); for sections this project's choice)
abbrev pub ComesTo : Rules → ℕ → State → ℕ → ℕ → Request → Outcome → Type 0
ComesTo rules processes S p n (OpenFile file access) outcome = OpenComesTo rules S p n file access outcome
ComesTo rules processes S p n (Dup fd) outcome = DupComesTo rules S p n fd outcome
ComesTo rules processes S p n (DupTo fd to) outcome = DupToComesTo rules S p n fd to outcome
ComesTo rules processes S p n (CloseFd fd) outcome = CloseComesTo S p n fd outcome
ComesTo rules processes S p n (Seek fd offset) outcome = SeekComesTo S p n fd offset outcome
ComesTo rules processes S p n (Resize fd size) outcome = ResizeComesTo S p n fd size outcome
ComesTo rules processes S p n (Lk fd cmd lock) outcome = LockComesTo rules S p n fd cmd lock outcome
ComesTo rules processes S p n (Flock fd op nb) outcome = FlockComesTo rules S p n fd op nb outcome
ComesTo rules processes S p n (Fork child) outcome = ForkComesTo processes S p n child outcome
ComesTo rules processes S p n Exit outcome = EndComesTo S p [] outcome
ComesTo rules processes S p n (Signal target) outcome = SignalComesTo S p n target (S.states target) outcome
ComesTo rules processes S p n (Kill target) outcome = KillComesTo S p n target outcome
ComesTo rules processes S p n (Enter section visit) outcome = EnterComesTo S p n section outcome
ComesTo rules processes S p n (Leave section) outcome = LeaveComesTo S p n section outcome
ComesTo rules processes S p n Bail outcome = BailComesTo S p n outcome

-- from the state S, where process p is live, its request number n makes these notes and leaves the state T: what the
-- request comes to, with who is in which section and was refused, and then the grants of the settling with which each event ends
-- (this project's choice)
pub record Step (rules : Rules) (processes : ℕ) (S : State) (p n : ℕ) (request : Request) (notes : List Note) (T : State) : Type 0 where
  pub live : S.states p ≡ Live
  pub outcome : Outcome
  pub comes_to : ComesTo rules processes S p n request outcome
  pub grants : List Note
  pub settles : Settles rules.policy (marked S p request outcome) grants T
  pub are_notes : notes ≡ outcome.told ++ grants
