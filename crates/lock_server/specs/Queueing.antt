-- That the queue policy keeps the order of arrival.
use Rattle.std.specs.Prelude.{◌≡◌, ℕ, Any, List, ◌∷◌, ◌++◌}
use Rattle.wait_core.specs.declared.Policy.TheVariants.{Queue}
use Rattle.lock_server.specs.declared.Pending.{Pending}
use Rattle.lock_server.specs.declared.WaitAnswer.TheVariants.{Done}
use Rattle.lock_server.specs.declared.server.LockServer.{LockServer}
use Rattle.lock_server.specs.Calls.{WaitAtOnceComesTo, WaitComesTo}
use Rattle.lock_server.specs.Files.{FileState}
use Rattle.lock_server.specs.Settling.{Grants, HasAlready, PendingsConflict}
use Rattle.lock_server.specs.ServerView.{state_of}
use Rattle.lock_server.specs.States.{State}

-- under the queue policy a request that may wait, or a wait, sets its lock before an earlier wait that conflicts with it only where its
-- owner had it already, of an atomic conversion the lock before it; and between two calls no wait is for what its owner has
-- (this project's choice)
pub record QueueIsKept : Type 0 where
  pub requests : (S : State) (file : ℕ) (wanted : Pending) (T : State) → WaitComesTo Queue S file wanted Done T
      → Any (λ v. PendingsConflict v wanted) (S.files file).waits → HasAlready (S.files file) wanted
  pub conversions : (S between : State) (file : ℕ) (wanted : Pending) (T : State)
      → WaitAtOnceComesTo Queue (HasAlready (S.files file) wanted) between file wanted Done T
      → Any (λ v. PendingsConflict v wanted) (between.files file).waits → HasAlready (S.files file) wanted
  pub waits : (F : FileState) (wait : Pending) (G : FileState) (grants : Grants Queue F wait G)
      → Any (λ v. PendingsConflict v wait) grants.before → HasAlready F wait
  pub lacks : (server : LockServer) (file : ℕ) (before : List Pending) (wait : Pending) (after : List Pending)
      → ((state_of server).files file).waits ≡ before ++ wait ∷ after → ¬ HasAlready ((state_of server).files file) wait
