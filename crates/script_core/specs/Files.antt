-- On which files locks are waited for.
use Rattle.std.specs.Prelude.{◌<◌, All}
use Rattle.fd_table.specs.declared.TheConstants.{FILES}
use Rattle.lock_manager.specs.State.{State}

-- each description that was made is of one of the files, and so is each wait (this project's choice)
pub record IsWithinFiles (S : State) : Type 0 where
  pub descriptions : All (λ opened. opened.file < FILES) S.descriptors.descriptions
  pub waits : All (λ wait. wait.file < FILES) S.waits
