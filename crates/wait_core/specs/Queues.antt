-- What `Queues` stands for (the words are this project's choice).
use Rattle.std.specs.Prelude.{◌≡◌, ℕ, ◌==◌, if◌then◌else◌, not, Option, None, List, [], ◌∷◌, filter}
use Rattle.std.proofs.Props.{props}
use Rattle.wait_core.specs.declared.Wait.{Wait}
use Rattle.wait_core.specs.declared.queues.Queues.{Queues}
use Rattle.wait_core.specs.Links.{Lead, Lead-prop, Links, first_process, row_at}

-- the process of the latest wait on the file, where there is one
unfoldable pub latest_on : Queues → ℕ → Option ℕ
latest_on queues file = row_at queues.latest.items file

-- the links of all processes
unfoldable pub links_in : Queues → Links
links_in queues = record { waits = row_at queues.waits.items; before = row_at queues.before.items; after = row_at queues.after.items }

-- the queue of each file has these waits, the latest first
pub record AreQueues (queues : Queues) (waits : ℕ → List Wait) : Type 0 where
  pub latest : (file : ℕ) → latest_on queues file ≡ first_process (waits file)
  pub lead : (file : ℕ) → Lead (links_in queues) file None (waits file)

pub AreQueues-prop : (queues : Queues) (waits : ℕ → List Wait) → IsProp (AreQueues queues waits)
AreQueues-prop queues waits = hlevel (props, Lead-prop)

-- the waits on each file after this one has joined
abbrev pub with_wait : (ℕ → List Wait) → Wait → ℕ → List Wait
with_wait waits wait file = if wait.file == file then wait ∷ waits file else waits file

-- the waits on each file after that of the process has left
abbrev pub without_wait : (ℕ → List Wait) → ℕ → ℕ → List Wait
without_wait waits p file = filter (λ wait. not (wait.p == p)) (waits file)

-- those of the waits that are on the file, the latest first, before these
abbrev pub waits_onto : ℕ → List Wait → List Wait → List Wait
waits_onto file earlier [] = earlier
waits_onto file earlier (wait ∷ waits) = waits_onto file (if wait.file == file then wait ∷ earlier else earlier) waits

-- those of the waits, in order of arrival, that are on each file, the latest first
abbrev pub waits_on : List Wait → ℕ → List Wait
waits_on waits file = waits_onto file [] waits
