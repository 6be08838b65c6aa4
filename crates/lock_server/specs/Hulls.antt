-- Within which numbers waits lie (the words are this project's choice).
use Rattle.std.specs.Prelude.{◌≡◌, ℕ, ◌≤◌, true, List}
use Rattle.std.specs.List.{AllByRecursion}
use Rattle.wait_core.specs.declared.Family.{Family}
use Rattle.wait_core.specs.declared.Family.TheVariants.{Bytes, Whole}
use Rattle.lock_server.specs.declared.Pending.{Pending}
use Rattle.lock_server.specs.declared.hull.Between.{Between}
use Rattle.lock_server.specs.declared.hull.Hull.{Hull}

-- the numbers from the one to the other lie within these
pub record Holds (between : Between) (from to : ℕ) : Type 0 where
  pub least : between.least ≤ from
  pub greatest : to ≤ between.greatest

-- a wait for byte locks has its bytes there; one for a flock lock is told of
abbrev pub LiesIn : Family → Hull → Pending → Type 0
LiesIn Bytes hull wait = Holds hull.bytes wait.span.first wait.span.last
LiesIn Whole hull wait = hull.whole ≡ true

-- the wait lies within them: its ticket, its owner and its bytes
pub record IsWithin (hull : Hull) (wait : Pending) : Type 0 where
  pub ticket : Holds hull.tickets wait.ticket wait.ticket
  pub owner : Holds hull.owners wait.owner wait.owner
  pub lies : LiesIn wait.family hull wait

-- each of the waits does
abbrev pub AreWithin : Hull → List Pending → Type 0
AreWithin hull waits = AllByRecursion (IsWithin hull) waits
