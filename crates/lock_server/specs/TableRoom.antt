-- The room that a table holds for one request (the words are this project's choice).
use Rattle.std.specs.Prelude.{◌≡◌, ℕ, false, IsTrue, Some}
use Rattle.wait_core.specs.declared.Family.TheVariants.{Whole}
use Rattle.lock_server.specs.declared.Pending.{Pending}
use Rattle.lock_server.specs.declared.file.LockFile.{LockFile}
use Rattle.lock_server.specs.declared.table.Table.{Table}
use Rattle.lock_server.specs.FileView.{keeps_place}
use Rattle.lock_server.specs.Waiting.{IsReserved}
use Rattle.lock_server.specs.TableView.{entry_of}
use Rattle.lock_server.specs.declared.tickets.Place.TheVariants.{Reserved}
use Rattle.lock_server.specs.TicketsView.{place_at}
use Rattle.lock_server.specs.WaitersView.{HasRoomIf}

-- the file has an entry, with a place for the flock lock of the owner
pub record HasFlockPlace (table : Table) (file owner : ℕ) : Type 0 where
  pub entry : LockFile
  pub is : entry_of table file ≡ Some entry
  pub place : IsTrue (keeps_place entry owner)

-- the file has an entry, with room for the wait, and the ticket is noted
pub record HasRoomFor (table : Table) (file : ℕ) (wait : Pending) : Type 0 where
  pub entry : LockFile
  pub is : entry_of table file ≡ Some entry
  pub room : IsReserved entry wait
  pub ticket : place_at table.tickets wait.ticket ≡ Some Reserved
  pub detect : HasRoomIf wait.detect table.waiters wait.owner

-- the file keeps the places for flock locks, and a flock request that isn't looked at for deadlocks keeps its room
pub record KeepsRoomOn (old new : Table) (file : ℕ) : Type 0 where
  pub places : (owner : ℕ) → HasFlockPlace old file owner → HasFlockPlace new file owner
  pub requests : (wait : Pending) → wait.family ≡ Whole → wait.detect ≡ false → HasRoomFor old file wait → HasRoomFor new file wait
