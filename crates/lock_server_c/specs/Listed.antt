-- What C is told of what a server lists.
use Rattle.std.specs.Prelude.{◌≡◌, ℕ}
use Rattle.lock_book.specs.Changes.{whole_file}
use Rattle.wait_core.specs.declared.Family.{Family}
use Rattle.wait_core.specs.declared.Family.TheVariants.{Bytes, Whole}
use Rattle.lock_server.specs.declared.FlockLock.{FlockLock}
use Rattle.lock_server.specs.declared.Obstacle.{Obstacle}
use Rattle.lock_server.specs.declared.Obstacle.TheVariants as obstacle
use Rattle.lock_server.specs.declared.OwnerWait.{OwnerWait}
use Rattle.lock_server.specs.declared.Waiting.{Waiting}
use Rattle.lock_server_c.specs.declared.bytes.BlockerOut.{BlockerOut}
use Rattle.lock_server_c.specs.declared.listing.FlockOut.{FlockOut}
use Rattle.lock_server_c.specs.declared.listing.OwnerWaitOut.{OwnerWaitOut}
use Rattle.lock_server_c.specs.declared.listing.WaitingOut.{WaitingOut}
use Rattle.lock_server_c.specs.Numbers.{number_of}
use Rattle.lock_server_c.specs.Told.{out_of}

-- what C is told of a flock lock
abbrev pub flock_out_of : FlockLock → FlockOut
flock_out_of lock = record { owner = lock.owner; mode = number_of lock.mode }

-- the number of a family: 0 is that of byte locks, 1 that of flock locks
abbrev pub family_number : Family → ℕ
family_number Bytes = 0
family_number Whole = 1

-- the number of what is in the way: 0 is a byte lock, 1 a flock lock, 2 a wait
abbrev pub obstacle_number : Obstacle → ℕ
obstacle_number (obstacle.Lock lock) = 0
obstacle_number (obstacle.Flock lock) = 1
obstacle_number (obstacle.Wait ticket) = 2

-- the lock that is in the way, of a flock lock with the whole file as its range; all zero where it is a wait
abbrev pub blocker_of : Obstacle → BlockerOut
blocker_of (obstacle.Lock lock) = out_of lock
blocker_of (obstacle.Flock lock) = record { owner = lock.owner; first = whole_file.first; last = whole_file.last; mode = number_of lock.mode }
blocker_of (obstacle.Wait ticket) = record { owner = 0; first = 0; last = 0; mode = 0 }

-- the ticket of the wait that is in the way; zero where it is a lock
abbrev pub ticket_behind : Obstacle → ℕ
ticket_behind (obstacle.Lock lock) = 0
ticket_behind (obstacle.Flock lock) = 0
ticket_behind (obstacle.Wait ticket) = ticket

-- what C is told of a wait
abbrev pub waiting_of : Waiting → WaitingOut
waiting_of waiting = record {
  ticket = waiting.pending.ticket;
  owner = waiting.pending.owner;
  first = waiting.pending.span.first;
  last = waiting.pending.span.last;
  mode = number_of waiting.pending.mode;
  family = family_number waiting.pending.family;
  detect = waiting.pending.detect;
  obstacle = obstacle_number waiting.obstacle;
  blocker = blocker_of waiting.obstacle;
  behind = ticket_behind waiting.obstacle;
}

-- the wait that the three numbers name
abbrev pub owner_wait : ℕ → ℕ → ℕ → OwnerWait
owner_wait owner file ticket = record { owner = owner; file = file; ticket = ticket }

-- what C is told of a wait of an owner
abbrev pub owner_wait_of : OwnerWait → OwnerWaitOut
owner_wait_of wait = record { owner = wait.owner; file = wait.file; ticket = wait.ticket }

-- C is told of a thing of which this holds (this project's choice)
pub record Told {X Y : Type 0} (told : X → Y) (out : Y) (holds : X → Type 0) : Type 0 where
  pub of : X
  pub is : holds of
  pub written : out ≡ told of
