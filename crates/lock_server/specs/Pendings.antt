-- The waits of a server, as the definitions of `wait_core` see them.
use Rattle.std.specs.Prelude.{ℕ, ◌==◌, ◌&&◌, Bool, true, false, List, map}
use Rattle.lock_book.specs.declared.Owner.TheVariants.{Description}
use Rattle.wait_core.specs.declared.Family.{Family}
use Rattle.wait_core.specs.declared.Family.TheVariants.{Bytes, Whole}
use Rattle.wait_core.specs.declared.Wait.{Wait}
use Rattle.lock_server.specs.declared.Pending.{Pending}

-- the wait as `wait_core` defines blocking: all waits that are compared are on one file, here called 0, and no process has
-- them (this project's choice)
abbrev pub as_wait : Pending → Wait
as_wait wait =
    record { p = 0; n = wait.ticket; file = 0; family = wait.family; owner = Description wait.owner; span = wait.span; mode = wait.mode }

-- the tickets of the waits, in the same order (this project's choice)
abbrev pub tickets_of : List Pending → List ℕ
tickets_of waits = map (λ wait. wait.ticket) waits

-- the owners of the waits, in the same order (this project's choice)
abbrev pub owners_of : List Pending → List ℕ
owners_of waits = map (λ wait. wait.owner) waits

-- whether the family is that of byte locks (this project's choice)
abbrev pub is_of_bytes : Family → Bool
is_of_bytes Bytes = true
is_of_bytes Whole = false

-- whether the family is that of flock locks (this project's choice)
abbrev pub is_of_whole : Family → Bool
is_of_whole Bytes = false
is_of_whole Whole = true

-- whether the wait is for byte locks of this owner (this project's choice)
abbrev pub is_byte_wait : ℕ → Pending → Bool
is_byte_wait owner wait = is_of_bytes wait.family && (wait.owner == owner)

-- whether the wait is for the flock lock of this owner (this project's choice)
abbrev pub is_flock_wait : ℕ → Pending → Bool
is_flock_wait owner wait = is_of_whole wait.family && (wait.owner == owner)
