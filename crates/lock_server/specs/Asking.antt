-- What is asked of waits, as tests (the words are this project's choice).
use Rattle.std.specs.Prelude.{◌≡◌, ℕ, ◌<◌, ◌≤◌, Bool, true, false, not, ◌&&◌, ◌==◌, Some, List, slice_get}
use Rattle.std.specs.Bool.{nat_le}
use Rattle.range_core.specs.declared.Mode.{Mode}
use Rattle.range_core.specs.declared.Mode.TheVariants.{Read, Write}
use Rattle.range_core.specs.declared.Span.{Span}
use Rattle.wait_core.specs.declared.Family.{Family}
use Rattle.wait_core.specs.declared.Family.TheVariants.{Bytes, Whole}
use Rattle.lock_server.specs.declared.Pending.{Pending}
use Rattle.lock_server.specs.declared.asking.Kind.{Kind}
use Rattle.lock_server.specs.declared.asking.Kind.TheVariants as kind
use Rattle.lock_server.specs.declared.freed.Freed.{Freed}
use Rattle.lock_server.specs.declared.freed.Freed.TheVariants.{Nobody, Of, Meeting, Anybody}
use Rattle.lock_server.specs.declared.freed.Reach.{Reach}
use Rattle.lock_server.specs.Pendings.{is_of_whole}
use Rattle.lock_server.specs.Settling.{PendingsConflict}

-- whether the wait is of the kind
abbrev pub is_of_kind : Kind → Pending → Bool
is_of_kind kind.Any wait = true
is_of_kind kind.Flock wait = is_of_whole wait.family
is_of_kind kind.Detected wait = wait.detect

-- whether the two families are one
abbrev pub is_same_family : Family → Family → Bool
is_same_family Bytes Bytes = true
is_same_family Whole Whole = true
is_same_family Bytes Whole = false
is_same_family Whole Bytes = false

-- whether two locks of these modes exclude each other (POSIX.1-2017 fcntl, DESCRIPTION, shared and exclusive locks)
abbrev pub exclude : Mode → Mode → Bool
exclude Read Read = false
exclude Read Write = true
exclude Write mode = true

-- whether two ranges have a byte in common; whole files always meet
abbrev pub do_meet : Family → Span → Span → Bool
do_meet Bytes one other = nat_le one.first other.last && nat_le other.first one.last
do_meet Whole one other = true

-- whether the wait is for a lock there
abbrev pub reaches : Reach → Pending → Bool
reaches reach wait = is_same_family wait.family reach.family && do_meet wait.family reach.span wait.span

-- whether the wait is among those that may be freed
abbrev pub is_among : Freed → Pending → Bool
is_among Nobody wait = false
is_among (Of owner reach) wait = (wait.owner == owner) && reaches reach wait
is_among (Meeting reach) wait = reaches reach wait
is_among Anybody wait = true

-- whether the two waits, on one file, could not both be granted
abbrev pub are_conflicting : Pending → Pending → Bool
are_conflicting v w = is_same_family v.family w.family && (not (v.owner == w.owner) && (exclude v.mode w.mode && do_meet w.family v.span w.span))

-- the wait at the place, from the one on and before the other, conflicts with this one, and none before it does
pub record IsNextConflict (waits : List Pending) (wait : Pending) (from before place : ℕ) : Type 0 where
  pub not_before : from ≤ place
  pub within : place < before
  pub other : Pending
  pub there : slice_get waits place ≡ Some other
  pub conflicts : PendingsConflict other wait
  pub first : (i : ℕ) (v : Pending) → from ≤ i → i < place → slice_get waits i ≡ Some v → ¬ PendingsConflict v wait

-- none of the waits from the one place on and before the other conflicts with this one
abbrev pub NoneConflicts : List Pending → Pending → ℕ → ℕ → Type 0
NoneConflicts waits wait from before = (i : ℕ) (v : Pending) → from ≤ i → i < before → slice_get waits i ≡ Some v → ¬ PendingsConflict v wait
