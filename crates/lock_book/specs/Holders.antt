-- The places that are kept for the flock locks on a file, and how many locks of each mode stand in them (the words are this
-- project's choice).
use Rattle.std.specs.Prelude.{◌≡◌, ℕ, ◌+◌, ◌==◌, if◌then◌else◌, Option, None, Some, List}
use Rattle.std.specs.List.{sum_by}
use Rattle.std.specs.Option.{option_flatten}
use Rattle.std.specs.Map.{lookup, values_of}
use Rattle.range_core.specs.declared.Mode.{Mode}
use Rattle.range_core.specs.declared.Mode.TheVariants.{Read, Write}
use Rattle.lock_book.specs.declared.book.holders.FlockLock.{FlockLock}
use Rattle.lock_book.specs.declared.book.holders.LockCount.{LockCount}
use Rattle.lock_book.specs.Conflicts.{FlockModes}

-- places by description, with the mode that stands in each
abbrev pub Places : Type 0
Places = List (ℕ × Option Mode)

-- the place of the description
abbrev pub place_among : Places → ℕ → Option (Option Mode)
place_among places description = lookup (λ other. description == other) places

-- the mode that stands in a place, and none without one
abbrev pub mode_in_place : Option (Option Mode) → Option Mode
mode_in_place place = option_flatten place

-- the flock locks that stand in these places
abbrev pub flock_modes_among : Places → FlockModes
flock_modes_among places description = mode_in_place (place_among places description)

-- new has this place for the description, and old's for each other one
abbrev pub PutsAmong : Places → Places → ℕ → Option (Option Mode) → Type 0
PutsAmong old new description place =
    (other : ℕ) → place_among new other ≡ (if description == other then place else place_among old other)

-- the lock, if it is one, stands in its place
abbrev pub StandsAmong : Option FlockLock → Places → Type 0
StandsAmong latest places = (lock : FlockLock) → latest ≡ Some lock → flock_modes_among places lock.description ≡ Some lock.mode

-- 1 for a mode and itself, and 0 for two modes
abbrev pub same_mode : Mode → Mode → ℕ
same_mode Read Read = 1
same_mode Read Write = 0
same_mode Write Read = 0
same_mode Write Write = 1

-- how many locks of this mode that is
abbrev pub locks_in : Mode → Option Mode → ℕ
locks_in mode None = 0
locks_in mode (Some held) = same_mode mode held

-- how many locks of this mode stand in these places
abbrev pub locks_among : Mode → Places → ℕ
locks_among mode places = sum_by (locks_in mode) (values_of places)

-- how many of the counted locks conflict with one of this mode (flock(2))
abbrev pub conflicting : LockCount → Mode → ℕ
conflicting count Read = count.exclusive
conflicting count Write = count.shared + count.exclusive
