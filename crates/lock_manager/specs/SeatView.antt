-- What the words of a process say of its sections (the words are this project's choice).
use Rattle.std.specs.Prelude.{ℕ, ◌==◌, nat_lt, Bool, false, if◌then◌else◌, Option, Some, None}
use Rattle.std.specs.Int.{bit_at}
use Rattle.lock_manager.specs.declared.request.TheConstants.{SECTIONS}
use Rattle.lock_manager.specs.declared.request.Visit.{Visit}
use Rattle.lock_manager.specs.declared.request.Visit.TheVariants.{Sole, Shared}
use Rattle.lock_manager.specs.declared.seat.Seat.{Seat}

-- whether the word has the section: section k is bit k
unfoldable pub has_section : ℕ → ℕ → Bool
has_section word section = bit_at word section == 1

-- the visit that the words say
abbrev pub visit_of : Seat → ℕ → Option Visit
visit_of seat section =
    if nat_lt section SECTIONS
    then (if has_section seat.sole section then Some Sole else (if has_section seat.shared section then Some Shared else None))
    else None

-- who is in no section, and was told no error
abbrev pub no_seat : Seat
no_seat = record { sole = 0; shared = 0; refused = false }
