-- What a table of sections says (the words are this project's choice).
use Rattle.std.specs.Prelude.{◌≡◌, ℕ, zero, suc, Bool, Option, get_or}
use Rattle.lock_manager.specs.declared.request.Visit.{Visit}
use Rattle.lock_manager.specs.declared.seat.Seat.{Seat}
use Rattle.lock_manager.specs.declared.sections.Sections.{Sections}
use Rattle.lock_manager.specs.SeatView.{visit_of, no_seat}
use Rattle.lock_manager.specs.State.{State}

-- the words of the process, which stand at place p - 1; there is no process 0
unfoldable pub seat_in : Sections → ℕ → Seat
seat_in sections zero = no_seat
seat_in sections (suc place) = get_or sections.seats.items place no_seat

-- the visit of the process to the section
abbrev pub visit_in : Sections → ℕ → ℕ → Option Visit
visit_in sections p section = visit_of (seat_in sections p) section

-- whether the last answer to the process was an error
abbrev pub refused_in : Sections → ℕ → Bool
refused_in sections p = (seat_in sections p).refused

-- the table says who is in which section, and whose last answer was an error
pub record AreOf (sections : Sections) (S : State) : Type 0 where
  pub visits : (p section : ℕ) → visit_in sections p section ≡ S.visits p section
  pub refused : (p : ℕ) → refused_in sections p ≡ S.refused p
