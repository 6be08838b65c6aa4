-- What C's numbers ask for, as dehokuna.h names them (which number stands for what is this project's choice); None, where they name
-- nothing that can be asked for.
use Rattle.std.specs.Prelude.{ℕ, Bool, Option, Some, None, if◌then◌else◌, ◌==◌, ◌&&◌, nat_le, option_and_then, option_map}
use Rattle.range_core.specs.declared.TheConstants.{OFFMAX}
use Rattle.range_core.specs.declared.Mode.{Mode}
use Rattle.range_core.specs.declared.Mode.TheVariants.{Read, Write}
use Rattle.range_core.specs.declared.Span.{Span}
use Rattle.lock_server.specs.declared.Conversion.TheVariants.{Stepwise, Atomic}
use Rattle.lock_server.specs.declared.Rules.{Rules}
use Rattle.wait_core.specs.declared.Policy.TheVariants.{Held, Queue}

-- the mode of a lock: 1 is a read lock, 2 a write lock
abbrev pub mode_of : ℕ → Option Mode
mode_of number = if number == 1 then Some Read else (if number == 2 then Some Write else None)

-- the mode that is to be set: 0 is to remove what is held
abbrev pub wanted_of : ℕ → Option (Option Mode)
wanted_of number = if number == 0 then Some None else option_map (λ mode. Some mode) (mode_of number)

-- the number of a mode
abbrev pub number_of : Mode → ℕ
number_of Read = 1
number_of Write = 2

-- the rules: 0 is the policy of locks that are held alone, 1 the queue, where conversions by flock go step by step; or'd with 256,
-- conversions are atomic
abbrev pub rules_for : ℕ → Option Rules
rules_for number =
    if number == 0 then Some (record { policy = Held; conversion = Stepwise })
    else (if number == 1 then Some (record { policy = Queue; conversion = Stepwise })
    else (if number == 256 then Some (record { policy = Held; conversion = Atomic })
    else (if number == 257 then Some (record { policy = Queue; conversion = Atomic }) else None)))

-- the bytes from the first to the last one, where these are in order and the first is a byte of a file; a last one behind the largest
-- offset means to the end of the file
abbrev pub span_of : ℕ → ℕ → Option Span
span_of first last =
    if nat_le first last && nat_le first OFFMAX then Some (record { first = first; last = if nat_le last OFFMAX then last else OFFMAX }) else None

-- a lock on a range
abbrev pub lock_of : ℕ → ℕ → ℕ → Option (Span × Mode)
lock_of first last mode = option_and_then (λ span. option_map (λ wanted. (span, wanted)) (mode_of mode)) (span_of first last)

-- a mode to be set on a range, or removed there
abbrev pub change_of : ℕ → ℕ → ℕ → Option (Span × Option Mode)
change_of first last mode = option_and_then (λ span. option_map (λ wanted. (span, wanted)) (wanted_of mode)) (span_of first last)

-- the number, where there is one
abbrev pub number_if : Bool → ℕ → Option ℕ
number_if is_there number = if is_there then Some number else None
