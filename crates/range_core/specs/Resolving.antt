-- From a lock description to a range of bytes: the members l_whence, l_start and l_len of struct flock.
use Rattle.std.specs.Prelude.{ℕ, zero, suc, ℤ, pos, negsuc, ◌^◌, ◌+ℤ◌, ◌-ℤ◌, ◌≤ℤ◌, int_lt, nat_abs, ◌||◌, Ok, Err, Result, if◌then◌else◌}
use Rattle.range_core.specs.declared.TheConstants.{OFFMAX}
use Rattle.range_core.specs.declared.Whence.{Whence}
use Rattle.range_core.specs.declared.Whence.TheVariants.{Set, Cur, End}
use Rattle.range_core.specs.declared.Span.{Span}
use Rattle.range_core.specs.declared.RangeFault.{RangeFault}
use Rattle.range_core.specs.declared.RangeFault.TheVariants.{Invalid, Overflow}

-- the byte that the start is counted from: the file's first byte, the offset of the description, or the end of a
-- file of this size (POSIX.1-2017 fcntl, DESCRIPTION, l_whence)
abbrev pub base_of : Whence → ℕ → ℕ → ℕ
base_of Set offset size = 0
base_of Cur offset size = offset
base_of End offset size = size

-- so near the file that a length can be counted from it without overflow (this project's choice)
abbrev pub IsNearFile : ℤ → Type 0
IsNearFile place = (negsuc (2 ^ 64) ≤ℤ place) × (place ≤ℤ pos (2 ^ 64))

-- the first byte of a range of this length at this place: a negative length reaches back from it
-- (POSIX.1-2017 fcntl, DESCRIPTION, l_len)
abbrev pub first_byte : ℤ → ℤ → ℤ
first_byte start (pos n) = start
first_byte start (negsuc n) = start +ℤ negsuc n

-- its last byte: the largest offset where the length is zero, and the byte before the place where it is negative
-- (POSIX.1-2017 fcntl, DESCRIPTION, l_len)
abbrev pub last_byte : ℤ → ℤ → ℤ
last_byte start (pos zero) = pos OFFMAX
last_byte start (pos (suc n)) = start +ℤ pos n
last_byte start (negsuc n) = start -ℤ pos 1

-- the range between two bytes, or why there is none: the bytes alone are judged
-- (POSIX.1-2017 fcntl, ERRORS, EINVAL and EOVERFLOW; that the bytes alone are judged is this project's choice)
abbrev pub range_between : ℤ → ℤ → Result Span RangeFault
range_between first last =
    if int_lt first (pos 0) then Err Invalid
    else (if int_lt (pos OFFMAX) first || int_lt (pos OFFMAX) last then Err Overflow
    else Ok (record { first = nat_abs first; last = nat_abs last }))

-- the range of a lock description, at a description's offset and a file's size
-- (POSIX.1-2017 fcntl, DESCRIPTION, struct flock)
abbrev pub resolution : Whence → ℤ → ℤ → ℕ → ℕ → Result Span RangeFault
resolution whence start len offset size =
    let from = pos (base_of whence offset size) +ℤ start in
    range_between (first_byte from len) (last_byte from len)
