-- What holds of the fields of `Tables` at all times (this project's choice).
use Rattle.std.specs.Prelude.{◌≡◌, ℕ, ◌+◌, ◌<◌, ◌≤◌, Some, IsSome, IsTrue, ℤ, pos, List, [], length, slice_index}
use Rattle.range_core.specs.declared.TheConstants.{OFFMAX}
use Rattle.slab.specs.Slab.{Slab, get}
use Rattle.fd_table.specs.declared.TheConstants.{FILES}
use Rattle.fd_table.specs.declared.Limits.{Limits}
use Rattle.fd_table.specs.declared.tables.Opened.{Opened}
use Rattle.fd_table.specs.Descriptors.{descriptor_limit}
use Rattle.fd_table.specs.Rows.{Keys, row_at, has_row, key_at, users_of}

-- an entry of the slab has a number that was given out, a file that there is, an offset in range, and a user
pub record IsEntry (made : ℕ) (opened : Opened) : Type 0 where
  pub positive : 0 < opened.number
  pub given_out : opened.number ≤ made
  pub file : opened.file < FILES
  pub offset : opened.offset ≤ OFFMAX
  pub used : 0 < opened.users

-- each process that was ever alive has a row with a place for each of its descriptors
pub record AreRows (processes : ℕ) (limits : Limits) (rows : List Keys) : Type 0 where
  pub few : processes < 256
  pub count : length rows ≡ processes + 1
  pub unused : row_at rows 0 ≡ []
  pub each : (p : ℕ) → IsTrue (has_row rows p) → length (row_at rows p) ≡ descriptor_limit limits

-- each key that a descriptor refers to is occupied, each entry counts its users, and no two have one number
pub record AreEntries (rows : List Keys) (opened : Slab Opened) (made : ℕ) : Type 0 where
  pub occupied : (p fd key : ℕ) → key_at rows p fd ≡ Some key → IsSome (get opened key)
  pub counted : (key : ℕ) (entry : Opened) → get opened key ≡ Some entry → entry.users ≡ users_of rows key
  pub each : (key : ℕ) (entry : Opened) → get opened key ≡ Some entry → IsEntry made entry
  pub distinct : (key other : ℕ) (entry another : Opened) → get opened key ≡ Some entry → get opened other ≡ Some another
      → entry.number ≡ another.number → key ≡ other

-- each size is an offset in range
abbrev pub AreSizes : List ℕ → Type 0
AreSizes sizes = (file : ℕ) → slice_index sizes file ≤ OFFMAX

-- the signed number is this one, which is an offset in range
abbrev pub IsBytes : ℤ → ℕ → Type 0
IsBytes count n = (count ≡ pos n) × (n ≤ OFFMAX)

-- the entry with so many users more
abbrev pub with_users : ℕ → Opened → Opened
with_users more entry = record entry { users = entry.users + more }
