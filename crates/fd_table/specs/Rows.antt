-- Rows of slab keys: one row for each process, one place in it for each descriptor (this project's choice).
use Rattle.std.specs.Prelude.{◌≡◌, ℕ, ◌<◌, ◌≤◌, ◌==◌, ◌&&◌, nat_lt, IsSome, Bool, false, Option, Some, None, List, [], length, slice_index_or, slice_set, sum_by, count_by, replicate, if◌then◌else◌}

-- the keys that the descriptors of one process refer to, by their numbers
abbrev pub Keys : Type 0
Keys = List (Option ℕ)

-- the row of a process, and an empty one past the last
abbrev pub row_at : List Keys → ℕ → Keys
row_at rows p = slice_index_or rows p []

-- the process has a row
abbrev pub has_row : List Keys → ℕ → Bool
has_row rows p = nat_lt 0 (length (row_at rows p))

-- the key that the descriptor refers to, if it is open
abbrev pub key_at : List Keys → ℕ → ℕ → Option ℕ
key_at rows p fd = slice_index_or (row_at rows p) fd None

-- the descriptor refers to this key, or is closed
abbrev pub with_key : List Keys → ℕ → ℕ → Option ℕ → List Keys
with_key rows p fd key = slice_set rows p (slice_set (row_at rows p) fd key)

-- the place holds this key
abbrev pub is_key : ℕ → Option ℕ → Bool
is_key key None = false
is_key key (Some other) = other == key

-- how many descriptors of a row refer to the key
abbrev pub users_in : Keys → ℕ → ℕ
users_in row key = count_by (is_key key) row

-- how many descriptors of all processes refer to the key
abbrev pub users_of : List Keys → ℕ → ℕ
users_of rows key = sum_by (λ row. users_in row key) rows

-- at the opening process 1 alone has a row, in which each descriptor is closed
abbrev pub opening_row : ℕ → ℕ → Keys
opening_row len p = if p == 1 then replicate len None else []

-- the descriptor is the lowest of the row that is closed
pub record IsLowestClosed (row : Keys) (fd : ℕ) : Type 0 where
  pub within : fd < length row
  pub closed : slice_index_or row fd None ≡ None
  pub lowest : (below : ℕ) → below < fd → IsSome (slice_index_or row below None)

-- each descriptor of the row is open
abbrev pub AreAllOpen : Keys → Type 0
AreAllOpen row = (fd : ℕ) → fd < length row → IsSome (slice_index_or row fd None)

-- the row has so many descriptors at least, and these, its lowest, are open
pub record AreOpenBelow (row : Keys) (open_below : ℕ) : Type 0 where
  pub within : open_below ≤ length row
  pub opened : (fd : ℕ) → fd < open_below → IsSome (slice_index_or row fd None)

-- the place is that of this descriptor
abbrev pub is_place : ℕ → ℕ → ℕ → ℕ → Bool
is_place p fd q k = (q == p) && (k == fd)

-- this descriptor has this key, and every other one keeps its own
pub record WithKey (old new : List Keys) (p fd : ℕ) (key : Option ℕ) : Type 0 where
  pub keys : (q k : ℕ) → key_at new q k ≡ (if is_place p fd q k then key else key_at old q k)
  pub lengths : (q : ℕ) → length (row_at new q) ≡ length (row_at old q)
