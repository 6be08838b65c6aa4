-- Through which open file each owner was last seen on each file, and not flushed since: a function of the file and the owner
-- (the words are this project's choice; POSIX.1-2017, "open file description").
use Rattle.std.specs.Prelude.{◌≡◌, ◌≢◌, ℕ, ◌==◌, if◌then◌else◌, Bool, false, Option, Some, None}

-- whether there is a number, and it is this one
abbrev pub is_number : ℕ → Option ℕ → Bool
is_number wanted None = false
is_number wanted (Some number) = number == wanted

-- each owner was last seen on each file through the same open file
pub record SameOpenings (old new : ℕ → ℕ → Option ℕ) : Type 0 where
  pub through : (file owner : ℕ) → new file owner ≡ old file owner

-- the owner was last seen on the file through this open file, if any, and all others, and elsewhere, through theirs
pub record SeesOn (old new : ℕ → ℕ → Option ℕ) (file owner : ℕ) (open_file : Option ℕ) : Type 0 where
  pub here : new file owner ≡ open_file
  pub others : (other : ℕ) → other ≢ owner → new file other ≡ old file other
  pub elsewhere : (other_file other : ℕ) → other_file ≢ file → new other_file other ≡ old other_file other

-- just the owners that were last seen on the file through the open file are seen there no more
pub record ForgetsThrough (old new : ℕ → ℕ → Option ℕ) (file open_file : ℕ) : Type 0 where
  pub here : (owner : ℕ) → new file owner ≡ (if is_number open_file (old file owner) then None else old file owner)
  pub elsewhere : (other_file owner : ℕ) → other_file ≢ file → new other_file owner ≡ old other_file owner

-- the owner is seen on no file any more, and all others through theirs
pub record ForgetsOwner (old new : ℕ → ℕ → Option ℕ) (owner : ℕ) : Type 0 where
  pub none : (file : ℕ) → new file owner ≡ None
  pub others : (file other : ℕ) → other ≢ owner → new file other ≡ old file other
