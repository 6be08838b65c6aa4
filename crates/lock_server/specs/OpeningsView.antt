-- What is kept of the open files through which owners were seen (the words are this project's choice).
use Rattle.std.specs.Prelude.{◌≡◌, ◌≢◌, ℕ, ◌<◌, Option, Some, None, MatchOption}
use Rattle.std.specs.BTreeMap.{get}
use Rattle.std.specs.Ordering.{nat_cmp}
use Rattle.lock_server.specs.declared.openings.Openings.{Openings}
use Rattle.lock_server.specs.declared.openings.Seen.{Seen}

-- the open file through which the owner was last seen
unfoldable pub open_of : Seen → ℕ → Option ℕ
open_of seen owner = get nat_cmp seen.owners owner

-- the owner was last seen through this open file, if any, and all others through theirs
pub record Sees (old new : Seen) (owner : ℕ) (open_file : Option ℕ) : Type 0 where
  pub here : open_of new owner ≡ open_file
  pub others : (other : ℕ) → other ≢ owner → open_of new other ≡ open_of old other

-- each owner was last seen through the same open file
pub record SameSeen (old new : Seen) : Type 0 where
  pub owners : (owner : ℕ) → open_of new owner ≡ open_of old owner

-- the same of an entry that may not be there
abbrev pub open_in : Option Seen → ℕ → Option ℕ
open_in None owner = None
open_in (Some seen) owner = open_of seen owner

-- the open file through which the owner was last seen on the file
unfoldable pub through_at : Openings → ℕ → ℕ → Option ℕ
through_at openings file owner = open_in (get nat_cmp openings.files file) owner

-- the file has an entry
pub record HasSeen (openings : Openings) (file : ℕ) : Type 0 where
  pub seen : Seen
  pub is : get nat_cmp openings.files file ≡ Some seen

-- the number is above the least one, where one is given
abbrev pub IsAbove : Option ℕ → ℕ → Type 0
IsAbove least number = MatchOption least (Unit {0}) (λ bound. bound < number)
