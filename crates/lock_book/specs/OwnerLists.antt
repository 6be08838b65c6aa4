-- The lists that a book keeps for the owners of byte locks (the words are this project's choice).
use Rattle.std.specs.Prelude.{◌≡◌, ℕ, if◌then◌else◌, Option, Some, None, List, All, AllPairs}
use Rattle.std.specs.Map.{lookup}
use Rattle.owner_runs.specs.declared.owner_runs.OwnerRuns.{OwnerRuns}
use Rattle.range_core.specs.Ranges.{Modes}
use Rattle.owner_runs.specs.Lists.{modes_of, room_of}
use Rattle.lock_book.specs.declared.Owner.{Owner}
use Rattle.lock_book.specs.Owners.{IsBefore, is_same_owner}

-- the modes of an owner's list, and none on any byte without one
abbrev pub modes_in_list : Option OwnerRuns → Modes
modes_in_list None = λ byte. None
modes_in_list (Some list) = modes_of list

-- the room of an owner's list, and none without one
abbrev pub room_in_list : Option OwnerRuns → ℕ
room_in_list None = 0
room_in_list (Some list) = room_of list

-- the list has neither a mode on any byte nor room
pub record IsIdle (list : OwnerRuns) : Type 0 where
  pub free : (byte : ℕ) → modes_of list byte ≡ None
  pub no_room : room_of list ≡ 0

-- each owner's list has this property
abbrev pub EachList : (OwnerRuns → Type 0) → List (Owner × OwnerRuns) → Type 0
EachList P lists = (owner : Owner) (list : OwnerRuns) → lookup (is_same_owner owner) lists ≡ Some list → P list

-- each owner with a list has a mode on some byte, or room
abbrev pub AreInUse : List (Owner × OwnerRuns) → Type 0
AreInUse = EachList (λ list. ¬ IsIdle list)

-- the owners rise
abbrev pub AreRising : List (Owner × OwnerRuns) → Type 0
AreRising = AllPairs (λ one other. IsBefore one.0 other.0)

-- each owner's list is the one that a look-up finds
abbrev pub AreFound : List (Owner × OwnerRuns) → Type 0
AreFound lists = All (λ one. lookup (is_same_owner one.0) lists ≡ Some one.1) lists

-- new has this list for the owner, and old's for each other one
abbrev pub PutsFor : List (Owner × OwnerRuns) → List (Owner × OwnerRuns) → Owner → Option OwnerRuns → Type 0
PutsFor old new owner list =
    (other : Owner) → lookup (is_same_owner other) new ≡ (if is_same_owner owner other then list else lookup (is_same_owner other) old)
