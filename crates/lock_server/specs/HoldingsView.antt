-- What is kept of the files on which owners have something (the words are this project's choice).
use Rattle.std.specs.Prelude.{◌≡◌, ◌≢◌, ◌<◌, ◌-◌, ◌^◌, ◌⊎◌, ℕ, Bool, true, false, IsTrue, MatchOption, Option, Some, None, is_some, length}
use Rattle.std.specs.Map.{lookup}
use Rattle.std.specs.BTreeMap.{is_at}
use Rattle.std.specs.Ordering.{nat_cmp, ordering_then}
use Rattle.std.specs.declared.cmp.Ordering.{Ordering}
use Rattle.std.specs.declared.ops.Bound.{Bound}
use Rattle.std.specs.declared.ops.Bound.TheVariants.{Included, Excluded}
use Rattle.range_core.specs.declared.Mode.{Mode}
use Rattle.lock_server.specs.declared.holdings.Holdings.{Holdings}
use Rattle.lock_server.specs.Clients.{is_within}
use Rattle.lock_server.specs.Files.{SameFile, untouched}
use Rattle.lock_server.specs.Holding.{HasNothing, IsGone}
use Rattle.lock_server.specs.States.{State}

-- by owner, and then by file
abbrev pub pair_cmp : ℕ × ℕ → ℕ × ℕ → Ordering
pair_cmp one other = ordering_then (nat_cmp one.0 other.0) (nat_cmp one.1 other.1)

-- where the owner's pairs begin whose files are above this one, where one is given
abbrev pub behind : ℕ → Option ℕ → Bound (ℕ × ℕ)
behind owner None = Included (owner, 0)
behind owner (Some file) = Excluded (owner, file)

-- where the pairs of the owners begin that are above this one, where one is given
abbrev pub behind_owner : Option ℕ → Bound (ℕ × ℕ)
behind_owner None = behind 0 None
behind_owner (Some owner) = behind owner (Some (2 ^ 64 - 1))

-- the number is below this one, where one is given
abbrev pub IsBelow : Option ℕ → ℕ → Type 0
IsBelow least number = MatchOption least (Unit {0}) (λ bound. number < bound)

-- whether the pair of an owner and a file is kept
abbrev pub keeps_pair : Holdings → ℕ × ℕ → Bool
keeps_pair holdings pair = is_some (lookup (is_at (pair_cmp pair)) holdings.pairs)

-- whether the owner is kept with the file
unfoldable pub keeps : Holdings → ℕ → ℕ → Bool
keeps holdings owner file = keeps_pair holdings (owner, file)

-- how many pairs are kept
unfoldable pub size : Holdings → ℕ
size holdings = length holdings.pairs

-- each owner is kept with the same files
pub record SameHoldings (old new : Holdings) : Type 0 where
  pub same : (owner file : ℕ) → keeps new owner file ≡ keeps old owner file

-- but for this owner on this file, all is kept as it was
pub record KeepsElse (old new : Holdings) (owner file : ℕ) : Type 0 where
  pub others : (other any : ℕ) → other ≢ owner → keeps new other any ≡ keeps old other any
  pub elsewhere : (other any : ℕ) → any ≢ file → keeps new other any ≡ keeps old other any

-- the owner is kept with the file, or isn't, and all else stays
pub record Keeps (old new : Holdings) (owner file : ℕ) (kept : Bool) : Type 0 where
  pub here : keeps new owner file ≡ kept
  pub apart : KeepsElse old new owner file

-- an owner that is given a lock is kept with the file; an unlock changes nothing
abbrev pub KeepsIf : Option Mode → Holdings → Holdings → ℕ → ℕ → Type 0
KeepsIf None old new owner file = SameHoldings old new
KeepsIf (Some mode) old new owner file = Keeps old new owner file true

-- an owner that has nothing left on the file is kept with it no more, and all else stays
pub record Tidies (old new : Holdings) (S : State) (through : ℕ → ℕ → Option ℕ) (owner file : ℕ) : Type 0 where
  pub here : keeps new owner file ≡ false → (keeps old owner file ≡ false) ⊎ IsGone S through owner file
  pub gone : IsGone S through owner file → keeps new owner file ≡ false
  pub apart : KeepsElse old new owner file

-- the same where an owner is given
abbrev pub TidiesIf : Option ℕ → Holdings → Holdings → State → (ℕ → ℕ → Option ℕ) → ℕ → Type 0
TidiesIf None old new S through file = SameHoldings old new
TidiesIf (Some owner) old new S through file = Tidies old new S through owner file

-- whoever was kept with a file is so still, and on this file all but those of whom this holds
pub record EntersOn (old new : Holdings) (file : ℕ) (Rest : ℕ → Type 0) : Type 0 where
  pub more : (owner any : ℕ) → keeps old owner any ≡ true → keeps new owner any ≡ true
  pub rest : (owner : ℕ) → keeps new owner file ≡ false → Rest owner

-- the same on all files
pub record EntersAll (old new : Holdings) (Rest : ℕ → ℕ → Type 0) : Type 0 where
  pub more : (owner any : ℕ) → keeps old owner any ≡ true → keeps new owner any ≡ true
  pub rest : (owner file : ℕ) → keeps new owner file ≡ false → Rest owner file

-- but on this file, all is kept as it was
pub record LeavesFile (old new : Holdings) (file : ℕ) : Type 0 where
  pub elsewhere : (owner any : ℕ) → any ≢ file → keeps new owner any ≡ keeps old owner any

-- an owner that isn't kept with a file has neither a lock nor a wait there, and isn't noted
pub record AreKept (holdings : Holdings) (S : State) (through : ℕ → ℕ → Option ℕ) : Type 0 where
  pub gone : (owner file : ℕ) → keeps holdings owner file ≡ false → IsGone S through owner file

-- whoever isn't kept with a file has neither a lock nor a wait there
pub record KeepsHolders (holdings : Holdings) (S : State) : Type 0 where
  pub nothing : (owner file : ℕ) → keeps holdings owner file ≡ false → HasNothing (S.files file) owner

-- of the owners from first to last none is kept with the file
abbrev pub AreUnkept : Holdings → ℕ → ℕ → ℕ → Type 0
AreUnkept holdings first last file = (owner : ℕ) → IsTrue (is_within first last owner) → keeps holdings owner file ≡ false

-- nor need the file be looked at for them, where it has neither a lock nor a wait
abbrev pub HasNoneOf : Holdings → ℕ → ℕ → State → ℕ → Type 0
HasNoneOf holdings first last S file = AreUnkept holdings first last file ⊎ SameFile untouched (S.files file)
