-- What an index keeps of the byte locks on one file (the words are this project's choice).
use Rattle.std.specs.Prelude.{ℕ, ◌≡◌, ◌≢◌, ◌+◌, ◌==◌, ◌&&◌, Bool, true, not, if◌then◌else◌, Option, Some, None, IfSome, List, All}
use Rattle.std.specs.Bool.{nat_le}
use Rattle.std.specs.List.{find, list_any}
use Rattle.std.specs.Map.{lookup}
use Rattle.std.specs.declared.alloc.Global.{Global}
use Rattle.std.specs.declared.boxed.Box.{Box}
use Rattle.std.proofs.Props.{props}
use Rattle.range_core.specs.declared.Span.{Span}
use Rattle.owner_runs.specs.declared.owner_runs.OwnerRuns.{OwnerRuns}
use Rattle.range_core.specs.declared.Mode.{Mode}
use Rattle.range_core.specs.Changes.{is_covered}
use Rattle.range_core.specs.Ranges.{IsRun, Modes}
use Rattle.interval_index.specs.declared.Holder.{Holder}
use Rattle.interval_index.specs.declared.Run.{Run}
use Rattle.interval_index.specs.Contents.{RunContents}
use Rattle.interval_index.specs.Holders.{holder_of, is_same_holder}
use Rattle.interval_index.specs.Standing.{HolderModes}
use Rattle.interval_index.specs.Tests.{has_key, without}
use Rattle.lock_book.specs.declared.Owner.{Owner}
use Rattle.lock_book.specs.declared.Owner.TheVariants.{Process, Description}
use Rattle.lock_book.specs.declared.book.index.OwnersIndex.{OwnersIndex}
use Rattle.lock_book.specs.Conflicts.{ByteModes}
use Rattle.lock_book.specs.Owners.{is_same_owner}
use Rattle.lock_book.specs.OwnerLists.{modes_in_list}

-- the owner as two numbers, which are ordered as the owners are
abbrev pub as_holder : Owner → Holder
as_holder (Process p) = record { class = 0; number = p }
as_holder (Description d) = record { class = 1; number = d }

-- what each owner has, asked by these numbers
abbrev pub holder_modes : ByteModes → HolderModes
holder_modes modes holder =
    if holder.class == 0 then modes (Process holder.number) else (if holder.class == 1 then modes (Description holder.number) else (λ byte. None))

-- the byte locks that these lists stand for
abbrev pub modes_among : List (Owner × OwnerRuns) → ByteModes
modes_among lists owner = modes_in_list (lookup (is_same_owner owner) lists)

-- the run is a largest range on all of which its owner has this one mode
abbrev pub IsRunOf : HolderModes → Run → Type 0
IsRunOf modes run = IsRun (modes (holder_of run)) run.span.first run.mode run.span

-- whether the other range shares a byte with this one, or lies right beside it
abbrev pub touches : Span → Span → Bool
touches span other = nat_le other.first (span.last + 1) && nat_le span.first (other.last + 1)

-- whether the run is another owner's
abbrev pub is_others : Holder → Run → Bool
is_others holder run = not (is_same_holder holder (holder_of run))

-- whether the run is another owner's, or doesn't touch the range
abbrev pub is_outside : Holder → Span → Run → Bool
is_outside holder span run = not (is_same_holder holder (holder_of run) && touches span run.span)

-- whether the run is the owner's, and begins where one of these does
abbrev pub is_listed : Holder → List (Mode × Span) → Run → Bool
is_listed holder list run = list_any (λ listed. has_key listed.1.first holder run) list

-- these are the owners' runs that pass
pub record AreRunsWhere (modes : HolderModes) (passes : Run → Bool) (runs : List Run) : Type 0 where
  pub each : All (λ run. IsRunOf modes run × (passes run ≡ true)) runs
  pub every : (run : Run) → IsRunOf modes run → passes run ≡ true → list_any (has_key run.span.first (holder_of run)) runs ≡ true

-- where there is an index, it keeps the owners' runs that pass
abbrev pub IsKeptWhere : OwnersIndex → ByteModes → (Run → Bool) → Type 0
IsKeptWhere index modes passes =
    (block : Box RunContents Global) → index.runs ≡ Some block → AreRunsWhere (holder_modes modes) passes block.value.runs

-- it keeps the runs of all owners
abbrev pub IsKeptAs : OwnersIndex → ByteModes → Type 0
IsKeptAs index modes = IsKeptWhere index modes (λ run. true)

-- the run of the owner that has this mode and this range
abbrev pub run_by : Owner → Mode → Span → Run
run_by owner mode span = record { span = span; number = (as_holder owner).number; class = (as_holder owner).class; mode = mode }

-- the runs without the owner's that begins at the byte, if one is told
abbrev pub without_left : Holder → Option ℕ → List Run → List Run
without_left holder None runs = runs
without_left holder (Some byte) runs = without byte holder runs

-- it keeps them but for those of the owner that touch the range, of which one that begins at the byte may be left
abbrev pub IsKeptOutside : OwnersIndex → ByteModes → Owner → Span → Option ℕ → Type 0
IsKeptOutside index modes owner span left =
    (block : Box RunContents Global) → index.runs ≡ Some block
    → AreRunsWhere (holder_modes modes) (is_outside (as_holder owner) span) (without_left (as_holder owner) left block.value.runs)

-- where a byte is told, a run of the owner's that begins there is left in it
abbrev pub IsLeftIn : OwnersIndex → Owner → Option ℕ → Type 0
IsLeftIn index owner left =
    (block : Box RunContents Global) → index.runs ≡ Some block → IfSome left (λ byte. find (has_key byte (as_holder owner)) block.value.runs ≢ None)

-- it keeps those of the other owners
abbrev pub IsKeptWithout : OwnersIndex → ByteModes → Owner → Type 0
IsKeptWithout index modes owner = IsKeptWhere index modes (is_others (as_holder owner))

-- it keeps none of the owner's
abbrev pub HasNoneOf : OwnersIndex → Owner → Type 0
HasNoneOf index owner = (block : Box RunContents Global) → index.runs ≡ Some block → All (λ run. is_others (as_holder owner) run ≡ true) block.value.runs

-- each byte of the range has the mode, and no other byte has one
abbrev pub HasJust : Modes → Mode → Span → Type 0
HasJust modes mode span = (byte : ℕ) → modes byte ≡ (if is_covered span byte then Some mode else None)

-- it keeps the runs of all lists
abbrev pub AreIndexed : OwnersIndex → List (Owner × OwnerRuns) → Type 0
AreIndexed index lists = IsKeptAs index (modes_among lists)

-- it does so in one way at most
pub AreIndexed-prop : (index : OwnersIndex) (lists : List (Owner × OwnerRuns)) → IsProp (AreIndexed index lists)
AreIndexed-prop index lists = hlevel props
