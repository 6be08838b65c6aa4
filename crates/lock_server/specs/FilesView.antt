-- What the entries of files stand for (the words are this project's choice).
use Rattle.std.specs.Prelude.{◌≡◌, ◌≢◌, ℕ, Option}
use Rattle.std.specs.Borrow.{LendsSo, MutBor, Fml}
use Rattle.std.specs.BTreeMap.{get}
use Rattle.std.specs.Option.{option_map}
use Rattle.std.specs.Ordering.{nat_cmp}
use Rattle.lock_server.specs.declared.file.LockFile.{LockFile}
use Rattle.lock_server.specs.contracts.file.LockFile as locks
use Rattle.lock_server.specs.declared.files.Files.{Files}
use Rattle.lock_server.specs.contracts.files.Files.{the_row}

-- the entry of the file among these, which is in a box
unfoldable pub entry_in : Files → ℕ → Option LockFile
entry_in files file = option_map (λ held. held.value) (get nat_cmp files.by_number file)

-- new has this entry for the file, or none, and all others as old does
pub record PutsEntry (old new : Files) (file : ℕ) (entry : Option LockFile) : Type 0 where
  pub here : entry_in new file ≡ entry
  pub others : (other : ℕ) → other ≢ file → entry_in new other ≡ entry_in old other

-- once the borrow ends, the file has the entry that was left behind it in the place of its own, and all stay where it has none
abbrev pub LendsEntry : MutBor Files → ℕ → Option (MutBor LockFile) → Fml
LendsEntry files file lent =
    LendsSo the_row locks.the_row files lent (λ new after. PutsEntry files.now new file (option_map (λ _. after) (entry_in files.now file)))
    (λ new. new ≡ files.now)
