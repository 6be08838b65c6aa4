-- A server's state as bytes. An export is a list of words of 64 bits, each as eight bytes, the lowest first:
--
--     export  = version rules files grants crossed notes
--     version = 1
--     rules   = policy conversion
--     files   = count file..      file  = number locks flocks waits
--     locks   = count lock..      lock  = owner first last mode
--     flocks  = count flock..     flock = owner mode
--     waits   = count wait..      wait  = ticket owner family first last mode detect
--     grants  = count ticket..
--     crossed = count owner..
--     notes   = count note..      note  = file owner open_file
--
-- policy is 0 where held locks alone block, and 1 for the queue policy; conversion is 0
-- where it is stepwise, and 1 where it is atomic; mode is 1 for a read lock and 2 for a
-- write lock; family is 0 for byte locks and 1 for flock locks; detect is 0 or 1. In which order each list is, and what it has, says
-- `IsInventory`.
use Rattle.std.specs.Prelude.{◌≡◌, ℕ, Bool, true, false, Option, List, [], ◌∷◌, ◌++◌, length}
use Rattle.std.specs.List.{flat_map}
use Rattle.range_core.specs.declared.Mode.{Mode}
use Rattle.range_core.specs.declared.Mode.TheVariants.{Read, Write}
use Rattle.wait_core.specs.declared.Family.{Family}
use Rattle.wait_core.specs.declared.Family.TheVariants.{Bytes, Whole}
use Rattle.wait_core.specs.declared.Policy.{Policy}
use Rattle.wait_core.specs.declared.Policy.TheVariants.{Held, Queue}
use Rattle.lock_server.specs.declared.Conversion.{Conversion}
use Rattle.lock_server.specs.declared.Conversion.TheVariants.{Stepwise, Atomic}
use Rattle.lock_server.specs.declared.FlockLock.{FlockLock}
use Rattle.lock_server.specs.declared.Lock.{Lock}
use Rattle.lock_server.specs.declared.Pending.{Pending}
use Rattle.lock_server.specs.declared.Rules.{Rules}
use Rattle.lock_server.specs.Inventory.{FileEntry, Inventory, IsInventory, Note}
use Rattle.lock_server.specs.States.{State}
use Rattle.lock_server.specs.Words.{AreWords, bytes_of}

-- the version of the format (this project's choice)
abbrev pub version : ℕ
version = 1

-- a mode as a word: 1 is a read lock, 2 a write lock (this project's choice)
abbrev pub mode_word : Mode → ℕ
mode_word Read = 1
mode_word Write = 2

-- a family as a word: 0 is that of byte locks, 1 that of flock locks (this project's choice)
abbrev pub family_word : Family → ℕ
family_word Bytes = 0
family_word Whole = 1

-- a yes or no as a word: 1 is yes (this project's choice)
abbrev pub flag_word : Bool → ℕ
flag_word false = 0
flag_word true = 1

-- a policy as a word: 0 is that of held locks alone, 1 the queue policy (this project's choice)
abbrev pub policy_word : Policy → ℕ
policy_word Held = 0
policy_word Queue = 1

-- a conversion as a word: 0 is stepwise, 1 atomic (this project's choice)
abbrev pub conversion_word : Conversion → ℕ
conversion_word Stepwise = 0
conversion_word Atomic = 1

-- the rules of a server as words (this project's choice)
abbrev pub rules_words : Rules → List ℕ
rules_words rules = policy_word rules.policy ∷ conversion_word rules.conversion ∷ []

-- a list as words: how many there are, and then each (this project's choice)
abbrev pub listed : {X : Type 0} → (X → List ℕ) → List X → List ℕ
listed spell items = length items ∷ flat_map spell items

-- a byte lock as words (this project's choice)
abbrev pub lock_words : Lock → List ℕ
lock_words lock = lock.owner ∷ lock.span.first ∷ lock.span.last ∷ mode_word lock.mode ∷ []

-- a flock lock as words (this project's choice)
abbrev pub flock_words : FlockLock → List ℕ
flock_words lock = lock.owner ∷ mode_word lock.mode ∷ []

-- a wait as words (this project's choice)
abbrev pub wait_words : Pending → List ℕ
wait_words wait = wait.ticket ∷ wait.owner ∷ family_word wait.family ∷ wait.span.first ∷ wait.span.last ∷ mode_word wait.mode ∷ flag_word wait.detect ∷ []

-- a file with what stands on it as words (this project's choice)
abbrev pub file_words : FileEntry → List ℕ
file_words entry = entry.number ∷ (listed lock_words entry.locks ++ (listed flock_words entry.flocks ++ listed wait_words entry.waits))

-- a number by itself as a word (this project's choice)
abbrev pub number_words : ℕ → List ℕ
number_words number = number ∷ []

-- a note as words (this project's choice)
abbrev pub note_words : Note → List ℕ
note_words note = note.file ∷ note.owner ∷ note.open_file ∷ []

-- all that a server has as words (this project's choice)
abbrev pub inventory_words : Inventory → List ℕ
inventory_words inventory =
    listed file_words inventory.files ++ (listed number_words inventory.grants ++ (listed number_words inventory.crossed ++ listed note_words inventory.notes))

-- a whole export as words (this project's choice)
abbrev pub export_words : Rules → Inventory → List ℕ
export_words rules inventory = version ∷ (rules_words rules ++ inventory_words inventory)

-- the bytes are the export of a server with these rules, in this state and with these notes, of whose numbers each has 64 bits
-- (this project's choice)
pub record IsExport (rules : Rules) (S : State) (through : ℕ → ℕ → Option ℕ) (bytes : List ℕ) : Type 0 where
  pub inventory : Inventory
  pub is_inventory : IsInventory S through inventory
  pub are_words : AreWords (export_words rules inventory)
  pub is : bytes ≡ bytes_of (export_words rules inventory)
