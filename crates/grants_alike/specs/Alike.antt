-- When a state of the lock manager and a file of the lock server are alike, and that both then grant alike. The manager's owners are processes
-- and open file descriptions, the server's are numbers (the words are this project's choice).
use Rattle.std.specs.Prelude.{◌≡◌, ◌≢◌, ℕ, ◌==◌, ⊤, Option, Some, None, List, [], ◌∷◌, All, Contains, filter, map, slice_get}
use Rattle.range_core.specs.declared.Mode.{Mode}
use Rattle.lock_book.specs.declared.Owner.{Owner}
use Rattle.lock_book.specs.declared.Owner.TheVariants.{Process, Description}
use Rattle.wait_core.specs.declared.Family.{Family}
use Rattle.wait_core.specs.declared.Family.TheVariants.{Bytes, Whole}
use Rattle.wait_core.specs.declared.Policy.TheVariants.{Held}
use Rattle.wait_core.specs.declared.Wait.{Wait}
use Rattle.wait_core.specs.Locks.{Locks}
use Rattle.lock_manager.specs.declared.request.Note.{Note}
use Rattle.lock_manager.specs.declared.request.Note.TheVariants.{Answer}
use Rattle.lock_manager.specs.declared.request.Reply.TheVariants as replies
use Rattle.lock_manager.specs.State.{State, locks_held}
use Rattle.lock_manager.specs.Settling.{Settles as ManagerSettles}
use Rattle.lock_server.specs.declared.Pending.{Pending}
use Rattle.lock_server.specs.Files.{FileState}
use Rattle.lock_server.specs.Settling.{Settles as ServerSettles}

-- by which number the server knows an owner of byte locks, and by which a description that may have a flock lock, if it knows it
pub record Numbers : Type 0 where
  pub of_owner : Owner → Option ℕ
  pub of_description : ℕ → Option ℕ

-- no two holders of locks have one number
abbrev pub TellsApart : {Holder : Type 0} → (Holder → Option ℕ) → Type 0
TellsApart {Holder} number_of = (one other : Holder) (number : ℕ) → number_of one ≡ Some number → number_of other ≡ Some number → one ≡ other

-- each holder with a number has there, under its number, the mode that it has here; and whoever has a mode, here or there, has a number
pub record SameModes {Holder : Type 0} (number_of : Holder → Option ℕ) (here : Holder → Option Mode) (there : ℕ → Option Mode) : Type 0 where
  pub same : (holder : Holder) (number : ℕ) → number_of holder ≡ Some number → there number ≡ here holder
  pub known : (holder : Holder) → number_of holder ≡ None → here holder ≡ None
  pub owned : (number : ℕ) → there number ≢ None → (holder : Holder) × (number_of holder ≡ Some number)

-- the same owners have the same modes on each byte of the manager's file and of the server's, and by flock
pub record SameLocks (numbers : Numbers) (locks : Locks) (file : ℕ) (F : FileState) : Type 0 where
  pub bytes : (byte : ℕ) → SameModes numbers.of_owner (λ owner. locks.bytes file owner byte) (λ number. F.bytes number byte)
  pub flocks : SameModes numbers.of_description (locks.flocks file) F.flocks

-- the server knows the owner of locks of the family by this number: a flock lock is always a description's (flock(2))
abbrev pub IsKnownAs : Numbers → Family → Owner → ℕ → Type 0
IsKnownAs numbers Bytes owner number = numbers.of_owner owner ≡ Some number
IsKnownAs numbers Whole (Description description) number = numbers.of_description description ≡ Some number
IsKnownAs numbers Whole (Process p) number = ⊥

-- the manager's wait and the server's are for the same lock of the same owner
pub record SameWait (numbers : Numbers) (wait : Wait) (pending : Pending) : Type 0 where
  pub family : wait.family ≡ pending.family
  pub owner : IsKnownAs numbers wait.family wait.owner pending.owner
  pub span : wait.span ≡ pending.span
  pub mode : wait.mode ≡ pending.mode

-- the waits of the one list are for the same locks as those of the other, in the same order
abbrev pub AreSameWaits : Numbers → List Wait → List Pending → Type 0
AreSameWaits numbers [] [] = ⊤
AreSameWaits numbers (wait ∷ waits) (pending ∷ pendings) = SameWait numbers wait pending × AreSameWaits numbers waits pendings
AreSameWaits numbers [] (pending ∷ pendings) = ⊥
AreSameWaits numbers (wait ∷ waits) [] = ⊥

-- those of the waits that are on the file, in the same order
abbrev pub waits_on_file : ℕ → List Wait → List Wait
waits_on_file file waits = filter (λ wait. wait.file == file) waits

-- the manager's state and the server's file are alike: no two owners have one number, the same owners have the same locks on the
-- manager's file as there, and the waits on it are those there, in the same order
pub record AreAlike (numbers : Numbers) (file : ℕ) (S : State) (F : FileState) : Type 0 where
  pub owners : TellsApart numbers.of_owner
  pub descriptions : TellsApart numbers.of_description
  pub locks : SameLocks numbers (locks_held S) file F
  pub waits : AreSameWaits numbers (waits_on_file file S.waits) F.waits

-- the one wait stands in the manager's list where the other stands in the server's
pub record IsAtOnePlace (waits : List Wait) (pendings : List Pending) (wait : Wait) (pending : Pending) : Type 0 where
  pub place : ℕ
  pub here : slice_get waits place ≡ Some wait
  pub there : slice_get pendings place ≡ Some pending

-- one by one, the granted waits are those at the same places of the two lists
abbrev pub AreAtOnePlace : List Wait → List Pending → List Wait → List Pending → Type 0
AreAtOnePlace waits pendings [] [] = ⊤
AreAtOnePlace waits pendings (wait ∷ given) (pending ∷ granted) = IsAtOnePlace waits pendings wait pending × AreAtOnePlace waits pendings given granted
AreAtOnePlace waits pendings [] (pending ∷ granted) = ⊥
AreAtOnePlace waits pendings (wait ∷ given) [] = ⊥

-- the manager's notes tell that some of its waits are granted, and those of them on the file are the ones that the server grants, in the same order
pub record AreSameGrants (file : ℕ) (waits : List Wait) (pendings : List Pending) (grants : List Note) (granted : List Pending) : Type 0 where
  pub given : List Wait
  pub told : grants ≡ map (λ wait. Answer wait.p wait.n replies.Ok) given
  pub among : All (Contains waits) given
  pub same : AreAtOnePlace (waits_on_file file waits) pendings (waits_on_file file given) granted

-- each wait of the manager is on the file
abbrev pub AreOnlyOn : ℕ → State → Type 0
AreOnlyOn file S = All (λ wait. wait.file ≡ file) S.waits

-- from a state and a file that are alike, both engines make the same grants on the file, whatever the manager grants on others, and leave what
-- is alike; where the manager settles, so does the server, and where the server does and the manager has no other waits, so does the manager
pub record EnginesGrantAlike : Type 0 where
  pub alike : (numbers : Numbers) (file : ℕ) (S T : State) (F G : FileState) (grants : List Note) (granted : List Pending)
      → AreAlike numbers file S F → ManagerSettles Held S grants T → ServerSettles Held F granted G
      → AreSameGrants file S.waits F.waits grants granted × AreAlike numbers file T G
  pub server_settles : (numbers : Numbers) (file : ℕ) (S T : State) (F : FileState) (grants : List Note)
      → AreAlike numbers file S F → ManagerSettles Held S grants T
      → (granted : List Pending) × (G : FileState) × ServerSettles Held F granted G
  pub manager_settles : (numbers : Numbers) (file : ℕ) (S : State) (F G : FileState) (granted : List Pending)
      → AreAlike numbers file S F → AreOnlyOn file S → ServerSettles Held F granted G
      → (grants : List Note) × (T : State) × ManagerSettles Held S grants T
