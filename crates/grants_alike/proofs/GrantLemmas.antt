-- What a grant leaves is alike: of the same wait in both, and in the manager of a wait on another file.
use Rattle.grants_alike.proofs.Common.{◌≡◌, ℕ, ◌==◌, Bool, true, false, ◌&&◌, Option, Some, None, List, [], ◌∷◌, ◌++◌, refl, sym, ap, ◌∙◌, subst, if◌then◌else◌, eq-eqb, eqb-true, Mode, is_covered, Owner, Process, Description, Family, Bytes, Whole, Wait, State, locks_held, Pending, FileState, Numbers, TellsApart, SameLocks, AreSameWaits, waits_on_file, AreAlike}
use Rattle.lock_book.specs.Owners.{is_same_owner}
use Rattle.lock_book.specs.Changes.{Change, FlockChange, sets_byte, mode_from, flock_mode_from}
use Rattle.lock_manager.specs.State.{with_lock_of}
use Rattle.lock_manager.specs.Settling.{granted}
use Rattle.lock_server.specs.Files.{SameFile, SetsLock, GetsLock}
use Rattle.grants_alike.specs.Alike.{IsKnownAs}
use Rattle.grants_alike.proofs.HolderLemmas.{modes_stay, modes_set, modes_set_where}
use Rattle.grants_alike.proofs.BlockedLemmas.{as_asked_is}
use Rattle.grants_alike.proofs.WaitLemmas.{is_on_file, on_file_without, on_file_elsewhere, SameSplit, waits_appended}

-- ---- one more change

mode_push : (before : Option Mode) (changes : List Change) (change : Change) (file : ℕ) (owner : Owner) (byte : ℕ)
    → mode_from before (changes ++ change ∷ []) file owner byte
    ≡ (if sets_byte change file owner byte then change.mode else mode_from before changes file owner byte)
mode_push before [] change file owner byte = refl
mode_push before (first ∷ changes) change file owner byte =
    mode_push (if sets_byte first file owner byte then first.mode else before) changes change file owner byte

flock_push : (before : Option Mode) (changes : List FlockChange) (change : FlockChange) (file description : ℕ)
    → flock_mode_from before (changes ++ change ∷ []) file description
    ≡ (if (change.file == file) && (change.description == description) then change.mode else flock_mode_from before changes file description)
flock_push before [] change file description = refl
flock_push before (first ∷ changes) change file description =
    flock_push (if (first.file == file) && (first.description == description) then first.mode else before) changes change file description

same_owner_itself : (owner : Owner) → is_same_owner owner owner ≡ true
same_owner_itself (Process p) = eq-eqb p p refl
same_owner_itself (Description description) = eq-eqb description description refl

same_owner_is : (owner other : Owner) → is_same_owner owner other ≡ true → other ≡ owner
same_owner_is (Process p) (Process q) is = ap Process (sym (eqb-true p q is))
same_owner_is (Description d) (Description e) is = ap Description (sym (eqb-true d e is))
same_owner_is (Process p) (Description e) is = absurd (let bad : false ≡ true = is in cc)
same_owner_is (Description d) (Process q) is = absurd (let bad : false ≡ true = is in cc)

-- ---- the locks

module _ (S : State) (wait : Wait) (file : ℕ) (on : Bool) (is : is_on_file file wait ≡ on) where
  -- the modes on the file where this owner gets the lock of the wait
  byte_after : (owner other : Owner) (byte : ℕ) → (locks_held (with_lock_of Bytes owner S wait)).bytes file other byte
      ≡ (if on && is_same_owner owner other && is_covered wait.span byte then Some wait.mode else (locks_held S).bytes file other byte)
  byte_after owner other byte =
      mode_push None S.changes (record { file = wait.file; owner = owner; span = wait.span; mode = Some wait.mode }) file other byte
      ∙ ap (λ (b : Bool). if b && is_same_owner owner other && is_covered wait.span byte then Some wait.mode else (locks_held S).bytes file other byte) is

  flock_after : (description other : ℕ) → (locks_held (with_lock_of Whole (Description description) S wait)).flocks file other
      ≡ (if on && (description == other) then Some wait.mode else (locks_held S).flocks file other)
  flock_after description other =
      flock_push None S.flock_changes (record { file = wait.file; description = description; mode = Some wait.mode }) file other
      ∙ ap (λ (b : Bool). if b && (description == other) then Some wait.mode else (locks_held S).flocks file other) is

module _ (numbers : Numbers) (file : ℕ) (S : State) (F : FileState) (wait : Wait) where
  -- the same lock is set in both
  locks_after : (N : FileState) (family : Family) (owner : Owner) (number : ℕ) → TellsApart numbers.of_owner → TellsApart numbers.of_description
      → is_on_file file wait ≡ true → IsKnownAs numbers family owner number → SetsLock family F number wait.span (Some wait.mode) N
      → SameLocks numbers (locks_held S) file F → SameLocks numbers (locks_held (with_lock_of family owner S wait)) file N
  locks_after N Bytes owner number owners descriptions on known sets same =
      record {
        bytes = λ byte. modes_stay numbers.of_owner _ _ _ _ (λ other. byte_after S wait file true on owner other byte) (λ other. sets.bytes other byte)
            (modes_set_where numbers.of_owner (λ (other : Owner). (locks_held S).bytes file other byte) (λ (other : ℕ). F.bytes other byte)
            (is_same_owner owner) owner number wait.mode owners known (same_owner_itself owner) (same_owner_is owner) (is_covered wait.span byte)
            (same.bytes byte));
        flocks = modes_stay numbers.of_description ((locks_held S).flocks file) _ F.flocks _ (λ description. refl) sets.flocks same.flocks;
      }
  locks_after N Whole (Description description) number owners descriptions on known sets same =
      record {
        bytes = λ byte. modes_stay numbers.of_owner (λ (other : Owner). (locks_held S).bytes file other byte) _ (λ (other : ℕ). F.bytes other byte) _
            (λ other. refl) (λ other. sets.bytes other byte) (same.bytes byte);
        flocks = modes_stay numbers.of_description _ _ _ _ (flock_after S wait file true on description) sets.flocks
            (modes_set numbers.of_description ((locks_held S).flocks file) F.flocks (λ (other : ℕ). description == other) description number wait.mode
            descriptions known (eq-eqb description description refl) (λ other is. sym (eqb-true description other is)) same.flocks);
      }
  locks_after N Whole (Process p) number owners descriptions on known sets same = absurd known

  -- a lock on another file is set in the manager
  locks_elsewhere : (family : Family) (owner : Owner) → is_on_file file wait ≡ false
      → SameLocks numbers (locks_held S) file F → SameLocks numbers (locks_held (with_lock_of family owner S wait)) file F
  locks_elsewhere Bytes owner off same =
      record {
        bytes = λ byte. modes_stay numbers.of_owner (λ (other : Owner). (locks_held S).bytes file other byte) _ (λ (other : ℕ). F.bytes other byte) _
            (λ other. byte_after S wait file false off owner other byte) (λ other. refl) (same.bytes byte);
        flocks = same.flocks;
      }
  locks_elsewhere Whole (Description description) off same =
      record {
        bytes = same.bytes;
        flocks = modes_stay numbers.of_description ((locks_held S).flocks file) _ F.flocks _ (flock_after S wait file false off description)
            (λ other. refl) same.flocks;
      }
  locks_elsewhere Whole (Process p) off same = same

-- ---- the grants

pub alike_after : (numbers : Numbers) (file : ℕ) (S : State) (F N : FileState) (before : List Wait) (wait : Wait) (after : List Wait)
    (before' : List Pending) (pending : Pending) (after' : List Pending) → AreAlike numbers file S F → is_on_file file wait ≡ true
    → SameSplit numbers (waits_on_file file before) wait (waits_on_file file after) before' pending after'
    → GetsLock F pending N → N.waits ≡ before' ++ after' → AreAlike numbers file (granted S before wait after) N
alike_after numbers file S F N before wait after before' pending after' alike on split gets left =
    record {
      owners = alike.owners;
      descriptions = alike.descriptions;
      locks = locks_after numbers file S F wait N wait.family wait.owner pending.owner alike.owners alike.descriptions on split.wait_same.owner
          (subst (λ (q : Pending). GetsLock F q N) (sym (as_asked_is numbers wait pending split.wait_same)) gets) alike.locks;
      waits = subst (λ (pendings : List Pending). AreSameWaits numbers (waits_on_file file (before ++ after)) pendings) (sym left)
          (subst (λ (waits : List Wait). AreSameWaits numbers waits (before' ++ after')) (sym (on_file_without file before after))
          (waits_appended numbers (waits_on_file file before) (waits_on_file file after) before' after' split.before_same split.after_same));
    }

pub alike_elsewhere : (numbers : Numbers) (file : ℕ) (S : State) (F : FileState) (before : List Wait) (wait : Wait) (after : List Wait)
    → AreAlike numbers file S F → S.waits ≡ before ++ wait ∷ after → is_on_file file wait ≡ false → AreAlike numbers file (granted S before wait after) F
alike_elsewhere numbers file S F before wait after alike place off =
    record {
      owners = alike.owners;
      descriptions = alike.descriptions;
      locks = locks_elsewhere numbers file S F wait wait.family wait.owner off alike.locks;
      waits = subst (λ (waits : List Wait). AreSameWaits numbers waits F.waits)
          (ap (waits_on_file file) place ∙ on_file_elsewhere file before wait after off) alike.waits;
    }

-- the same file at another moment
pub alike_same : (numbers : Numbers) (file : ℕ) (S : State) (F G : FileState) → SameFile F G → AreAlike numbers file S F → AreAlike numbers file S G
alike_same numbers file S F G same alike =
    record {
      owners = alike.owners;
      descriptions = alike.descriptions;
      locks = record {
        bytes = λ byte. modes_stay numbers.of_owner (λ (owner : Owner). (locks_held S).bytes file owner byte) _ (λ (owner : ℕ). F.bytes owner byte) _
            (λ owner. refl) (λ owner. same.locks.bytes owner byte) (alike.locks.bytes byte);
        flocks = modes_stay numbers.of_description ((locks_held S).flocks file) _ F.flocks _ (λ description. refl) same.locks.flocks alike.locks.flocks;
      };
      waits = subst (λ (pendings : List Pending). AreSameWaits numbers (waits_on_file file S.waits) pendings) (sym same.waits) alike.waits;
    }
