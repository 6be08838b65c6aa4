-- What a file's waits and their room come to where one leaves: for `LockFile::cancel` and `LockFile::remove_at`.
use Rattle.lock_server.proofs.Common.{ℕ, ◌≡◌, ◌<◌, ◌∙◌, sym, subst, arith, suc, List, ◌∷◌, ◌++◌, All, length, get_or, take, drop, common_steps, length-take-le, IsByteRange, Book, Family, Bytes, Whole, Pending, LockFile, FileState, Leaves, SameFile, SameLocks, HasRoom, IsReservedIn, LeavesAt}
use Rattle.lock_server.proofs.LeaveLemmas.{All-without, split_at}
use Rattle.lock_server.proofs.RoomLemmas.{HasRoom-left, byte_room_left, flock_place_left}

-- a wait has left as long as the file is the same
pub left_still : (F M G : FileState) (before after : List Pending) (wait : Pending) → Leaves F before wait after M → SameFile M G
    → Leaves F before wait after G
left_still F M G before after wait leaves same = grind (arith, common_steps)

module _ (waits left : List Pending) (place : ℕ) (wait : Pending) (within : place < length waits) (is : get_or waits place wait ≡ wait)
    (rest : left ≡ take place waits ++ drop (suc place) waits) where
  stood : waits ≡ take place waits ++ wait ∷ drop (suc place) waits
  stood = split_at waits place wait within is

  pub ranges_left : All (λ other. IsByteRange other.span) waits → All (λ other. IsByteRange other.span) left
  ranges_left all =
      subst (λ (l : List Pending). All (λ other. IsByteRange other.span) l) (sym rest)
      (All-without (λ other. IsByteRange other.span) (take place waits) (drop (suc place) waits) wait
      (subst (λ (l : List Pending). All (λ other. IsByteRange other.span) l) stood all))

  room_before : (book : Book) → HasRoom book waits → HasRoom book (take place waits ++ wait ∷ drop (suc place) waits)
  room_before book room = subst (λ (l : List Pending). HasRoom book l) stood room

  pub room_left : (book : Book) → HasRoom book waits → HasRoom book left
  room_left book room =
      subst (λ (l : List Pending). HasRoom book l) (sym rest)
      (HasRoom-left book (take place waits) (drop (suc place) waits) wait (room_before book room))

  pub leaves_at : (F G : FileState) → F.waits ≡ waits → G.waits ≡ left → SameLocks F G → LeavesAt F place wait G
  leaves_at F G before after locks = record {
    before = take place waits;
    after = drop (suc place) waits;
    at = length-take-le place waits (omega (arith, within));
    leaves = record { place = before ∙ stood; locks = locks; waits = after ∙ rest };
  }

  pub reserved_left : (file : LockFile) (family : Family) → wait.family ≡ family → HasRoom file.book waits → file.waits.items ≡ left
      → IsReservedIn family file wait
  reserved_left file Bytes of_bytes room now =
      rw (now, rest) (byte_room_left file.book (take place waits) (drop (suc place) waits) wait (room_before file.book room) of_bytes)
  reserved_left file Whole of_whole room now =
      flock_place_left file.book (take place waits) (drop (suc place) waits) wait (room_before file.book room) of_whole
