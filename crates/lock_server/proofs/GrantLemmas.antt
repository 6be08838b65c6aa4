-- The wait at a place that is granted, and the place where a wait is found: for `LockFile::cancel`, `LockFile::dismiss`, `LockFile::give` and
-- `LockFile::grant`.
use Rattle.lock_server.proofs.Common.{common_steps, ℕ, ◌≡◌, ◌+◌, ◌<◌, ◌∙◌, ap, Option, refl, sym, subst, arith, true, false, Bool, Some, None, List, [], ◌∷◌, ◌++◌, All, length, get_or, ◌&&◌, if◌then◌else◌, slice_get, IsTrue, OnOk, Result, Ok, Err, same_Some, slice_get-get_or, slice_get_cases, slice_get_within}
use Rattle.lock_server.proofs.Common.{IsPlaceFrom, Description, IsByteRange, Mode, Span, is_covered, Owner, Book, is_same_owner, room_in, has_flock_place, Family, Bytes, Whole, Policy, Pending, FileState, SameLocks, SetsLock, GetsLock, Grants, IsReadyAt, IsReservedIn, LeavesAt, LockFile}
use Rattle.std.proofs.Common.{length-append}
use Rattle.std.specs.Prelude.{IsOk}
use Rattle.lock_book.specs.Books.{SameButRoom, SetsOwnerMode}
use Rattle.lock_server.specs.Room.{byte_waits}

-- two parts of a list at one place are the same
pub record SameParts {X : Type 0} (xs ys : List X) (x y : X) (us vs : List X) : Type 0 where
  pub before : xs ≡ ys
  pub here : x ≡ y
  pub after : us ≡ vs

pub same_parts : {X : Type 0} (xs ys : List X) (x y : X) (us vs : List X) → length xs ≡ length ys → xs ++ x ∷ us ≡ ys ++ y ∷ vs → SameParts xs ys x y us vs
same_parts {X} [] [] x y us vs long same = record { before = refl; here = (let e : x ∷ us ≡ y ∷ vs = same in cc); after = (let e : x ∷ us ≡ y ∷ vs = same in cc) }
same_parts {X} [] (b ∷ ys) x y us vs long same = absurd (let none : 0 ≡ length (b ∷ ys) = long in let m = length ys in omega arith)
same_parts {X} (a ∷ xs) [] x y us vs long same = absurd (let none : length (a ∷ xs) ≡ 0 = long in let n = length xs in omega arith)
same_parts {X} (a ∷ xs) (b ∷ ys) x y us vs long same =
    let e : a ∷ (xs ++ x ∷ us) ≡ b ∷ (ys ++ y ∷ vs) = same in
    let first : a ≡ b = cc in
    let rest : xs ++ x ∷ us ≡ ys ++ y ∷ vs = cc in
    let parts = same_parts xs ys x y us vs (let l : length (a ∷ xs) ≡ length (b ∷ ys) = long in omega arith) rest in
    let front = parts.before in record { before = (cc); here = parts.here; after = parts.after }

-- a lock that is given after the wait left is given where it stood
gets_in : (family : Family) (F M G : FileState) (wait : Pending) → SameLocks F M → SetsLock family M wait.owner wait.span (Some wait.mode) G
    → SetsLock family F wait.owner wait.span (Some wait.mode) G
gets_in family F M G wait h h2 = grind (arith, common_steps)

pub gets_where_it_stood : (F M G : FileState) (wait : Pending) → SameLocks F M → GetsLock M wait G → GetsLock F wait G
gets_where_it_stood F M G wait same gets = gets_in wait.family F M G wait same gets

-- the list without the wait is one shorter
pub one_fewer : (F M : FileState) (place : ℕ) (wait : Pending) → LeavesAt F place wait M → length M.waits + 1 ≡ length F.waits
one_fewer F M place wait left = grind (arith, common_steps, length-append)

-- the wait at the place that is ready is granted
pub grants_at : (policy : Policy) (F M G : FileState) (place : ℕ) (wait : Pending) → LeavesAt F place wait M → GetsLock F wait G → G.waits ≡ M.waits
    → IsReadyAt policy F place → Grants policy F wait G
grants_at policy F M G place wait left gets waits ready = grind (arith, common_steps, same_parts)

-- what is found passes the test
pub found_passes : {X : Type 0} (p : X → Bool) (xs : List X) (place : ℕ) (x : X) → IsPlaceFrom p 0 xs (Some place) → slice_get xs place ≡ Some x → p x ≡ true
found_passes {X} p xs place x (item, found) is = subst (λ (y : X). p y ≡ true) (same_Some item x (sym found.there ∙ is)) found.passes

-- and where nothing is found nothing does
pub none_passes : {X : Type 0} (p : X → Bool) (xs : List X) → IsPlaceFrom p 0 xs None → All (λ x. p x ≡ false) xs
none_passes p xs none = λ k d within. none k (get_or xs k d) (omega arith) (slice_get-get_or xs k d within)

pub found_within : {X : Type 0} (p : X → Bool) (xs : List X) (place : ℕ) → IsPlaceFrom p 0 xs (Some place) → place < length xs
found_within p xs place (item, found) = slice_get_within xs place item found.there

-- the wait at a place has a range that all have
pub range_at : (waits : List Pending) (place : ℕ) (wait : Pending) → All (λ other. IsByteRange other.span) waits → slice_get waits place ≡ Some wait
    → IsByteRange wait.span
range_at waits place wait all is = grind (arith, common_steps, slice_get_cases, slice_get-get_or)

-- the room that is held for a wait of each family
pub room_for_one : (file : LockFile) (wait : Pending) → wait.family ≡ Bytes → IsReservedIn wait.family file wait
    → byte_waits file.waits.items wait.owner < room_in file.book (Description wait.owner)
room_for_one file wait is held = subst (λ (family : Family). IsReservedIn family file wait) is held

pub place_for_one : (file : LockFile) (wait : Pending) → wait.family ≡ Whole → IsReservedIn wait.family file wait
    → IsTrue (has_flock_place file.book wait.owner)
place_for_one file wait is held = subst (λ (family : Family). IsReservedIn family file wait) is held

-- a set behind a change of the owner's room
pub sets_behind_room : (old mid new : Book) (owner : Owner) (span : Span) (mode : Option Mode) → SameButRoom old mid owner → SetsOwnerMode mid new owner span mode
    → SetsOwnerMode old new owner span mode
sets_behind_room old mid new owner span mode same sets = record {
  bytes = λ other byte. sets.bytes other byte ∙ ap (λ (held : Option Mode). if is_same_owner owner other && is_covered span byte then mode else held) (same.bytes other byte);
  rooms = λ other differs. sets.rooms other differs ∙ same.rooms other differs;
  flocks = λ description. sets.flocks description ∙ same.flocks description;
  places = λ description. sets.places description ∙ same.places description;
}

-- what holds of a call that succeeds, which it does
pub from_ok : {E : Type 0} (result : Result (Unit {0}) E) (P : Type 0) → IsOk result → OnOk result P → P
from_ok {E} (Ok unit) P is says = says
from_ok {E} (Err refused) P is says = grind (arith, common_steps)
