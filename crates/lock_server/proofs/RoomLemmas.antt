-- The room of a file, and what keeps it: for `LockFile::give`, `LockFile::place_flock` and `LockFile::set_flock`.
use Rattle.lock_server.proofs.Common.{common_steps, ℕ, ◌≡◌, ◌+◌, ◌≤◌, ◌<◌, sym, refl, subst, arith, true, false, Bool, Option, List, ◌∷◌, ◌++◌, OnOk, OnErr, IsTrue, ◌||◌, ◌&&◌, cases_eq, eq-eqb, Mode, Span, Owner, Description, Book, room_in, has_flock_place, Family, Bytes, Whole, Pending, is_of_bytes, is_byte_wait, is_flock_wait, HasRoom}
use Rattle.std.proofs.Common.{Result}
use Rattle.std.specs.Prelude.{◌==◌}
use Rattle.lock_book.specs.Books.{ReservesFlock, SameBook, SetsFlock, SetsOwnerMode}
use Rattle.lock_server.specs.Pendings.{is_of_whole}
use Rattle.lock_server.specs.Room.{byte_waits}
use Rattle.lock_server.proofs.LeaveLemmas.{counted_with, Any-with, Any-at}

-- each owner has the room that it had at least, and the places that were kept still are
pub record KeepsRoom (old new : Book) : Type 0 where
  pub rooms : (owner : ℕ) → room_in old (Description owner) ≤ room_in new (Description owner)
  pub places : (owner : ℕ) → IsTrue (has_flock_place old owner) → IsTrue (has_flock_place new owner)

pub HasRoom-kept : (old new : Book) (waits : List Pending) → KeepsRoom old new → HasRoom old waits → HasRoom new waits
HasRoom-kept old new waits keeps room = grind (arith, common_steps)

-- the same room is as much
room_from_same : (old new : Book) → ((owner : Owner) → room_in new owner ≡ room_in old owner) → (owner : ℕ)
    → room_in old (Description owner) ≤ room_in new (Description owner)
room_from_same old new same owner = let e = same (Description owner) in omega arith

or_there : (a b : Bool) → IsTrue b → IsTrue (a || b)
or_there true b there = refl
or_there false b there = there

-- a place that is kept, or refused, keeps the room
pub KeepsRoom-reserves : {T E : Type 0} (r : Result T E) (old new : Book) (owner : ℕ) → OnOk r (ReservesFlock old new owner)
    → OnErr r (SameBook old new) → KeepsRoom old new
KeepsRoom-reserves r old new owner h h2 = grind (arith, common_steps, room_from_same, or_there)

-- and so does a flock mode that is set in its place
pub KeepsRoom-sets : (old new : Book) (owner : ℕ) (mode : Option Mode) → SetsFlock old new owner mode → KeepsRoom old new
KeepsRoom-sets old new owner mode sets = grind (arith, common_steps, room_from_same, or_there)

-- a wait that leaves leaves its room to the others
pub HasRoom-left : (book : Book) (before after : List Pending) (wait : Pending) → HasRoom book (before ++ wait ∷ after) → HasRoom book (before ++ after)
HasRoom-left book before after wait room = record {
  bytes = λ owner. (let had = room.bytes owner in let more = counted_with (is_byte_wait owner) before after wait in omega arith);
  places = λ owner waits_for. room.places owner (Any-with (λ other. IsTrue (is_flock_wait owner other)) before after wait waits_for);
}

-- a wait for bytes is one of its owner, and so is a wait for a flock lock
byte_wait_passes : (owner : ℕ) (family : Family) → family ≡ Bytes → (is_of_bytes family && (owner == owner)) ≡ true
byte_wait_passes owner family of_bytes = subst (λ (f : Family). (is_of_bytes f && (owner == owner)) ≡ true) (sym of_bytes) (eq-eqb owner owner refl)

flock_wait_passes : (owner : ℕ) (family : Family) → family ≡ Whole → (is_of_whole family && (owner == owner)) ≡ true
flock_wait_passes owner family of_whole = subst (λ (f : Family). (is_of_whole f && (owner == owner)) ≡ true) (sym of_whole) (eq-eqb owner owner refl)

one_room_left : (with_it without room : ℕ) → with_it ≤ room → with_it ≡ without + 1 → without < room
one_room_left with_it without room had more = omega arith

-- and, as long as it is not granted, holds one place more than they need
pub byte_room_left : (book : Book) (before after : List Pending) (wait : Pending) → HasRoom book (before ++ wait ∷ after) → wait.family ≡ Bytes
    → byte_waits (before ++ after) wait.owner < room_in book (Description wait.owner)
byte_room_left book before after wait room of_bytes = grind (arith, common_steps, byte_wait_passes, counted_with, one_room_left)

pub flock_place_left : (book : Book) (before after : List Pending) (wait : Pending) → HasRoom book (before ++ wait ∷ after) → wait.family ≡ Whole
    → IsTrue (has_flock_place book wait.owner)
flock_place_left book before after wait room of_whole =
    let passes : is_flock_wait wait.owner wait ≡ true = flock_wait_passes wait.owner wait.family of_whole in
    room.places wait.owner (Any-at (λ other. IsTrue (is_flock_wait wait.owner other)) before after wait passes)

-- which its grant uses up
pub HasRoom-granted : (old new : Book) (waits : List Pending) (owner : ℕ) (span : Span) (mode : Option Mode) → HasRoom old waits
    → byte_waits waits owner < room_in old (Description owner)
    → SetsOwnerMode old new (Description owner) span mode → room_in old (Description owner) ≤ room_in new (Description owner) + 1 → HasRoom new waits
HasRoom-granted old new waits owner span mode room more sets used = grind (arith, common_steps, cases_eq)
