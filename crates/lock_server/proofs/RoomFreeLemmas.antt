-- Who has neither room nor a place for a grant doesn't wait: for `LockFile::may_wait` and `LockFile::next_among`.
use Rattle.lock_server.proofs.Common.{◌≡◌, ◌≢◌, ℕ, ◌∙◌, Bool, true, false, ◌==◌, List, [], ◌∷◌, Any, length, refl, sym, cond, arith, IsTrue, filter, eq-eqb, All-cons, All-nil, Description, Book, has_flock_place, room_in, Family, Bytes, Whole, Pending, AreOfOthers, is_byte_wait, is_flock_wait, is_of_bytes, HasRoom}
use Rattle.std.proofs.Common.{◌&&◌}
use Rattle.lock_server.specs.Pendings.{is_of_whole}
use Rattle.lock_server.proofs.ListLemmas.{Any-here, Any-there}

-- no wait for byte locks, and none for a flock lock, of the owner is one for either
differs_in : (owner : ℕ) (family : Family) (other : ℕ) → (is_of_bytes family && (other == owner)) ≡ false → ((is_of_whole family && (other == owner)) ≡ true → ⊥)
    → other ≢ owner
differs_in owner Bytes other none never is = let h : false ≡ true = sym none ∙ eq-eqb other owner is in cc
differs_in owner Whole other none never is = never (eq-eqb other owner is)

none_kept_at : (b : Bool) (n : ℕ) (wait : Pending) (kept : List Pending) → length (cond b (wait ∷ kept) kept) ≡ 0 → (b ≡ false) × (length kept ≡ 0)
none_kept_at true n wait kept none = absurd (omega (arith, none))
none_kept_at false n wait kept none = (refl, none)

no_wait : (owner : ℕ) (waits : List Pending) → length (filter (is_byte_wait owner) waits) ≡ 0 → ¬ Any (λ wait. IsTrue (is_flock_wait owner wait)) waits
    → AreOfOthers waits owner
no_wait owner [] bytes flocks = All-nil (λ wait. wait.owner ≢ owner)
no_wait owner (wait ∷ waits) bytes flocks =
    let here = none_kept_at (is_byte_wait owner wait) 0 wait (filter (is_byte_wait owner) waits) bytes in
    All-cons (λ any. any.owner ≢ owner) wait waits
    (differs_in owner wait.family wait.owner here.0 (λ is. flocks (Any-here (λ any. IsTrue (is_flock_wait owner any)) wait waits is)))
    (no_wait owner waits here.1 (λ later. flocks (Any-there (λ any. IsTrue (is_flock_wait owner any)) wait waits later)))

-- so who has neither room nor a place
pub no_room_no_wait : (book : Book) (waits : List Pending) (owner : ℕ) → HasRoom book waits → room_in book (Description owner) ≡ 0
    → has_flock_place book owner ≡ false → AreOfOthers waits owner
no_room_no_wait book waits owner room none nowhere =
    no_wait owner waits (let few = room.bytes owner in omega (arith, few, none))
    (λ any. (let place = room.places owner any in let h : false ≡ true = sym nowhere ∙ place in cc))
