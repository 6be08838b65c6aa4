-- The owners that a file keeps beside its book: for `LockFile::set_flock`, `LockFile::place_flock` and
-- `LockFile::next_flock_owner`.
use Rattle.lock_server.proofs.Common.{common_steps, ℕ, ◌≡◌, ◌<◌, ◌≤◌, ◌∙◌, true, false, Option, Some, None, refl, sym, arith, IfNone, IfSome, IsTrue, contains, nat_cmp, cases_eq, Mode, Book, has_flock_place}
use Rattle.std.specs.BTreeSet.{BTreeSet}
use Rattle.lock_book.specs.Books.{flock_modes_of, SetsFlock}
use Rattle.lock_server.specs.FlockOwners.{AreKnown}

-- a mode that is set in its place makes no owner known that wasn't
pub AreKnown-sets : (owners : BTreeSet ℕ) (old new : Book) (owner : ℕ) (mode : Option Mode) → AreKnown owners old
    → IsTrue (has_flock_place old owner) → SetsFlock old new owner mode → AreKnown owners new
AreKnown-sets owners old new owner mode known there sets = grind (arith, common_steps, cases_eq)

-- an owner that isn't known has no flock lock
unknown_has_none : (owners : BTreeSet ℕ) (book : Book) (owner : ℕ) → AreKnown owners book → contains nat_cmp owners owner ≡ false → flock_modes_of book owner ≡ None
unknown_has_none owners book owner known unknown = at (flock_modes_of book owner) refl
  where
    at : (held : Option Mode) → flock_modes_of book owner ≡ held → held ≡ None
    at None is = refl
    at (Some mode) is = absurd (let h : false ≡ true = sym unknown ∙ known.holders owner mode is in cc)

module _ (owners : BTreeSet ℕ) (book : Book) (known : AreKnown owners book) (from : ℕ) where
  pub known_least : (found : Option ℕ) → IfSome found (λ owner. (other : ℕ) → from ≤ other → other < owner → contains nat_cmp owners other ≡ false)
      → IfSome found (λ owner. (other : ℕ) → from ≤ other → other < owner → flock_modes_of book other ≡ None)
  known_least None least = tt
  known_least (Some owner) least = λ other late early. unknown_has_none owners book other known (least other late early)

  pub known_none : (found : Option ℕ) → IfNone found ((owner : ℕ) → from ≤ owner → contains nat_cmp owners owner ≡ false)
      → IfNone found ((owner : ℕ) → from ≤ owner → flock_modes_of book owner ≡ None)
  known_none None none = λ owner late. unknown_has_none owners book owner known (none owner late)
  known_none (Some owner) none = tt
