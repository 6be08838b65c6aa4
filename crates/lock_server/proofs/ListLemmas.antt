-- Some element of a list: of one that was mapped, and of waits that block; for `LockServer::flock_or_wait`, `LockFile::is_blocked_at` and
-- `LockFile::is_wait_blocked`.
use Rattle.lock_server.proofs.Common.{◌≡◌, ◌⊎◌, inl, inr, sym, subst, refl, arith, zero, suc, List, [], ◌∷◌, ◌++◌, Any, length, ◌↔◌, IsTrue, Policy, Held, Queue, Pending, FileState, IsBlockedUnless, IsHeldBack, PendingsConflict}
use Rattle.std.specs.Prelude.{Bool}

module _ {X : Type 0} where
  pub Any-nil : (P : X → Type 0) → ¬ Any P []
  Any-nil P (k, x, within, is, holds) = omega (arith, within)

  pub Any-here : (P : X → Type 0) (x : X) (xs : List X) → P x → Any P (x ∷ xs)
  Any-here P x xs holds = (0, x, (let n = length xs in omega arith), refl, holds)

  pub Any-there : (P : X → Type 0) (x : X) (xs : List X) → Any P xs → Any P (x ∷ xs)
  Any-there P x xs (k, y, within, is, holds) = (suc k, y, omega (arith, within), is, holds)

  pub Any-cons : (P : X → Type 0) (x : X) (xs : List X) → Any P (x ∷ xs) → P x ⊎ Any P xs
  Any-cons P x xs (zero, y, within, is, holds) = inl (subst P (sym is) holds)
  Any-cons P x xs (suc k, y, within, is, holds) = inr (k, y, omega (arith, within), is, holds)

-- no list without waits has one
pub no_place : (before : List Pending) (wait : Pending) (after : List Pending) → [] ≡ before ++ wait ∷ after → ⊥
no_place [] wait after e = let h : [] ≡ wait ∷ after = e in cc
no_place (first ∷ before) wait after e = let h : [] ≡ first ∷ (before ++ wait ∷ after) = e in cc

pub Any-weaker : {X : Type 0} (P Q : X → Type 0) → ((x : X) → P x → Q x) → (xs : List X) → Any P xs → Any Q xs
Any-weaker P Q weaker xs (k, x, within, is, holds) = (k, x, within, is, weaker x holds)

-- blocked by an earlier wait, where no lock is in the way
pub queued : (F : FileState) (earlier : List Pending) (wait : Pending) (Had : Type 0) (any : Bool) → ¬ IsHeldBack F wait
    → IsTrue any ↔ (Any (λ v. PendingsConflict v wait) earlier × ¬ Had) → IsTrue any ↔ IsBlockedUnless Queue F earlier wait Had
queued F earlier wait Had any free says = (λ is. inr (says.0 is), λ blocked. elim blocked [ inl held ↦ absurd (free held) | inr behind ↦ says.1 behind ])

-- blocked whichever way it is said what the owner had
pub unless_same : (policy : Policy) (F : FileState) (earlier : List Pending) (wait : Pending) (Had Did : Type 0) → Had ↔ Did
    → IsBlockedUnless policy F earlier wait Had → IsBlockedUnless policy F earlier wait Did
unless_same Held F earlier wait Had Did same blocked = blocked
unless_same Queue F earlier wait Had Did same (inl held) = inl held
unless_same Queue F earlier wait Had Did same (inr behind) = inr (behind.0, λ did. behind.1 (same.1 did))

-- blocked by a lock
pub held_back : (policy : Policy) (F : FileState) (earlier : List Pending) (wait : Pending) (Had : Type 0) → IsHeldBack F wait
    → IsBlockedUnless policy F earlier wait Had
held_back Held F earlier wait Had held = held
held_back Queue F earlier wait Had held = inl held
