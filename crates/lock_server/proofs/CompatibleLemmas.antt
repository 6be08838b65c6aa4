-- No owners conflict after a change that nothing blocked: for `LockServer::wait`.
use Rattle.lock_server.proofs.Common.{arith, ℕ, ◌≡◌, ◌≢◌, ◌∙◌, ◌⊎◌, inl, inr, sym, subst, refl, Bool, true, false, Option, Some, None, List, common_steps, ◌&&◌, if◌then◌else◌, eqb-true, Mode, Span, Conflict, Covers, HeldConflicts, is_covered, Description, Family, Bytes, Whole, Policy, Held, Queue, IsBlockedIn, Pending, as_wait, FileState, SetsLock, GetsLock, Unlocks, locks_on, IsHeldBack, IsWaitBlocked, IsCompatible}
use Rattle.std.specs.Prelude.{◌==◌}
use Rattle.std.proofs.lemmas.Bool.{leb-true}
use Rattle.lock_server.proofs.StepLemmas.{LocksFrom}

conflict_back : (m k : Mode) → Conflict m k → Conflict k m
conflict_back m k h = grind (arith, common_steps)

both : (a b : Bool) → (a && b) ≡ true → (a ≡ true) × (b ≡ true)
both true b e = (refl, e)
both false b e = let h : false ≡ true = e in cc

-- a change of this owner on this range is one of the other on the byte
pub record Hits (owner : ℕ) (span : Span) (other byte : ℕ) : Type 0 where
  pub is : owner ≡ other
  pub covered : Covers span byte

pub hit : (owner : ℕ) (span : Span) (other byte : ℕ) → (owner == other && is_covered span byte) ≡ true → Hits owner span other byte
hit owner span other byte e = grind (arith, common_steps, both, eqb-true, leb-true)

module _ (F : FileState) (wait : Pending) (before : IsCompatible F) where
  -- the owner that a set gives its mode was blocked by each other one with a mode that conflicts
  given_conflict : ¬ IsBlockedIn Bytes (locks_on F) (as_wait wait) → (one other byte : ℕ) (m k : Mode) → one ≢ other
      → (wait.owner == one && is_covered wait.span byte) ≡ true → Some wait.mode ≡ Some m → F.bytes other byte ≡ Some k
      → ¬ Conflict m k
  given_conflict free one other byte m k distinct is m_is k_is conflict =
      let here = hit wait.owner wait.span one byte is in
      let mode : wait.mode ≡ m = cc in
      free (record {
        byte = byte;
        covered = here.covered;
        other = Description other;
        blocks = record {
          another = λ e. distinct (let same : Description other ≡ Description wait.owner = e in let is : other ≡ wait.owner = cc in sym here.is ∙ sym is);
          conflicts = subst (λ (held : Option Mode). HeldConflicts held wait.mode) (sym k_is) (conflict_back wait.mode k (subst (λ (n : Mode). Conflict n k) (sym mode) conflict));
        };
      })

  -- so of two owners with conflicting modes after a set none was given its own
  no_conflict : ¬ IsBlockedIn Bytes (locks_on F) (as_wait wait) → (one other byte : ℕ) (m k : Mode) (a b : Bool) → one ≢ other
      → (wait.owner == one && is_covered wait.span byte) ≡ a → (wait.owner == other && is_covered wait.span byte) ≡ b
      → (if a then Some wait.mode else F.bytes one byte) ≡ Some m → (if b then Some wait.mode else F.bytes other byte) ≡ Some k → ¬ Conflict m k
  no_conflict free one other byte m k true true distinct a_is b_is m_is k_is conflict =
      distinct (sym (hit wait.owner wait.span one byte a_is).is ∙ (hit wait.owner wait.span other byte b_is).is)
  no_conflict free one other byte m k true false distinct a_is b_is m_is k_is conflict = given_conflict free one other byte m k distinct a_is m_is k_is conflict
  no_conflict free one other byte m k false true distinct a_is b_is m_is k_is conflict =
      given_conflict free other one byte k m (λ same. distinct (sym same)) b_is k_is m_is (conflict_back m k conflict)
  no_conflict free one other byte m k false false distinct a_is b_is m_is k_is conflict = before.bytes byte one other m k distinct m_is k_is conflict

  -- and the same by flock
  given_flock_conflict : ¬ IsBlockedIn Whole (locks_on F) (as_wait wait) → (one other : ℕ) (m k : Mode) → one ≢ other → (wait.owner == one) ≡ true
      → Some wait.mode ≡ Some m → F.flocks other ≡ Some k → ¬ Conflict m k
  given_flock_conflict free one other m k distinct is m_is k_is conflict =
      let here = eqb-true wait.owner one is in
      let mode : wait.mode ≡ m = cc in
      free (record {
        description = other;
        another = λ e. distinct (let same : Description other ≡ Description wait.owner = e in let is : other ≡ wait.owner = cc in sym here ∙ sym is);
        conflicts = subst (λ (held : Option Mode). HeldConflicts held wait.mode) (sym k_is) (conflict_back wait.mode k (subst (λ (n : Mode). Conflict n k) (sym mode) conflict));
      })

  no_flock_conflict : ¬ IsBlockedIn Whole (locks_on F) (as_wait wait) → (one other : ℕ) (m k : Mode) (a b : Bool) → one ≢ other
      → (wait.owner == one) ≡ a → (wait.owner == other) ≡ b
      → (if a then Some wait.mode else F.flocks one) ≡ Some m → (if b then Some wait.mode else F.flocks other) ≡ Some k → ¬ Conflict m k
  no_flock_conflict free one other m k true true distinct a_is b_is m_is k_is conflict = distinct (sym (eqb-true wait.owner one a_is) ∙ eqb-true wait.owner other b_is)
  no_flock_conflict free one other m k true false distinct a_is b_is m_is k_is conflict = given_flock_conflict free one other m k distinct a_is m_is k_is conflict
  no_flock_conflict free one other m k false true distinct a_is b_is m_is k_is conflict =
      given_flock_conflict free other one k m (λ same. distinct (sym same)) b_is k_is m_is (conflict_back m k conflict)
  no_flock_conflict free one other m k false false distinct a_is b_is m_is k_is conflict = before.flocks one other m k distinct m_is k_is conflict

  gets_compatible : (family : Family) (G : FileState) → ¬ IsBlockedIn family (locks_on F) (as_wait wait)
      → SetsLock family F wait.owner wait.span (Some wait.mode) G → IsCompatible G
  gets_compatible Bytes G free sets = record {
    bytes = λ byte one other m k distinct m_is k_is.
        no_conflict free one other byte m k _ _ distinct refl refl (sym (sets.bytes one byte) ∙ m_is) (sym (sets.bytes other byte) ∙ k_is);
    flocks = λ one other m k distinct m_is k_is. before.flocks one other m k distinct (sym (sets.flocks one) ∙ m_is) (sym (sets.flocks other) ∙ k_is);
  }
  gets_compatible Whole G free sets = record {
    bytes = λ byte one other m k distinct m_is k_is. before.bytes byte one other m k distinct (sym (sets.bytes one byte) ∙ m_is) (sym (sets.bytes other byte) ∙ k_is);
    flocks = λ one other m k distinct m_is k_is.
        no_flock_conflict free one other m k _ _ distinct refl refl (sym (sets.flocks one) ∙ m_is) (sym (sets.flocks other) ∙ k_is);
  }

  -- a lock that nothing held back conflicts with none
  pub compatible_gets : (G : FileState) → ¬ IsHeldBack F wait → GetsLock F wait G → IsCompatible G
  compatible_gets G free gets = gets_compatible wait.family G free gets

-- each lock of G stood in F
pub record FewerLocks (F G : FileState) : Type 0 where
  pub bytes : (owner byte : ℕ) (mode : Mode) → G.bytes owner byte ≡ Some mode → F.bytes owner byte ≡ Some mode
  pub flocks : (owner : ℕ) (mode : Mode) → G.flocks owner ≡ Some mode → F.flocks owner ≡ Some mode

pub compatible_fewer : (F G : FileState) → FewerLocks F G → IsCompatible F → IsCompatible G
compatible_fewer F G fewer before = grind (arith, common_steps)

pub from_fewer : (Given : ℕ → Type 0) (F G : FileState) → FewerLocks F G → LocksFrom Given F G
from_fewer Given F G fewer = grind (arith, common_steps)

pub still_held : (a : Bool) (held : Option Mode) (mode : Mode) → (if a then None else held) ≡ Some mode → held ≡ Some mode
still_held true held mode is = let h : None ≡ Some mode = is in cc
still_held false held mode is = is

-- a lock that goes leaves fewer
pub fewer_unlocked : (family : Family) (F : FileState) (owner : ℕ) (G : FileState) → Unlocks family F owner G → FewerLocks F G
fewer_unlocked family F owner G h = grind (arith, common_steps, still_held)

pub fewer_unset : (family : Family) (F : FileState) (owner : ℕ) (span : Span) (G : FileState) → SetsLock family F owner span None G → FewerLocks F G
fewer_unset family F owner span G h = grind (arith, common_steps, still_held, fewer_unlocked)

-- what is there after a set was there, or is the owner's
from_either : (a : Bool) (new held : Option Mode) (mode : Mode) (Given : Type 0) → (a ≡ true → Given) → (if a then new else held) ≡ Some mode
    → (held ≡ Some mode) ⊎ Given
from_either true new held mode Given given is = inr (given refl)
from_either false new held mode Given given is = inl is

pub from_set : (family : Family) (F : FileState) (owner : ℕ) (span : Span) (mode : Option Mode) (G : FileState) → SetsLock family F owner span mode G
    → LocksFrom (λ other. other ≡ owner) F G
from_set family F owner span mode G h = grind (arith, common_steps, from_either, hit, eqb-true)

-- a wait that isn't blocked isn't held back by a lock
pub free_from_open : (policy : Policy) (F : FileState) (earlier : List Pending) (wait : Pending) → ¬ IsWaitBlocked policy F earlier wait → ¬ IsHeldBack F wait
free_from_open Held F earlier wait ready held = ready held
free_from_open Queue F earlier wait ready held = ready (inl held)
