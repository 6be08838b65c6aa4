-- No owners conflict after a change that nothing blocked: for `Machine::new`.
use Rattle.lock_manager.proofs.Common.{arith, ℕ, ◌≡◌, ◌≢◌, ◌<◌, refl, sym, ◌∙◌, subst, List, [], ◌∷◌, ◌++◌, Some, None, Option, Bool, true, false, All, ◌==◌, ◌&&◌, if◌then◌else◌, slice_get, slice_set, Result, OnOk, OnErr, length, eq-eqb, and_parts, common_steps}
use Rattle.lock_manager.proofs.Common.{Memory, Book, SetsOwnerMode, SameBook, Mode, Span, Covers, HeldConflicts, is_covered, Owner, is_same_owner, ByteConflict, Policy, Wait, Locks, locks_of, IsFreeOfCycles, AreCompatible, HoldsNothing}
use Rattle.std.proofs.Common.{eqb-true, leb-true}
use Rattle.lock_manager.proofs.kept.BookLemmas.{unlocked_bytes, unlocked_flocks, changed, after_set}
use Rattle.range_core.specs.Ranges.{Conflict}
use Rattle.lock_book.specs.Conflicts.{NoneConflict}
use Rattle.wait_core.specs.Cycles.{WaitsFor, IsChain}

-- two owners that are found the same are the same
pub same_owner : (a b : Owner) → is_same_owner a b ≡ true → a ≡ b
same_owner a b h = grind (arith, common_steps, eqb-true)

-- an owner is the same as itself
pub itself : (owner : Owner) → is_same_owner owner owner ≡ true
itself owner = grind (arith, common_steps, eq-eqb)

-- conflict is symmetric
conflict_back : (m k : Mode) → Conflict m k → Conflict k m
conflict_back m k h = grind (arith, common_steps)

-- what a change on this byte of this file is
pub record Hits (file : ℕ) (owner : Owner) (span : Span) (f : ℕ) (o : Owner) (byte : ℕ) : Type 0 where
  pub file_is : file ≡ f
  pub owner_is : owner ≡ o
  pub covered : Covers span byte

pub hit : (file : ℕ) (owner : Owner) (span : Span) (f : ℕ) (o : Owner) (byte : ℕ)
    → ((file == f) && is_same_owner owner o && is_covered span byte) ≡ true → Hits file owner span f o byte
hit file owner span f o byte e = grind (arith, common_steps, and_parts, eqb-true, same_owner, leb-true)

-- no list without waits has one
no_place : (before : List Wait) (wait : Wait) (after : List Wait) → [] ≡ before ++ wait ∷ after → ⊥
no_place [] wait after e = cc
no_place (first ∷ before) wait after e = cc

no_chain : (policy : Policy) (locks : Locks) (p : ℕ) (through : List ℕ) (q : ℕ) → ¬ IsChain (WaitsFor policy locks []) p through q
no_chain policy locks p [] q step = no_place step.before step.wait step.after step.place
no_chain policy locks p (next ∷ through) q steps = no_place steps.0.before steps.0.wait steps.0.after steps.0.place

-- nothing is led anywhere without waits
pub free_without_waits : (policy : Policy) (locks : Locks) → IsFreeOfCycles policy locks []
free_without_waits policy locks p led = no_chain policy locks p led.0 p led.1

-- what some of these are set to, where it conflicts with no other's, makes no conflict
pub none_conflict_after : {Who : Type 0} (old new : Who → Option Mode) (sets : Who → Bool) (mode : Option Mode) → NoneConflict old
    → ((one other : Who) → sets one ≡ true → sets other ≡ true → one ≡ other)
    → ((one other : Who) (m : Mode) → sets one ≡ true → one ≢ other → mode ≡ Some m → ¬ HeldConflicts (old other) m)
    → ((who : Who) → new who ≡ (if sets who then mode else old who)) → NoneConflict new
none_conflict_after {Who} old new sets mode before once free is one other m k distinct m_is k_is conflict =
    at (sets one) (sets other) refl refl (sym (is one) ∙ m_is) (sym (is other) ∙ k_is)
  where
    against : (here there : Who) (n l : Mode) → sets here ≡ true → here ≢ there → mode ≡ Some n → old there ≡ Some l → ¬ Conflict l n
    against here there n l sets_here apart n_is l_is conflicts =
        free here there n sets_here apart n_is (subst (λ (held : Option Mode). HeldConflicts held n) (sym l_is) conflicts)

    at : (a b : Bool) → sets one ≡ a → sets other ≡ b → (if a then mode else old one) ≡ Some m → (if b then mode else old other) ≡ Some k → ⊥
    at true true a b first second = distinct (once one other a b)
    at true false a b first second = against one other m k a distinct first second (conflict_back m k conflict)
    at false true a b first second = against other one k m b (λ same. distinct (sym same)) second first conflict
    at false false a b first second = before one other m k distinct first second conflict

-- fewer locks, or the same, conflict no more
pub none_conflict_fewer : {Who : Type 0} (old new : Who → Option Mode) → NoneConflict old
    → ((who : Who) (m : Mode) → new who ≡ Some m → old who ≡ Some m) → NoneConflict new
none_conflict_fewer old new before fewer one other m k distinct m_is k_is = before one other m k distinct (fewer one m m_is) (fewer other k k_is)

-- a change that nothing blocks makes no conflict
pub compatible_set : (old new : Locks) (file : ℕ) (owner : Owner) (span : Span) (mode : Option Mode) → AreCompatible old
    → ((m : Mode) → mode ≡ Some m → ¬ ByteConflict (old.bytes file) owner span m)
    → ((f : ℕ) (o : Owner) (byte : ℕ) → new.bytes f o byte ≡ changed old file owner span mode f o byte)
    → ((f d : ℕ) → new.flocks f d ≡ old.flocks f d) → AreCompatible new
compatible_set old new file owner span mode before free bytes flocks f = record {
  bytes = λ byte. none_conflict_after (λ o. old.bytes f o byte) (λ o. new.bytes f o byte)
      (λ o. (file == f) && is_same_owner owner o && is_covered span byte) mode ((before f).bytes byte)
      (λ one other here there. sym (hit file owner span f one byte here).owner_is ∙ (hit file owner span f other byte there).owner_is)
      (λ one other m here distinct m_is conflicts. (let is = hit file owner span f one byte here in
      free m m_is (record {
        byte = byte;
        covered = is.covered;
        other = other;
        blocks = record {
          another = λ e. distinct (sym is.owner_is ∙ sym e);
          conflicts = subst (λ (g : ℕ). HeldConflicts (old.bytes g other byte) m) (sym is.file_is) conflicts;
        };
      })))
      (λ o. bytes f o byte);
  flocks = none_conflict_fewer (old.flocks f) (new.flocks f) (before f).flocks (λ d m is. sym (flocks f d) ∙ is);
}

-- the same locks are as compatible
pub compatible_same : (old new : Locks) → AreCompatible old
    → ((f : ℕ) (o : Owner) (byte : ℕ) → new.bytes f o byte ≡ old.bytes f o byte)
    → ((f d : ℕ) → new.flocks f d ≡ old.flocks f d) → AreCompatible new
compatible_same old new before bytes flocks f = record {
  bytes = λ byte. none_conflict_fewer (λ o. old.bytes f o byte) (λ o. new.bytes f o byte) ((before f).bytes byte) (λ o m is. sym (bytes f o byte) ∙ is);
  flocks = none_conflict_fewer (old.flocks f) (new.flocks f) (before f).flocks (λ d m is. sym (flocks f d) ∙ is);
}

-- one book's change that nothing blocks, or that was refused, makes no conflict
pub compatible_after : (books : List Book) (file : ℕ) (old new : Book) (owner : Owner) (span : Span) (mode : Option Mode) (result : Result (Unit {0}) Memory)
    → file < length books → slice_get books file ≡ Some old
    → ((m : Mode) → mode ≡ Some m → ¬ ByteConflict ((locks_of books).bytes file) owner span m)
    → OnOk result (SetsOwnerMode old new owner span mode) → OnErr result (SameBook old new)
    → AreCompatible (locks_of books) → AreCompatible (locks_of (slice_set books file new))
compatible_after books file old new owner span mode result within was free sets same before =
    after_set AreCompatible books file old new owner span mode result within was sets same
    (compatible_set (locks_of books) (locks_of (slice_set books file new)) file owner span mode before free)
    (compatible_same (locks_of books) (locks_of (slice_set books file new)) before)

-- where there are no locks none conflict
pub compatible_without_locks : (books : List Book) → All HoldsNothing books → AreCompatible (locks_of books)
compatible_without_locks books empty f = record {
  bytes = λ byte one other m k distinct m_is k_is. absurd (let none : None ≡ Some m = sym (unlocked_bytes books empty f one byte) ∙ m_is in cc);
  flocks = λ one other m k distinct m_is k_is. absurd (let none : None ≡ Some m = sym (unlocked_flocks books empty f one) ∙ m_is in cc);
}
