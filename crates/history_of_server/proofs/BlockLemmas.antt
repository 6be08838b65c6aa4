-- What is in the way of a request in the history and in the server, and what a change leaves in both.
use Rattle.history_of_server.proofs.Common.{inl, inr, ℕ, ◌≡◌, ◌≢◌, ◌∙◌, ◌==◌, ◌≤◌, sym, ap, refl, subst, arith, true, false, Bool, Option, Some, None, eq-eqb, cases_eq, eqb-true, false≢true, ne_eqb, ◌&&◌, if◌then◌else◌, Mode, Span, OFFMAX, Family, Bytes, Whole, Action, FileLocks, Did, MayHave, Pending, FileState, SameFile, SetsLock, all_bytes}
use Rattle.std.proofs.lemmas.Bool.{and_parts, leb-true}
use Rattle.std.specs.Prelude.{nat_le}
use Rattle.range_core.specs.declared.Mode.TheVariants.{Read, Write}
use Rattle.range_core.specs.Ranges.{Conflict, HeldConflicts}
use Rattle.range_core.specs.Changes.{is_covered}
use Rattle.lock_book.specs.declared.Owner.{Owner}
use Rattle.lock_book.specs.declared.Owner.TheVariants.{Process, Description}
use Rattle.lock_book.specs.Conflicts.{Blocks, FlockConflict, NoneConflict}
use Rattle.wait_core.specs.Blocking.{IsBlockedIn}
use Rattle.history_core.specs.declared.request.Action.TheVariants.{FlockWait, Wait}
use Rattle.history_core.specs.Locks.{BlocksBytes, BlocksFlock, with_bytes, with_flock}
use Rattle.history_core.specs.Permitted.{locks_when_done}
use Rattle.lock_server.specs.Files.{ClearsBytes, SetsBytes, SetsFlock, by_owner, locks_on}
use Rattle.lock_server.specs.Locks.{IsInTheWay}
use Rattle.lock_server.specs.Pendings.{as_wait}

-- the file has these locks
pub record Holds (F : FileState) (locks : FileLocks) : Type 0 where
  pub bytes : (owner byte : ℕ) → locks.bytes owner byte ≡ F.bytes owner byte
  pub flocks : (owner : ℕ) → locks.flocks owner ≡ F.flocks owner

-- each byte that is locked is one that a file can have
abbrev pub AreWithin : FileState → Type 0
AreWithin F = (owner byte : ℕ) (mode : Mode) → F.bytes owner byte ≡ Some mode → byte ≤ OFFMAX

-- no two owners conflict by flock
abbrev pub AreCompatible : FileState → Type 0
AreCompatible F = NoneConflict F.flocks

-- what holds of the locks of each file
pub record IsSound (F : FileState) : Type 0 where
  pub within : AreWithin F
  pub compatible : AreCompatible F

-- what a wait asks for
abbrev pub action_of : Family → Span → Mode → Action
action_of Bytes span mode = Wait mode span
action_of Whole span mode = FlockWait mode

pub turned : (a b : ℕ) → (a == b) ≡ (b == a)
turned a b = elim (cases_eq a b) [
  | inl same ↦ eq-eqb a b same ∙ sym (eq-eqb b a (sym same))
  | inr differs ↦ ne_eqb a b differs ∙ sym (ne_eqb b a (λ same. differs (sym same)))
]

-- ---- what is in the way

pub conflict_of_block : (F : FileState) (locks : FileLocks) (owner : ℕ) (mode : Mode) (span : Span) → Holds F locks → BlocksBytes locks.bytes owner mode span
    → IsInTheWay F owner span mode
conflict_of_block F locks owner mode span holds blocks = record {
  byte = blocks.byte;
  covered = blocks.asked;
  other = Description blocks.other;
  blocks = record {
    another = λ same. blocks.is_other (let e : Description blocks.other ≡ Description owner = same in cc);
    conflicts = subst (λ held. HeldConflicts held mode) (holds.bytes blocks.other blocks.byte) blocks.conflicts;
  };
}

pub block_of_conflict : (F : FileState) (locks : FileLocks) (owner : ℕ) (mode : Mode) (span : Span) → Holds F locks → IsInTheWay F owner span mode
    → BlocksBytes locks.bytes owner mode span
block_of_conflict F locks owner mode span holds conflict = at conflict.other conflict.blocks
  where
    at : (other : Owner) → Blocks (by_owner F.bytes) (Description owner) mode conflict.byte other → BlocksBytes locks.bytes owner mode span
    at (Process p) blocks = absurd blocks.conflicts
    at (Description n) blocks = record {
      other = n;
      is_other = λ same. blocks.another (ap Description same);
      byte = conflict.byte;
      asked = conflict.covered;
      conflicts = subst (λ held. HeldConflicts held mode) (sym (holds.bytes n conflict.byte)) blocks.conflicts;
    }

pub conflict_of_flock : (F : FileState) (locks : FileLocks) (owner : ℕ) (mode : Mode) → Holds F locks → BlocksFlock locks.flocks owner mode
    → FlockConflict F.flocks (Description owner) mode
conflict_of_flock F locks owner mode holds blocks = record {
  description = blocks.other;
  another = λ same. blocks.is_other (let e : Description blocks.other ≡ Description owner = same in cc);
  conflicts = subst (λ held. HeldConflicts held mode) (holds.flocks blocks.other) blocks.conflicts;
}

pub flock_of_conflict : (F : FileState) (locks : FileLocks) (owner : ℕ) (mode : Mode) → Holds F locks → FlockConflict F.flocks (Description owner) mode
    → BlocksFlock locks.flocks owner mode
flock_of_conflict F locks owner mode holds conflict = record {
  other = conflict.description;
  is_other = λ same. conflict.another (ap Description same);
  conflicts = subst (λ held. HeldConflicts held mode) (sym (holds.flocks conflict.description)) conflict.conflicts;
}

-- a wait that no lock blocks may have its lock
pub may_get : (F : FileState) (locks : FileLocks) (wait : Pending) (family : Family) → Holds F locks → (¬ IsBlockedIn family (locks_on F) (as_wait wait))
    → MayHave locks wait.owner (action_of family wait.span wait.mode) Did
may_get F locks wait Bytes holds free = λ blocks. free (conflict_of_block F locks wait.owner wait.mode wait.span holds blocks)
may_get F locks wait Whole holds free = λ blocks. free (conflict_of_flock F locks wait.owner wait.mode holds blocks)

-- ---- what a change leaves

pub holds_set : (F G : FileState) (locks : FileLocks) (owner : ℕ) (span : Span) (mode : Option Mode) → Holds F locks → SetsBytes F owner span mode G
    → Holds G (with_bytes locks owner span mode)
holds_set F G locks owner span mode holds sets = record {
  bytes = λ other byte.
      ap (λ (b : Bool). if b && is_covered span byte then mode else locks.bytes other byte) (turned other owner)
      ∙ ap (λ (old : Option Mode). if (owner == other) && is_covered span byte then mode else old) (holds.bytes other byte)
      ∙ sym (sets.bytes other byte);
  flocks = λ other. holds.flocks other ∙ sym (sets.flocks other);
}

pub holds_flock : (F G : FileState) (locks : FileLocks) (owner : ℕ) (mode : Option Mode) → Holds F locks → SetsFlock F owner mode G
    → Holds G (with_flock locks owner mode)
holds_flock F G locks owner mode holds sets = record {
  bytes = λ other byte. holds.bytes other byte ∙ sym (sets.bytes other byte);
  flocks = λ other.
      ap (λ (b : Bool). if b then mode else locks.flocks other) (turned other owner)
      ∙ ap (λ (old : Option Mode). if owner == other then mode else old) (holds.flocks other)
      ∙ sym (sets.flocks other);
}

pub holds_got : (F G : FileState) (locks : FileLocks) (owner : ℕ) (span : Span) (mode : Mode) (family : Family) → Holds F locks
    → SetsLock family F owner span (Some mode) G → Holds G (locks_when_done locks owner (action_of family span mode))
holds_got F G locks owner span mode Bytes holds sets = holds_set F G locks owner span (Some mode) holds sets
holds_got F G locks owner span mode Whole holds sets = holds_flock F G locks owner (Some mode) holds sets

none_past : (F : FileState) (owner byte : ℕ) (found : Option Mode) → AreWithin F → F.bytes owner byte ≡ found → (¬ (byte ≤ OFFMAX)) → found ≡ None
none_past F owner byte None within is past = refl
none_past F owner byte (Some mode) within is past = absurd (past (within owner byte mode is))

-- an unlock of all bytes leaves none
pub holds_cleared : (F G : FileState) (locks : FileLocks) (owner : ℕ) → AreWithin F → Holds F locks → ClearsBytes F owner G
    → Holds G (with_bytes locks owner all_bytes None)
holds_cleared F G locks owner within holds clears = record {
  bytes = λ other byte. at other byte ∙ sym (clears.bytes other byte);
  flocks = λ other. holds.flocks other ∙ sym (clears.flocks other);
}
  where
    beyond : (other byte : ℕ) (b : Bool) → is_covered all_bytes byte ≡ b → (if b then None else locks.bytes other byte) ≡ None
    beyond other byte true is = refl
    beyond other byte false is =
        holds.bytes other byte ∙ none_past F other byte (F.bytes other byte) within refl (λ low. absurd (grind (arith, is, low)))

    here : (other byte : ℕ) (b : Bool) → (other == owner) ≡ b
        → (if b && is_covered all_bytes byte then None else locks.bytes other byte) ≡ (if b then None else F.bytes other byte)
    here other byte true is = beyond other byte (is_covered all_bytes byte) refl
    here other byte false is = holds.bytes other byte

    at : (other byte : ℕ) → (if (other == owner) && is_covered all_bytes byte then None else locks.bytes other byte) ≡ (if owner == other then None else F.bytes other byte)
    at other byte = here other byte (other == owner) refl ∙ ap (λ (b : Bool). if b then None else F.bytes other byte) (turned other owner)

-- ---- what stays true of the locks

within_set : (F G : FileState) (owner : ℕ) (span : Span) (mode : Option Mode) → span.last ≤ OFFMAX → AreWithin F → SetsBytes F owner span mode G → AreWithin G
within_set F G owner span mode low within sets other byte held is =
    at ((owner == other) && is_covered span byte) refl (sym (sets.bytes other byte) ∙ is)
  where
    at : (b : Bool) → ((owner == other) && is_covered span byte) ≡ b → (if b then mode else F.bytes other byte) ≡ Some held → byte ≤ OFFMAX
    at true covered has =
        let covers = and_parts (owner == other) (is_covered span byte) covered in
        let parts = and_parts (nat_le span.first byte) (nat_le byte span.last) covers.1 in
        let under : byte ≤ span.last = leb-true byte span.last parts.1 in
        omega (arith, under, low)
    at false covered has = within other byte held has

compatible_same : (F G : FileState) → AreCompatible F → ((owner : ℕ) → G.flocks owner ≡ F.flocks owner) → AreCompatible G
compatible_same F G compatible same one other m k differs has too =
    compatible one other m k differs (sym (same one) ∙ has) (sym (same other) ∙ too)

conflict_turned : (m k : Mode) → Conflict m k → Conflict k m
conflict_turned Read Read conflict = conflict
conflict_turned Read Write conflict = tt
conflict_turned Write Read conflict = tt
conflict_turned Write Write conflict = tt

pub sound_same : (F G : FileState) → SameFile F G → IsSound F → IsSound G
sound_same F G same sound = record {
  within = λ owner byte mode is. sound.within owner byte mode (sym (same.locks.bytes owner byte) ∙ is);
  compatible = compatible_same F G sound.compatible same.locks.flocks;
}

pub sound_set : (F G : FileState) (owner : ℕ) (span : Span) (mode : Option Mode) → span.last ≤ OFFMAX → IsSound F → SetsBytes F owner span mode G → IsSound G
sound_set F G owner span mode low sound sets = record {
  within = within_set F G owner span mode low sound.within sets;
  compatible = compatible_same F G sound.compatible sets.flocks;
}

pub sound_cleared : (F G : FileState) (owner : ℕ) → IsSound F → ClearsBytes F owner G → IsSound G
sound_cleared F G owner sound clears = record {
  within = λ other byte held is. at other byte held (owner == other) (sym (clears.bytes other byte) ∙ is);
  compatible = compatible_same F G sound.compatible clears.flocks;
}
  where
    at : (other byte : ℕ) (held : Mode) (b : Bool) → (if b then None else F.bytes other byte) ≡ Some held → byte ≤ OFFMAX
    at other byte held true has = absurd (let bad : None ≡ Some held = has in cc)
    at other byte held false has = sound.within other byte held has

pub sound_unlocked : (F G : FileState) (owner : ℕ) → IsSound F → SetsFlock F owner None G → IsSound G
sound_unlocked F G owner sound sets = record {
  within = λ other byte held is. sound.within other byte held (sym (sets.bytes other byte) ∙ is);
  compatible = λ one other m k differs has too.
      sound.compatible one other m k differs (was one m (owner == one) (sym (sets.flocks one) ∙ has)) (was other k (owner == other) (sym (sets.flocks other) ∙ too));
}
  where
    was : (other : ℕ) (m : Mode) (b : Bool) → (if b then None else F.flocks other) ≡ Some m → F.flocks other ≡ Some m
    was other m true has = absurd (let bad : None ≡ Some m = has in cc)
    was other m false has = has

pub sound_flock : (F G : FileState) (owner : ℕ) (mode : Mode) → IsSound F → (¬ FlockConflict F.flocks (Description owner) mode)
    → SetsFlock F owner (Some mode) G → IsSound G
sound_flock F G owner mode sound free sets = record {
  within = λ other byte held is. sound.within other byte held (sym (sets.bytes other byte) ∙ is);
  compatible = λ one other m k differs has too.
      at one other m k differs (owner == one) (owner == other) refl refl (sym (sets.flocks one) ∙ has) (sym (sets.flocks other) ∙ too);
}
  where
    clash : (other : ℕ) (k : Mode) → (owner == other) ≡ false → F.flocks other ≡ Some k → ¬ Conflict k mode
    clash other k off has conflict = free (record {
      description = other;
      another = λ same. false≢true (sym off ∙ eq-eqb owner other (sym (let e : Description other ≡ Description owner = same in cc)));
      conflicts = subst (λ held. HeldConflicts held mode) (sym has) conflict;
    })

    some_is : (m : Mode) → Some mode ≡ Some m → mode ≡ m
    some_is m e = cc

    at : (one other : ℕ) (m k : Mode) → one ≢ other → (b c : Bool) → (owner == one) ≡ b → (owner == other) ≡ c
        → (if b then Some mode else F.flocks one) ≡ Some m → (if c then Some mode else F.flocks other) ≡ Some k → ¬ Conflict m k
    at one other m k differs true true is too has here conflict = absurd (differs (sym (eqb-true owner one is) ∙ eqb-true owner other too))
    at one other m k differs true false is off has here conflict =
        clash other k off here (conflict_turned mode k (subst (λ x. Conflict x k) (sym (some_is m has)) conflict))
    at one other m k differs false true off is has here conflict = clash one m off has (subst (λ x. Conflict m x) (sym (some_is k here)) conflict)
    at one other m k differs false false off away has here conflict = sound.compatible one other m k differs has here conflict

pub sound_got : (F G : FileState) (wait : Pending) (family : Family) → wait.span.last ≤ OFFMAX → IsSound F → (¬ IsBlockedIn family (locks_on F) (as_wait wait))
    → SetsLock family F wait.owner wait.span (Some wait.mode) G → IsSound G
sound_got F G wait Bytes low sound free sets = sound_set F G wait.owner wait.span (Some wait.mode) low sound sets
sound_got F G wait Whole low sound free sets = sound_flock F G wait.owner wait.mode sound free sets

-- who is blocked by flock hasn't the mode that it asks for
pub blocked_lacks : (F : FileState) (owner : ℕ) (mode : Mode) → IsSound F → FlockConflict F.flocks (Description owner) mode → F.flocks owner ≢ Some mode
blocked_lacks F owner mode sound conflict has = at (F.flocks conflict.description) refl conflict.conflicts
  where
    at : (found : Option Mode) → F.flocks conflict.description ≡ found → HeldConflicts found mode → ⊥
    at None is conflicts = conflicts
    at (Some held) is conflicts =
        sound.compatible conflict.description owner held mode (λ same. conflict.another (ap Description same)) is has conflicts

-- and who has it isn't blocked
pub held_free : (F : FileState) (owner : ℕ) (mode : Mode) → IsSound F → F.flocks owner ≡ Some mode → ¬ FlockConflict F.flocks (Description owner) mode
held_free F owner mode sound has conflict = blocked_lacks F owner mode sound conflict has
