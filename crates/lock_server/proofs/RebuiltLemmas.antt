-- Locks that are set from those of a state, and come to these: for `Parts::put_locks` and `Parts::table`.
use Rattle.lock_server.proofs.Common.{ℕ, ◌≡◌, ◌≢◌, ◌∙◌, sym, ap, subst, refl, arith, inl, inr, Bool, true, false, All, Any, Option, Some, None, List, [], ◌∷◌, map, ◌&&◌, if◌then◌else◌, cases_eq, eq-eqb, nat_tests, All-head, All-tail}
use Rattle.lock_server.proofs.Common.{Mode, Span, is_covered, Conflict, Covers, HeldConflicts, Owner, Process, Description, Family, Bytes, Whole, IsBlockedIn, Pending, FilePart, SetsOn, FileState, SetsLock, by_owner, locks_on, SetsAll, SetsOnFile, as_wait, SetsEach, flock_lock_request, lock_request, IsCompatible, IsHeldBack, State}
use Rattle.std.specs.Prelude.{◌⊎◌, ◌==◌}
use Rattle.lock_book.specs.Conflicts.{Blocks}
use Rattle.lock_server.proofs.ListLemmas.{Any-nil, Any-cons}
use Rattle.lock_server.proofs.StateLemmas.{file_from_same, state_from_same}

-- where an owner may have a mode: on a byte, or by flock
pub data Point : Type 0 where
  on_byte : ℕ → ℕ → Point
  by_flock : ℕ → Point

abbrev pub mode_at : FileState → Point → Option Mode
mode_at F (on_byte owner byte) = F.bytes owner byte
mode_at F (by_flock owner) = F.flocks owner

-- whether a set of the family is there
abbrev pub is_set_at : Family → ℕ → Span → Point → Bool
is_set_at Bytes owner span (on_byte other byte) = owner == other && is_covered span byte
is_set_at Bytes owner span (by_flock other) = false
is_set_at Whole owner span (on_byte other byte) = false
is_set_at Whole owner span (by_flock other) = owner == other

abbrev pub is_wanted_at : Pending → Point → Bool
is_wanted_at wanted p = is_set_at wanted.family wanted.owner wanted.span p

set_at : (family : Family) (F : FileState) (owner : ℕ) (span : Span) (mode : Option Mode) (G : FileState) → SetsLock family F owner span mode G → (p : Point)
    → mode_at G p ≡ (if is_set_at family owner span p then mode else mode_at F p)
set_at Bytes F owner span mode G sets (on_byte other byte) = sets.bytes other byte
set_at Bytes F owner span mode G sets (by_flock other) = sets.flocks other
set_at Whole F owner span mode G sets (on_byte other byte) = sets.bytes other byte
set_at Whole F owner span mode G sets (by_flock other) = sets.flocks other

-- the lock is one of the file: to set it changes nothing
pub record IsOf (F : FileState) (wanted : Pending) : Type 0 where
  pub at : (p : Point) → is_wanted_at wanted p ≡ true → mode_at F p ≡ Some wanted.mode

-- each lock of the one state is one of the other
abbrev pub HasFewer : State → State → Type 0
HasFewer T S = (file : ℕ) (p : Point) (mode : Mode) → mode_at (T.files file) p ≡ Some mode → mode_at (S.files file) p ≡ Some mode

conflict_by : (a : Option Mode) (wanted : Mode) → HeldConflicts a wanted → (mode : Mode) × (a ≡ Some mode) × Conflict mode wanted
conflict_by None wanted conflicts = absurd conflicts
conflict_by (Some mode) wanted conflicts = (mode, refl, conflicts)

covered_there : (owner : ℕ) (span : Span) (byte : ℕ) → Covers span byte → (owner == owner && is_covered span byte) ≡ true
covered_there owner span byte covered = grind (arith, nat_tests)

module _ (F G : FileState) (fewer : (p : Point) (mode : Mode) → mode_at F p ≡ Some mode → mode_at G p ≡ Some mode) (compatible : IsCompatible G) where
  byte_free : (wanted : Pending) (byte : ℕ) → Covers wanted.span byte → ((p : Point) → is_set_at Bytes wanted.owner wanted.span p ≡ true → mode_at G p ≡ Some wanted.mode)
      → (other : Owner) → Blocks (by_owner F.bytes) (Description wanted.owner) wanted.mode byte other → ⊥
  byte_free wanted byte covered has (Process number) blocks = absurd blocks.conflicts
  byte_free wanted byte covered has (Description number) blocks =
      let found = conflict_by (F.bytes number byte) wanted.mode blocks.conflicts in
      let mine : G.bytes wanted.owner byte ≡ Some wanted.mode = has (on_byte wanted.owner byte) (covered_there wanted.owner wanted.span byte covered) in
      compatible.bytes byte number wanted.owner found.0 wanted.mode (λ same. blocks.another (ap (λ (n : ℕ). Description n) same))
      (fewer (on_byte number byte) found.0 found.1) mine found.2

  free_in : (family : Family) (wanted : Pending) → ((p : Point) → is_set_at family wanted.owner wanted.span p ≡ true → mode_at G p ≡ Some wanted.mode)
      → IsBlockedIn family (locks_on F) (as_wait wanted) → ⊥
  free_in Bytes wanted has blocked = byte_free wanted blocked.byte blocked.covered has blocked.other blocked.blocks
  free_in Whole wanted has blocked =
      let found = conflict_by (F.flocks blocked.description) wanted.mode blocked.conflicts in
      let mine : G.flocks wanted.owner ≡ Some wanted.mode = has (by_flock wanted.owner) (eq-eqb wanted.owner wanted.owner refl) in
      compatible.flocks blocked.description wanted.owner found.0 wanted.mode (λ same. blocked.another (ap (λ (n : ℕ). Description n) same))
      (fewer (by_flock blocked.description) found.0 found.1) mine found.2

  -- no lock of a state without conflicts is held back by fewer of its locks
  pub none_held : (wanted : Pending) → IsOf G wanted → ¬ IsHeldBack F wanted
  none_held wanted of held = free_in wanted.family wanted of.at held

-- one lock of the state is set
module _ (S T : State) (file : ℕ) (wanted : Pending) (U : State) (of : IsOf (S.files file) wanted)
    (sets : SetsOn T file wanted.family wanted.owner wanted.span (Some wanted.mode) U) where
  now_is : (p : Point) → mode_at (U.files file) p ≡ (if is_wanted_at wanted p then Some wanted.mode else mode_at (T.files file) p)
  now_is p = set_at wanted.family (T.files file) wanted.owner wanted.span (Some wanted.mode) (U.files file) sets.sets p

  other_is : (other : ℕ) → other ≢ file → U.files other ≡ T.files other
  other_is other differs = file_from_same (T.files other) (U.files other) (sets.changes.others other differs)

  fewer_here : HasFewer T S → (p : Point) (mode : Mode) → mode_at (U.files file) p ≡ Some mode → mode_at (S.files file) p ≡ Some mode
  fewer_here fewer p mode is = either (is_wanted_at wanted p) refl (sym (now_is p) ∙ is)
    where
      either : (there : Bool) → is_wanted_at wanted p ≡ there → (if there then Some wanted.mode else mode_at (T.files file) p) ≡ Some mode
          → mode_at (S.files file) p ≡ Some mode
      either true there same = of.at p there ∙ same
      either false there same = fewer file p mode same

  pub fewer_set : HasFewer T S → HasFewer U S
  fewer_set fewer other p mode is = elim (cases_eq other file) [
    | inl here ↦ subst (λ (f : ℕ). mode_at (S.files f) p ≡ Some mode) (sym here)
        (fewer_here fewer p mode (subst (λ (f : ℕ). mode_at (U.files f) p ≡ Some mode) here is))
    | inr differs ↦ fewer other p mode (ap (λ (F : FileState). mode_at F p) (sym (other_is other differs)) ∙ is)
  ]

  pub now_there : (p : Point) → is_wanted_at wanted p ≡ true → mode_at (U.files file) p ≡ mode_at (S.files file) p
  now_there p there = now_is p ∙ ap (λ (b : Bool). if b then Some wanted.mode else mode_at (T.files file) p) there ∙ sym (of.at p there)

  kept_here : (p : Point) → mode_at (T.files file) p ≡ mode_at (S.files file) p → mode_at (U.files file) p ≡ mode_at (S.files file) p
  kept_here p same = either (is_wanted_at wanted p) refl
    where
      either : (there : Bool) → is_wanted_at wanted p ≡ there → mode_at (U.files file) p ≡ mode_at (S.files file) p
      either true there = now_there p there
      either false there = now_is p ∙ ap (λ (b : Bool). if b then Some wanted.mode else mode_at (T.files file) p) there ∙ same

  pub kept_set : (other : ℕ) (p : Point) → mode_at (T.files other) p ≡ mode_at (S.files other) p → mode_at (U.files other) p ≡ mode_at (S.files other) p
  kept_set other p same = elim (cases_eq other file) [
    | inl here ↦ subst (λ (f : ℕ). mode_at (U.files f) p ≡ mode_at (S.files f) p) (sym here)
        (kept_here p (subst (λ (f : ℕ). mode_at (T.files f) p ≡ mode_at (S.files f) p) here same))
    | inr differs ↦ ap (λ (F : FileState). mode_at F p) (other_is other differs) ∙ same
  ]

-- locks of the state are set, one after another
module _ (S : State) (file : ℕ) where
  abbrev pub AllOf : List Pending → Type 0
  AllOf wanteds = All (IsOf (S.files file)) wanteds

  pub fewer_each : (T : State) (wanteds : List Pending) (U : State) → AllOf wanteds → SetsEach T file wanteds U → HasFewer T S → HasFewer U S
  fewer_each T [] U of same fewer = subst (λ (V : State). HasFewer V S) (sym (state_from_same T U same)) fewer
  fewer_each T (wanted ∷ wanteds) U of (between, free, sets, more) fewer =
      fewer_each between wanteds U (All-tail (IsOf (S.files file)) wanted wanteds of) more
      (fewer_set S T file wanted between (All-head (IsOf (S.files file)) wanted wanteds of) sets fewer)

  pub kept_each : (T : State) (wanteds : List Pending) (U : State) → AllOf wanteds → SetsEach T file wanteds U → (other : ℕ) (p : Point)
      → mode_at (T.files other) p ≡ mode_at (S.files other) p → mode_at (U.files other) p ≡ mode_at (S.files other) p
  kept_each T [] U of same other p is = subst (λ (V : State). mode_at (V.files other) p ≡ mode_at (S.files other) p) (sym (state_from_same T U same)) is
  kept_each T (wanted ∷ wanteds) U of (between, free, sets, more) other p is =
      kept_each between wanteds U (All-tail (IsOf (S.files file)) wanted wanteds of) more other p
      (kept_set S T file wanted between (All-head (IsOf (S.files file)) wanted wanteds of) sets other p is)

  pub there_each : (T : State) (wanteds : List Pending) (U : State) → AllOf wanteds → SetsEach T file wanteds U → (p : Point)
      → Any (λ wanted. is_wanted_at wanted p ≡ true) wanteds → mode_at (U.files file) p ≡ mode_at (S.files file) p
  there_each T [] U of sets p any = absurd (Any-nil (λ wanted. is_wanted_at wanted p ≡ true) any)
  there_each T (wanted ∷ wanteds) U of (between, free, sets, more) p any =
      let head = All-head (IsOf (S.files file)) wanted wanteds of in
      let tail = All-tail (IsOf (S.files file)) wanted wanteds of in
      elim (Any-cons (λ w. is_wanted_at w p ≡ true) wanted wanteds any) [
        | inl here ↦ kept_each between wanteds U tail more file p (now_there S T file wanted between head sets p here)
        | inr behind ↦ there_each between wanteds U tail more p behind
      ]

-- the locks of the part are those of the file
pub record HasOf (S : State) (part : FilePart) : Type 0 where
  pub locks : All (IsOf (S.files part.number)) (map lock_request part.locks.items)
  pub flocks : All (IsOf (S.files part.number)) (map flock_lock_request part.flocks.items)

-- one of its locks is there
pub record IsThere (file : ℕ) (p : Point) (part : FilePart) : Type 0 where
  pub number : part.number ≡ file
  pub among : Any (λ wanted. is_wanted_at wanted p ≡ true) (map lock_request part.locks.items)
      ⊎ Any (λ wanted. is_wanted_at wanted p ≡ true) (map flock_lock_request part.flocks.items)

module _ (S : State) where
  fewer_part : (T : State) (part : FilePart) (U : State) → HasOf S part → SetsOnFile T part U → HasFewer T S → HasFewer U S
  fewer_part T part U of sets fewer =
      fewer_each S part.number sets.between (map flock_lock_request part.flocks.items) U of.flocks sets.flocks
      (fewer_each S part.number T (map lock_request part.locks.items) sets.between of.locks sets.locks fewer)

  kept_part : (T : State) (part : FilePart) (U : State) → HasOf S part → SetsOnFile T part U → (file : ℕ) (p : Point)
      → mode_at (T.files file) p ≡ mode_at (S.files file) p → mode_at (U.files file) p ≡ mode_at (S.files file) p
  kept_part T part U of sets file p is =
      kept_each S part.number sets.between (map flock_lock_request part.flocks.items) U of.flocks sets.flocks file p
      (kept_each S part.number T (map lock_request part.locks.items) sets.between of.locks sets.locks file p is)

  there_part : (T : State) (part : FilePart) (U : State) → HasOf S part → SetsOnFile T part U → (file : ℕ) (p : Point) → IsThere file p part
      → mode_at (U.files file) p ≡ mode_at (S.files file) p
  there_part T part U of sets file p there = subst (λ (f : ℕ). mode_at (U.files f) p ≡ mode_at (S.files f) p) there.number (elim there.among [
    | inl any ↦
        kept_each S part.number sets.between (map flock_lock_request part.flocks.items) U of.flocks sets.flocks part.number p
        (there_each S part.number T (map lock_request part.locks.items) sets.between of.locks sets.locks p any)
    | inr any ↦ there_each S part.number sets.between (map flock_lock_request part.flocks.items) U of.flocks sets.flocks p any
  ])

  pub fewer_all : (T : State) (parts : List FilePart) (U : State) → All (HasOf S) parts → SetsAll T parts U → HasFewer T S → HasFewer U S
  fewer_all T [] U of same fewer = subst (λ (V : State). HasFewer V S) (sym (state_from_same T U same)) fewer
  fewer_all T (part ∷ parts) U of (between, sets, more) fewer =
      fewer_all between parts U (All-tail (HasOf S) part parts of) more (fewer_part T part between (All-head (HasOf S) part parts of) sets fewer)

  kept_all : (T : State) (parts : List FilePart) (U : State) → All (HasOf S) parts → SetsAll T parts U → (file : ℕ) (p : Point)
      → mode_at (T.files file) p ≡ mode_at (S.files file) p → mode_at (U.files file) p ≡ mode_at (S.files file) p
  kept_all T [] U of same file p is = subst (λ (V : State). mode_at (V.files file) p ≡ mode_at (S.files file) p) (sym (state_from_same T U same)) is
  kept_all T (part ∷ parts) U of (between, sets, more) file p is =
      kept_all between parts U (All-tail (HasOf S) part parts of) more file p (kept_part T part between (All-head (HasOf S) part parts of) sets file p is)

  pub there_all : (T : State) (parts : List FilePart) (U : State) → All (HasOf S) parts → SetsAll T parts U → (file : ℕ) (p : Point)
      → Any (IsThere file p) parts → mode_at (U.files file) p ≡ mode_at (S.files file) p
  there_all T [] U of sets file p any = absurd (Any-nil (IsThere file p) any)
  there_all T (part ∷ parts) U of (between, sets, more) file p any =
      let head = All-head (HasOf S) part parts of in
      let tail = All-tail (HasOf S) part parts of in
      elim (Any-cons (IsThere file p) part parts any) [
        | inl here ↦ kept_all between parts U tail more file p (there_part T part between head sets file p here)
        | inr behind ↦ there_all between parts U tail more file p behind
      ]
