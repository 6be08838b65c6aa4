-- The first byte lock from an owner's byte on, where the owners are gone through one after another: for `LockFile::next_lock`.
use Rattle.lock_server.proofs.Common.{ℕ, ◌≡◌, ◌+◌, ◌<◌, ◌≤◌, ◌∙◌, inl, inr, refl, sym, subst, arith, Some, None, [], ◌∷◌, cases_lt, IsRun, Lock, FileState, untouched, EndsBefore, IsByteLock, IsEarlier, IsFirstFrom, lock_place}
use Rattle.lock_server.specs.Listing.{BeginBefore, IsFirstRunFrom}

-- a byte lock is of an owner that has a mode on some byte
no_lock : (F : FileState) (lock : Lock) → ((byte : ℕ) → F.bytes lock.owner byte ≡ None) → ¬ IsByteLock F lock
no_lock F lock none is_lock =
    let some : F.bytes lock.owner lock.span.first ≡ Some lock.mode = is_lock.constant lock.span.first is_lock.covered in
    let h : Some lock.mode ≡ None = sym some ∙ none lock.span.first in
    cc

-- of a file without an entry none is listed
pub none_listed : (owner byte : ℕ) → EndsBefore lock_place (IsByteLock untouched) (owner ∷ byte ∷ [])
none_listed owner byte = record { earlier = λ lock is_lock. absurd (no_lock untouched lock (λ any. refl) is_lock) }

module _ (F : FileState) (owner byte : ℕ) where
  -- each lock of an owner up to this one comes before the place
  pub record ArePassed (above : ℕ) : Type 0 where
    pub on : owner ≤ above
    pub passed : (lock : Lock) → IsByteLock F lock → lock.owner ≤ above → IsEarlier (lock_place lock) (owner ∷ byte ∷ [])

  -- the owner's locks from the byte on are the first
  pub found_here : (lock : Lock) → lock.owner ≡ owner → IsFirstRunFrom (F.bytes owner) byte (lock.mode, lock.span)
      → IsFirstFrom lock_place (IsByteLock F) (owner ∷ byte ∷ []) lock
  found_here lock at first = record {
    listed = subst (λ (o : ℕ). IsRun (F.bytes o) lock.span.first lock.mode lock.span) (sym at) first.is_run;
    from_there = λ earlier. (let from = first.from_there in elim earlier [ inl below ↦ omega arith | inr (same, inl before) ↦ omega arith | inr (same, inr none) ↦ none.1 ]);
    first = λ other is_lock earlier. elim earlier [
      | inl below ↦ inl (omega arith)
      | inr (same, inr none) ↦ absurd none.1
      | inr (same, inl before) ↦
          (let of_owner : other.owner ≡ owner = same ∙ at in
          let run : IsRun (F.bytes owner) other.span.first other.mode other.span =
          subst (λ (o : ℕ). IsRun (F.bytes o) other.span.first other.mode other.span) of_owner is_lock in
          elim (cases_lt other.span.first byte) [
            | inl lower ↦ inr (of_owner, inl lower)
            | inr from ↦ absurd (let least = first.first other.mode other.span run from in omega arith)
          ])
    ];
  }

  -- where it has none
  pub passed_itself : BeginBefore (F.bytes owner) byte → ArePassed owner
  passed_itself before = record {
    on = omega arith;
    passed = λ lock is_lock upto. elim (cases_lt lock.owner owner) [
      | inl below ↦ inl below
      | inr from ↦
          (let same : lock.owner ≡ owner = omega arith in
          inr (same, inl (before.before lock.mode lock.span (subst (λ (o : ℕ). IsRun (F.bytes o) lock.span.first lock.mode lock.span) same is_lock))))
    ];
  }

  -- up to the next owner
  passed_below : (above next : ℕ) → ArePassed above → ((other at : ℕ) → above + 1 ≤ other → other < next → F.bytes other at ≡ None)
      → (lock : Lock) → IsByteLock F lock → lock.owner < next → IsEarlier (lock_place lock) (owner ∷ byte ∷ [])
  passed_below above next so_far none lock is_lock before = elim (cases_lt above lock.owner) [
    | inl behind ↦ absurd (no_lock F lock (λ at. none lock.owner at (omega arith) before) is_lock)
    | inr upto ↦ so_far.passed lock is_lock upto
  ]

  -- the next owner has none
  pub passed_more : (above next : ℕ) → ArePassed above → above + 1 ≤ next
      → ((other at : ℕ) → above + 1 ≤ other → other < next → F.bytes other at ≡ None) → BeginBefore (F.bytes next) 0 → ArePassed next
  passed_more above next so_far from none before = record {
    on = (let on = so_far.on in omega arith);
    passed = λ lock is_lock upto. elim (cases_lt lock.owner next) [
      | inl below ↦ passed_below above next so_far none lock is_lock below
      | inr from_next ↦
          (let same : lock.owner ≡ next = omega arith in
          let run : IsRun (F.bytes next) lock.span.first lock.mode lock.span =
          subst (λ (o : ℕ). IsRun (F.bytes o) lock.span.first lock.mode lock.span) same is_lock in
          absurd (let begins = before.before lock.mode lock.span run in omega arith))
    ];
  }

  -- the next owner's first lock is the first
  pub found_behind : (above next : ℕ) (lock : Lock) → ArePassed above → above + 1 ≤ next
      → ((other at : ℕ) → above + 1 ≤ other → other < next → F.bytes other at ≡ None)
      → lock.owner ≡ next → IsFirstRunFrom (F.bytes next) 0 (lock.mode, lock.span) → IsFirstFrom lock_place (IsByteLock F) (owner ∷ byte ∷ []) lock
  found_behind above next lock so_far from none at first = record {
    listed = subst (λ (o : ℕ). IsRun (F.bytes o) lock.span.first lock.mode lock.span) (sym at) first.is_run;
    from_there = λ earlier. (let on = so_far.on in elim earlier [ inl below ↦ omega arith | inr (same, before) ↦ omega arith ]);
    first = λ other is_lock earlier. elim earlier [
      | inl below ↦ passed_below above next so_far none other is_lock (omega arith)
      | inr (same, inr never) ↦ absurd never.1
      | inr (same, inl before) ↦
          (let of_owner : other.owner ≡ next = same ∙ at in
          let run : IsRun (F.bytes next) other.span.first other.mode other.span =
          subst (λ (o : ℕ). IsRun (F.bytes o) other.span.first other.mode other.span) of_owner is_lock in
          absurd (let least = first.first other.mode other.span run (omega arith) in omega arith))
    ];
  }

  -- no owner is left
  pub none_behind : (above : ℕ) → ArePassed above → ((other at : ℕ) → above + 1 ≤ other → F.bytes other at ≡ None)
      → EndsBefore lock_place (IsByteLock F) (owner ∷ byte ∷ [])
  none_behind above so_far none = record {
    earlier = λ lock is_lock. elim (cases_lt above lock.owner) [
      | inl behind ↦ absurd (no_lock F lock (λ at. none lock.owner at (omega arith)) is_lock)
      | inr upto ↦ so_far.passed lock is_lock upto
    ];
  }
