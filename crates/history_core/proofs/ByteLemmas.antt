-- Lists of byte locks, and the modes that they give.
use Rattle.history_core.proofs.Common.{inl, inr, ℕ, ◌≡◌, ◌≢◌, ◌+◌, ◌^◌, ◌<◌, ◌≤◌, ◌∙◌, ◌==◌, ◌↔◌, sym, ap, refl, subst, arith, true, false, Bool, Option, Some, None, List, [], ◌∷◌, ◌++◌, length, take, drop, zero, suc, get_or, common_steps, cases_Bool, eqb-true, ltb-true, ltb-false, ◌⊎◌, All, Any, filter, not, nat_lt, All-push, take_more, take_all, Mode, ByteLock, bytes_in, Gives, HasByte, AreRanges, AreTrue}
use Rattle.std.proofs.Common.{◌-◌, ◌&&◌, max}
use Rattle.std.proofs.lemmas.Bool.{eqb-false}
use Rattle.std.specs.Prelude.{nat_le, insert}
use Rattle.std.proofs.lemmas.List.Elements.{All-append, All-take, All-drop, All-filter}
use Rattle.std.proofs.lemmas.List.{take-append-drop}
use Rattle.range_core.specs.declared.Span.{Span}
use Rattle.range_core.specs.Ranges.{Conflict, Covers, HeldConflicts, IsConstant, Modes}
use Rattle.history_core.specs.Locks.{BlocksBytes, IsHeld, covers, bytes_with, bytes_without}
use Rattle.history_core.specs.ByteLists.{IsRange, HasBytes, Meets, GivesSome, IsTrueOf, IsAskedFor, IsBounded}

-- a byte is covered just where the test says so
pub covers-true : (span : Span) (byte : ℕ) → covers span byte ≡ true → Covers span byte
covers-true span byte e = grind (arith, common_steps, e)

pub covers-from : (span : Span) (byte : ℕ) → Covers span byte → covers span byte ≡ true
covers-from span byte h = grind (arith, common_steps, h.0, h.1)

-- what joined lists give
pub HasByte-append : (xs ys : List ByteLock) (owner byte : ℕ) (mode : Mode) → HasByte (xs ++ ys) owner byte mode ↔ (HasByte xs owner byte mode ⊎ HasByte ys owner byte mode)
HasByte-append xs ys owner byte mode = (to xs, back xs)
  where
    to : (zs : List ByteLock) → HasByte (zs ++ ys) owner byte mode → HasByte zs owner byte mode ⊎ HasByte ys owner byte mode
    to [] h = inr h
    to (z ∷ zs) (inl h) = inl (inl h)
    to (z ∷ zs) (inr h) = elim (to zs h) [ inl here ↦ inl (inr here) | inr there ↦ inr there ]

    back : (zs : List ByteLock) → HasByte zs owner byte mode ⊎ HasByte ys owner byte mode → HasByte (zs ++ ys) owner byte mode
    back [] (inr h) = h
    back [] (inl h) = absurd h
    back (z ∷ zs) (inl (inl h)) = inl h
    back (z ∷ zs) (inl (inr h)) = inr (back zs (inl h))
    back (z ∷ zs) (inr h) = inr (back zs (inr h))

-- the mode that a list gives is one of a lock in it
pub bytes_in-has : (locks : List ByteLock) (owner byte : ℕ) (mode : Mode) → bytes_in locks owner byte ≡ Some mode → HasByte locks owner byte mode
bytes_in-has [] owner byte mode e = absurd (grind (arith, common_steps, e))
bytes_in-has (lock ∷ locks) owner byte mode e = elim (cases_Bool ((lock.owner == owner) && covers lock.span byte)) [
  | inl holds ↦ inl (record {
    is_owner = grind (arith, common_steps, holds);
    is_mode = grind (arith, common_steps, holds, e);
    on = covers-true lock.span byte (grind (arith, common_steps, holds));
  })
  | inr fails ↦ inr (bytes_in-has locks owner byte mode (grind (arith, common_steps, fails, e)))
]

-- where some lock gives a mode, the list gives one
pub bytes_in-some : (locks : List ByteLock) (owner byte : ℕ) (mode : Mode) → HasByte locks owner byte mode → (found : Mode) × (bytes_in locks owner byte ≡ Some found)
bytes_in-some [] owner byte mode h = absurd h
bytes_in-some (lock ∷ locks) owner byte mode h = elim (cases_Bool ((lock.owner == owner) && covers lock.span byte)) [
  | inl holds ↦ (lock.mode, rw holds refl)
  | inr fails ↦
      elim h [
        | inl gives ↦ absurd (grind (arith, common_steps, fails, gives.is_owner, covers-from lock.span byte gives.on))
        | inr rest ↦ let found = bytes_in-some locks owner byte mode rest in (found.0, rw fails found.1)
      ]
]

-- modes that are given alike are the same
pub same_option : (a b : Option Mode) → ((m : Mode) → a ≡ Some m → b ≡ Some m) → ((m : Mode) → b ≡ Some m → a ≡ Some m) → a ≡ b
same_option (Some m) b to back = sym (to m refl)
same_option None (Some m) to back = back m refl
same_option None None to back = refl

-- a list whose locks give just these modes stands for them
pub bytes_in-is : (locks : List ByteLock) (bytes : ℕ → Modes) → ((owner byte : ℕ) (mode : Mode) → HasByte locks owner byte mode ↔ (bytes owner byte ≡ Some mode))
    → bytes_in locks ≡ bytes
bytes_in-is locks bytes gives = λ i. λ owner. λ byte. same_option (bytes_in locks owner byte) (bytes owner byte)
    (λ mode e. (gives owner byte mode).0 (bytes_in-has locks owner byte mode e))
    (λ mode e.
    let found = bytes_in-some locks owner byte mode ((gives owner byte mode).1 e) in
    let same : Some found.0 ≡ Some mode = sym ((gives owner byte found.0).0 (bytes_in-has locks owner byte found.0 found.1)) ∙ e in
    found.1 ∙ same) i

-- of a list that says what is true each lock gives what the list gives
pub true_lock : (locks : List ByteLock) (lock : ByteLock) (owner byte : ℕ) (mode : Mode) → IsTrueOf locks lock → Gives lock owner byte mode → bytes_in locks owner byte ≡ Some mode
true_lock locks lock owner byte mode is gives =
    subst (λ o. bytes_in locks o byte ≡ Some mode) gives.is_owner (is.constant byte gives.on ∙ ap Some gives.is_mode)

-- a lock of a list is one that may give a mode
pub HasByte-at : (locks : List ByteLock) (k : ℕ) (d : ByteLock) (owner byte : ℕ) (mode : Mode) → k < length locks → Gives (get_or locks k d) owner byte mode
    → HasByte locks owner byte mode
HasByte-at [] k d owner byte mode lt gives = absurd (omega (arith, lt))
HasByte-at (lock ∷ locks) zero d owner byte mode lt gives = inl gives
HasByte-at (lock ∷ locks) (suc k) d owner byte mode lt gives = inr (HasByte-at locks k d owner byte mode (omega (arith, lt)) gives)

-- and what a list gives one of its locks gives
pub HasByte-Any : (locks : List ByteLock) (owner byte : ℕ) (mode : Mode) → HasByte locks owner byte mode → Any (λ lock. Gives lock owner byte mode) locks
HasByte-Any [] owner byte mode h = absurd h
HasByte-Any (lock ∷ locks) owner byte mode (inl gives) = (0, lock, omega arith, refl, gives)
HasByte-Any (lock ∷ locks) owner byte mode (inr h) =
    let rest = HasByte-Any locks owner byte mode h in
    (suc rest.0, rest.1, omega (arith, rest.2), rest.3, rest.4)

-- so the list gives a mode just where one of its locks does
pub true_list : (locks : List ByteLock) → AreTrue locks → (owner byte : ℕ) (mode : Mode) → HasByte locks owner byte mode ↔ (bytes_in locks owner byte ≡ Some mode)
true_list locks are owner byte mode = (
  λ h.
      let some = HasByte-Any locks owner byte mode h in
      true_lock locks some.1 owner byte mode (subst (IsTrueOf locks) some.3 (are some.0 some.1 some.2)) some.4,
  bytes_in-has locks owner byte mode,
)

-- a list whose locks give just these modes says what is true
pub AreTrue-given : (locks : List ByteLock) (bytes : ℕ → Modes) → AreRanges locks
    → ((owner byte : ℕ) (mode : Mode) → HasByte locks owner byte mode ↔ (bytes owner byte ≡ Some mode)) → AreTrue locks
AreTrue-given locks bytes ranges gives k d lt =
    let lock = get_or locks k d in
    record {
      is_range = ranges k d lt;
      constant = λ byte on.
          ap (λ f. f lock.owner byte) (bytes_in-is locks bytes gives)
          ∙ (gives lock.owner byte lock.mode).0 (HasByte-at locks k d lock.owner byte lock.mode lt (record { is_owner = refl; is_mode = refl; on = on }));
    }

-- the locks of all others
pub HasByte-others : (locks : List ByteLock) (owner other byte : ℕ) (mode : Mode)
    → HasByte (filter (λ lock. not (lock.owner == owner)) locks) other byte mode ↔ (HasByte locks other byte mode × (other ≢ owner))
HasByte-others locks owner other byte mode = (to locks, λ h. back locks h.0 h.1)
  where
    to : (xs : List ByteLock) → HasByte (filter (λ lock. not (lock.owner == owner)) xs) other byte mode → HasByte xs other byte mode × (other ≢ owner)
    to [] h = absurd h
    to (x ∷ xs) h = elim (cases_Bool (x.owner == owner)) [
      | inl holds ↦ let rest = to xs (rw holds at h) in (inr rest.0, rest.1)
      | inr fails ↦
          let kept : HasByte (x ∷ filter (λ lock. not (lock.owner == owner)) xs) other byte mode = rw fails at h in
          elim kept [
            | inl gives ↦ (inl gives, λ same. grind (arith, common_steps, fails, gives.is_owner, same))
            | inr rest ↦ let more = to xs rest in (inr more.0, more.1)
          ]
    ]

    back : (xs : List ByteLock) → HasByte xs other byte mode → (other ≢ owner) → HasByte (filter (λ lock. not (lock.owner == owner)) xs) other byte mode
    back [] h ne = absurd h
    back (x ∷ xs) h ne = elim (cases_Bool (x.owner == owner)) [
      | inl holds ↦ elim h [
        | inl gives ↦ absurd (grind (arith, common_steps, holds, gives.is_owner, ne))
        | inr rest ↦ rw holds (back xs rest ne)
      ]
      | inr fails ↦ elim h [
        | inl gives ↦ rw fails (inl gives)
        | inr rest ↦ rw fails (inr (back xs rest ne))
      ]
    ]

-- the modes without an owner's
pub without-some : (bytes : ℕ → Modes) (owner other byte : ℕ) (mode : Mode)
    → (bytes_without bytes owner other byte ≡ Some mode) ↔ ((bytes other byte ≡ Some mode) × (other ≢ owner))
without-some bytes owner other byte mode = elim (cases_Bool (other == owner)) [
  | inl holds ↦ (λ e. absurd (grind (arith, common_steps, holds, e)), λ h. absurd (grind (arith, common_steps, holds, h.1)))
  | inr fails ↦ (λ e. (grind (arith, common_steps, fails, e), λ same. grind (arith, common_steps, fails, same)), λ h. rw fails h.0)
]

-- the modes with an owner's changed on a range
pub with-some : (bytes : ℕ → Modes) (owner : ℕ) (span : Span) (new : Option Mode) (other byte : ℕ) (mode : Mode)
    → (bytes_with bytes owner span new other byte ≡ Some mode)
    ↔ (((bytes other byte ≡ Some mode) × ¬ ((other ≡ owner) × Covers span byte)) ⊎ ((new ≡ Some mode) × (other ≡ owner) × Covers span byte))
with-some bytes owner span new other byte mode = elim (cases_Bool ((other == owner) && covers span byte)) [
  | inl holds ↦
      let same : other ≡ owner = grind (arith, common_steps, holds) in
      let on : Covers span byte = covers-true span byte (grind (arith, common_steps, holds)) in (
        λ e. inr (grind (arith, common_steps, holds, e), same, on),
        λ h. elim h [ inl old ↦ absurd (old.1 (same, on)) | inr now ↦ rw holds now.0 ],
      )
  | inr fails ↦
      let off : ¬ ((other ≡ owner) × Covers span byte) = λ h. grind (arith, common_steps, fails, h.0, covers-from span byte h.1) in (
        λ e. inl (grind (arith, common_steps, fails, e), off),
        λ h. elim h [ inl old ↦ rw fails old.0 | inr now ↦ absurd (off (now.1, now.2)) ],
      )
]

-- a list of one more
pub HasByte-push : (locks : List ByteLock) (lock : ByteLock) (owner byte : ℕ) (mode : Mode)
    → HasByte (locks ++ lock ∷ []) owner byte mode ↔ (HasByte locks owner byte mode ⊎ Gives lock owner byte mode)
HasByte-push locks lock owner byte mode =
    let joined = HasByte-append locks (lock ∷ []) owner byte mode in (
      λ h. elim (joined.0 h) [ inl old ↦ inl old | inr new ↦ elim new [ inl gives ↦ inr gives | inr none ↦ absurd none ] ],
      λ h. joined.1 (elim h [ inl old ↦ inl old | inr gives ↦ inr (inl gives) ]),
    )

-- a list of one more in its midst
pub HasByte-insert : (locks : List ByteLock) (place : ℕ) (lock : ByteLock) (owner byte : ℕ) (mode : Mode)
    → HasByte (insert locks place lock) owner byte mode ↔ (HasByte locks owner byte mode ⊎ Gives lock owner byte mode)
HasByte-insert locks place lock owner byte mode =
    let front = take place locks in
    let behind = drop place locks in
    let there = HasByte-append front (lock ∷ behind) owner byte mode in
    let before : HasByte (front ++ behind) owner byte mode ↔ (HasByte front owner byte mode ⊎ HasByte behind owner byte mode) = HasByte-append front behind owner byte mode in
    let whole : HasByte locks owner byte mode ↔ (HasByte front owner byte mode ⊎ HasByte behind owner byte mode) =
    subst (λ xs. HasByte xs owner byte mode ↔ (HasByte front owner byte mode ⊎ HasByte behind owner byte mode)) (take-append-drop place locks) before in (
      λ h. elim (there.0 h) [
        | inl old ↦ inl (whole.1 (inl old))
        | inr rest ↦ elim rest [ inl gives ↦ inr gives | inr old ↦ inl (whole.1 (inr old)) ]
      ],
      λ h. there.1 (elim h [
        | inl old ↦ elim (whole.0 old) [ inl early ↦ inl early | inr late ↦ inr (inr late) ]
        | inr gives ↦ inr (inl gives)
      ]),
    )

-- as a loop takes them
pub HasByte-more : (locks : List ByteLock) (k : ℕ) (d : ByteLock) (owner byte : ℕ) (mode : Mode) → k < length locks
    → HasByte (take (k + 1) locks) owner byte mode ↔ (HasByte (take k locks) owner byte mode ⊎ Gives (get_or locks k d) owner byte mode)
HasByte-more locks k d owner byte mode lt =
    subst (λ xs. HasByte xs owner byte mode ↔ (HasByte (take k locks) owner byte mode ⊎ Gives (get_or locks k d) owner byte mode))
    (sym (take_more locks k d lt)) (HasByte-push (take k locks) (get_or locks k d) owner byte mode)

-- what conflicts is some mode
pub held_some : (held : Option Mode) (mode : Mode) → HeldConflicts held mode → (m : Mode) × (held ≡ Some m) × Conflict m mode
held_some None mode h = absurd h
held_some (Some m) mode h = (m, refl, h)

-- a lock is in the way of one that is asked for
abbrev pub IsInTheWay : ℕ → Mode → Span → ByteLock → Type 0
IsInTheWay owner mode span lock = (lock.owner ≢ owner) × Meets lock.span span × Conflict lock.mode mode

-- a list that says what is true has such a lock just where it blocks
pub blocks_by : (locks : List ByteLock) (owner : ℕ) (mode : Mode) (span : Span) → AreTrue locks → IsRange span
    → Any (IsInTheWay owner mode span) locks ↔ BlocksBytes (bytes_in locks) owner mode span
blocks_by locks owner mode span are range = (
  (λ some.
      let k = some.0 in
      let lock = some.1 in
      let way = some.4 in
      let byte = max lock.span.first span.first in
      let is : IsTrueOf locks lock = subst (IsTrueOf locks) some.3 (are k lock some.2) in
      let on : Covers lock.span byte = (omega arith, omega (arith, way.1.0, way.1.1, is.is_range.0)) in
      let asked : Covers span byte = (omega arith, omega (arith, way.1.0, range)) in
      record {
        other = lock.owner;
        is_other = way.0;
        byte = byte;
        asked = asked;
        conflicts = subst (λ held. HeldConflicts held mode) (sym (is.constant byte on)) way.2;
      }),
  (λ blocks.
      let held = held_some (bytes_in locks blocks.other blocks.byte) mode blocks.conflicts in
      let some = HasByte-Any locks blocks.other blocks.byte held.0 (bytes_in-has locks blocks.other blocks.byte held.0 held.1) in
      let gives = some.4 in (
        some.0,
        some.1,
        some.2,
        some.3,
        (
          (λ same. blocks.is_other (sym gives.is_owner ∙ same)),
          (omega (arith, gives.on.0, blocks.asked.1), omega (arith, gives.on.1, blocks.asked.0)),
          subst (λ m. Conflict m mode) (sym gives.is_mode) held.2,
        ),
      )),
)

-- what the locks of all others give
pub without_gives : (locks : List ByteLock) (owner : ℕ) → AreTrue locks → (other byte : ℕ) (mode : Mode)
    → HasByte (filter (λ lock. not (lock.owner == owner)) locks) other byte mode ↔ (bytes_without (bytes_in locks) owner other byte ≡ Some mode)
without_gives locks owner are other byte mode =
    let rest = HasByte-others locks owner other byte mode in
    let all = true_list locks are other byte mode in
    let some = without-some (bytes_in locks) owner other byte mode in
    (λ h. some.1 (all.0 (rest.0 h).0, (rest.0 h).1), λ e. rest.1 (all.1 (some.0 e).0, (some.0 e).1))

-- what is left outside of a range, and the new mode on it
pub with_gives : (locks rest runs : List ByteLock) (owner : ℕ) (span : Span) (new : Option Mode) → AreTrue locks
    → ((other byte : ℕ) (mode : Mode) → HasByte rest other byte mode ↔ (HasByte locks other byte mode × ¬ ((other ≡ owner) × Covers span byte)))
    → ((other byte : ℕ) (mode : Mode) → HasByte runs other byte mode ↔ (HasByte rest other byte mode ⊎ ((new ≡ Some mode) × (other ≡ owner) × Covers span byte)))
    → (other byte : ℕ) (mode : Mode) → HasByte runs other byte mode ↔ (bytes_with (bytes_in locks) owner span new other byte ≡ Some mode)
with_gives locks rest runs owner span new are outside inside other byte mode =
    let all = true_list locks are other byte mode in
    let out = outside other byte mode in
    let within = inside other byte mode in
    let some = with-some (bytes_in locks) owner span new other byte mode in (
      λ h. some.1 (elim (within.0 h) [ inl old ↦ inl (all.0 (out.0 old).0, (out.0 old).1) | inr now ↦ inr now ]),
      λ e. within.1 (elim (some.0 e) [ inl old ↦ inl (out.1 (all.1 old.0, old.1)) | inr now ↦ inr now ]),
    )

-- what a list gives behind a push
pub pushed : (old new : List ByteLock) (lock : ByteLock) (some : Option ByteLock) → new ≡ old ++ lock ∷ [] → some ≡ Some lock → (owner byte : ℕ) (mode : Mode)
    → HasByte new owner byte mode ↔ (HasByte old owner byte mode ⊎ GivesSome some owner byte mode)
pushed old new lock some items is owner byte mode =
    subst (λ xs. HasByte xs owner byte mode ↔ (HasByte old owner byte mode ⊎ GivesSome some owner byte mode)) (sym items)
    (subst (λ l. HasByte (old ++ lock ∷ []) owner byte mode ↔ (HasByte old owner byte mode ⊎ GivesSome l owner byte mode)) (sym is)
    (HasByte-push old lock owner byte mode))

pub set_aside : (old new : List ByteLock) (lock one : ByteLock) (span : Span) → new ≡ old ++ one ∷ [] → (owner byte : ℕ) (mode : Mode)
    → (HasByte new owner byte mode ⊎ Gives (record lock { span = span }) owner byte mode)
    ↔ ((HasByte old owner byte mode ⊎ Gives (record lock { span = span }) owner byte mode) ⊎ Gives one owner byte mode)
set_aside old new lock one span items owner byte mode =
    let more = pushed old new one (Some one) items refl owner byte mode in (
      λ h. elim h [
        | inl there ↦ elim (more.0 there) [ inl early ↦ inl (inl early) | inr now ↦ inr now ]
        | inr run ↦ inl (inr run)
      ],
      λ h. elim h [
        | inl rest ↦ elim rest [ inl early ↦ inl (more.1 (inl early)) | inr run ↦ inr run ]
        | inr now ↦ inl (more.1 (inr now))
      ],
    )

-- a step of the loop over the locks
pub absorbed_more : (locks old new : List ByteLock) (k : ℕ) (lock one : ByteLock) (span next : Span) → k < length locks → get_or locks k one ≡ one
    → ((owner byte : ℕ) (mode : Mode) → (HasByte (take k locks) owner byte mode ⊎ Gives lock owner byte mode)
    ↔ (HasByte old owner byte mode ⊎ Gives (record lock { span = span }) owner byte mode))
    → ((owner byte : ℕ) (mode : Mode) → (HasByte new owner byte mode ⊎ Gives (record lock { span = next }) owner byte mode)
    ↔ ((HasByte old owner byte mode ⊎ Gives (record lock { span = span }) owner byte mode) ⊎ Gives one owner byte mode))
    → (owner byte : ℕ) (mode : Mode) → (HasByte (take (k + 1) locks) owner byte mode ⊎ Gives lock owner byte mode)
    ↔ (HasByte new owner byte mode ⊎ Gives (record lock { span = next }) owner byte mode)
absorbed_more locks old new k lock one span next lt is before step owner byte mode =
    let more : HasByte (take (k + 1) locks) owner byte mode ↔ (HasByte (take k locks) owner byte mode ⊎ Gives one owner byte mode) =
    subst (λ x. HasByte (take (k + 1) locks) owner byte mode ↔ (HasByte (take k locks) owner byte mode ⊎ Gives x owner byte mode)) is
    (HasByte-more locks k one owner byte mode lt) in
    let was = before owner byte mode in
    let now = step owner byte mode in (
      λ h. now.1 (elim h [
        | inl taken ↦ elim (more.0 taken) [ inl early ↦ inl (was.0 (inl early)) | inr this ↦ inr this ]
        | inr first ↦ inl (was.0 (inr first))
      ]),
      λ h. elim (now.0 h) [
        | inl old_one ↦ elim (was.1 old_one) [ inl early ↦ inl (more.1 (inl early)) | inr first ↦ inr first ]
        | inr this ↦ inl (more.1 (inr this))
      ],
    )

-- what is left outside of a range, as a loop takes the locks
pub outside_more : (locks old new : List ByteLock) (k owner : ℕ) (span : Span) (lock : ByteLock) → k < length locks → get_or locks k lock ≡ lock
    → ((other byte : ℕ) (mode : Mode) → HasByte old other byte mode ↔ (HasByte (take k locks) other byte mode × ¬ ((other ≡ owner) × Covers span byte)))
    → ((other byte : ℕ) (mode : Mode) → HasByte new other byte mode
    ↔ (HasByte old other byte mode ⊎ (Gives lock other byte mode × ¬ ((other ≡ owner) × Covers span byte))))
    → (other byte : ℕ) (mode : Mode) → HasByte new other byte mode ↔ (HasByte (take (k + 1) locks) other byte mode × ¬ ((other ≡ owner) × Covers span byte))
outside_more locks old new k owner span lock lt is before step other byte mode =
    let more : HasByte (take (k + 1) locks) other byte mode ↔ (HasByte (take k locks) other byte mode ⊎ Gives lock other byte mode) =
    subst (λ x. HasByte (take (k + 1) locks) other byte mode ↔ (HasByte (take k locks) other byte mode ⊎ Gives x other byte mode)) is
    (HasByte-more locks k lock other byte mode lt) in
    let was = before other byte mode in
    let now = step other byte mode in (
      λ h. elim (now.0 h) [
        | inl early ↦ let old_one = was.0 early in (more.1 (inl old_one.0), old_one.1)
        | inr this ↦ (more.1 (inr this.0), this.1)
      ],
      λ h. now.1 (elim (more.0 h.0) [ inl early ↦ inl (was.1 (early, h.1)) | inr this ↦ inr (this, h.1) ]),
    )

-- each lock of a list with one more has a byte
pub AreRanges-insert : (locks : List ByteLock) (place : ℕ) (lock : ByteLock) → AreRanges locks → HasBytes lock.span → AreRanges (insert locks place lock)
AreRanges-insert locks place lock ranges range =
    let P : ByteLock → Type 0 = λ one. HasBytes one.span in
    let one : All P (lock ∷ []) = All-push P [] lock (λ k d lt. absurd (omega (arith, lt))) range in
    All-append P (take place locks) (lock ∷ drop place locks) (All-take P place locks ranges) (All-append P (lock ∷ []) (drop place locks) one (All-drop P place locks ranges))

-- the locks, and the one that has grown
pub joined_gives : (locks aside new : List ByteLock) (place : ℕ) (lock : ByteLock) (span : Span) (k : ℕ) → length locks ≤ k
    → ((owner byte : ℕ) (mode : Mode) → (HasByte (take k locks) owner byte mode ⊎ Gives lock owner byte mode)
    ↔ (HasByte aside owner byte mode ⊎ Gives (record lock { span = span }) owner byte mode))
    → new ≡ insert aside place (record lock { span = span })
    → (owner byte : ℕ) (mode : Mode) → HasByte new owner byte mode ↔ (HasByte locks owner byte mode ⊎ Gives lock owner byte mode)
joined_gives locks aside new place lock span k all gives items owner byte mode =
    let run = record lock { span = span } in
    let there : HasByte new owner byte mode ↔ (HasByte aside owner byte mode ⊎ Gives run owner byte mode) =
    subst (λ xs. HasByte xs owner byte mode ↔ (HasByte aside owner byte mode ⊎ Gives run owner byte mode)) (sym items)
    (HasByte-insert aside place run owner byte mode) in
    let whole : take k locks ≡ locks = take_all k locks all in
    let taken : (HasByte locks owner byte mode ⊎ Gives lock owner byte mode) ↔ (HasByte aside owner byte mode ⊎ Gives run owner byte mode) =
    subst (λ xs. (HasByte xs owner byte mode ⊎ Gives lock owner byte mode) ↔ (HasByte aside owner byte mode ⊎ Gives run owner byte mode)) whole
    (gives owner byte mode) in
    (λ h. taken.1 (there.0 h), λ h. there.1 (taken.0 h))

-- of a list of ranges the locks of others are ranges
pub AreRanges-others : (locks : List ByteLock) (owner : ℕ) → AreTrue locks → AreRanges (filter (λ lock. not (lock.owner == owner)) locks)
AreRanges-others locks owner are =
    let P : ByteLock → Type 0 = λ one. HasBytes one.span in
    All-filter (λ lock. not (lock.owner == owner)) P locks (λ k d lt. (are k d lt).is_range)

-- what is there is the same
some_same : (a b : Mode) → Some a ≡ Some b → a ≡ b
some_same a b e = grind (arith, common_steps, e)

-- the one lock that is given, where a mode is
pub inside_gives : (runs rest : List ByteLock) (owner : ℕ) (span : Span) (mode : Mode) (new : Option Mode) → new ≡ Some mode
    → ((other byte : ℕ) (given : Mode) → HasByte runs other byte given
    ↔ (HasByte rest other byte given ⊎ Gives (record { owner = owner; mode = mode; span = span }) other byte given))
    → (other byte : ℕ) (given : Mode) → HasByte runs other byte given
    ↔ (HasByte rest other byte given ⊎ ((new ≡ Some given) × (other ≡ owner) × Covers span byte))
inside_gives runs rest owner span mode new is gives other byte given =
    let by = gives other byte given in (
      λ h. elim (by.0 h) [
        | inl there ↦ inl there
        | inr here ↦ inr (is ∙ ap Some here.is_mode, sym here.is_owner, here.on)
      ],
      λ h. by.1 (elim h [
        | inl there ↦ inl there
        | inr here ↦ inr (record { is_owner = sym here.1; is_mode = some_same mode given (sym is ∙ here.0); on = here.2 })
      ]),
    )

pub inside_none : (rest : List ByteLock) (owner : ℕ) (span : Span) (new : Option Mode) → new ≡ None
    → (other byte : ℕ) (given : Mode) → HasByte rest other byte given
    ↔ (HasByte rest other byte given ⊎ ((new ≡ Some given) × (other ≡ owner) × Covers span byte))
inside_none rest owner span new is other byte given =
    (λ h. inl h, λ h. elim h [ inl there ↦ there | inr here ↦ absurd (grind (arith, common_steps, is, here.0)) ])

-- a lock is told rightly just where these hold
pub held_parts : (runs : Bool) (bytes : ℕ → Modes) (asked told : ByteLock)
    → (IsAskedFor told asked × IsConstant (bytes told.owner) told.span told.mode × (runs ≡ true → IsBounded (bytes told.owner) told.mode told.span))
    ↔ IsHeld runs bytes asked.owner asked.mode asked.span told.owner told.mode told.span
held_parts runs bytes asked told = (
  (λ h.
      let way = h.0 in
      let byte = max told.span.first asked.span.first in
      let on : Covers told.span byte = (omega arith, omega (arith, way.4.0, way.4.1, way.2)) in
      let within : Covers asked.span byte = (omega arith, omega (arith, way.4.0, way.3)) in
      record {
        is_other = way.0;
        conflicts = way.1;
        held = h.1;
        byte = byte;
        asked_for = within;
        told = on;
        largest = λ is. record {
          covered = on;
          constant = h.1;
          largest = λ other covered constant. (
            elim (cases_Bool (nat_lt other.first told.span.first)) [
              | inl before ↦
                  let lt : other.first < told.span.first = ltb-true _ _ before in
                  let at : (told.span.first - 1) + 1 ≡ told.span.first = omega (arith, lt) in
                  absurd ((h.2 is).0 (told.span.first - 1) at (constant (told.span.first - 1) (omega (arith, lt), omega (arith, covered.1, on.0))))
              | inr late ↦ ltb-false _ _ late
            ],
            elim (cases_Bool (nat_lt told.span.last other.last)) [
              | inl behind ↦
                  let lt : told.span.last < other.last = ltb-true _ _ behind in
                  absurd ((h.2 is).1 (constant (told.span.last + 1) (omega (arith, covered.0, on.1), omega (arith, lt))))
              | inr early ↦ ltb-false _ _ early
            ],
          );
        };
      }),
  (λ held. (
    (
      held.is_other,
      held.conflicts,
      omega (arith, held.told.0, held.told.1),
      omega (arith, held.asked_for.0, held.asked_for.1),
      (omega (arith, held.told.0, held.asked_for.1), omega (arith, held.asked_for.0, held.told.1)),
    ),
    held.held,
    (λ is.
        let run = held.largest is in (
          (λ byte next same.
              let wide : Span = record { first = byte; last = told.span.last } in
              let more = run.largest wide (omega (arith, next, held.told.0), held.told.1) (λ b on. elim (cases_Bool (b == byte)) [
                | inl here ↦ subst (λ x. bytes told.owner x ≡ Some told.mode) (sym (eqb-true _ _ here)) same
                | inr there ↦ held.held b (omega (arith, on.0, next, eqb-false _ _ there), on.1)
              ]) in
              omega (arith, more.0, next)),
          (λ same.
              let wide : Span = record { first = told.span.first; last = told.span.last + 1 } in
              let more = run.largest wide (held.told.0, omega (arith, held.told.1)) (λ b on. elim (cases_Bool (b == (told.span.last + 1))) [
                | inl here ↦ subst (λ x. bytes told.owner x ≡ Some told.mode) (sym (eqb-true _ _ here)) same
                | inr there ↦ held.held b (on.0, omega (arith, on.1, eqb-false _ _ there))
              ]) in
              omega (arith, more.1)),
        )),
  )),
)

past_all : (locks : List ByteLock) (owner byte : ℕ) → All (λ lock. lock.span.last < 2 ^ 64) locks → 2 ^ 64 ≤ byte → bytes_in locks owner byte ≡ None
past_all [] owner byte all past = refl
past_all (lock ∷ locks) owner byte all past = elim (cases_Bool ((lock.owner == owner) && covers lock.span byte)) [
  | inl holds ↦
      let on = covers-true lock.span byte (grind (arith, common_steps, holds)) in
      absurd (omega (arith, on.1, past, all 0 lock (omega arith)))
  | inr fails ↦ rw fails (past_all locks owner byte (λ k d lt. all (suc k) d (omega (arith, lt))) past)
]

-- no lock has a byte of more than 64 bits
pub bytes_in-past : (locks : List ByteLock) (owner byte : ℕ) → AreTrue locks → 2 ^ 64 ≤ byte → bytes_in locks owner byte ≡ None
bytes_in-past locks owner byte are past = past_all locks owner byte (λ k d lt. (are k d lt).is_range.1) past

-- who holds what is told has one of the locks
pub owner_of_held : (locks : List ByteLock) (runs : Bool) (asked : ByteLock) (mode : Mode) (span : Span) (other : ℕ)
    → IsHeld runs (bytes_in locks) asked.owner asked.mode asked.span other mode span
    → Any (λ lock. IsHeld runs (bytes_in locks) asked.owner asked.mode asked.span lock.owner mode span) locks
owner_of_held locks runs asked mode span other held =
    let some = HasByte-Any locks other held.byte mode (bytes_in-has locks other held.byte mode (held.held held.byte held.told)) in (
      some.0,
      some.1,
      some.2,
      some.3,
      subst (λ owner. IsHeld runs (bytes_in locks) asked.owner asked.mode asked.span owner mode span) (sym some.4.is_owner) held,
    )

-- locks whose owners have what they give
abbrev pub AreHad : (ℕ → Modes) → List ByteLock → Type 0
AreHad bytes locks = All (λ lock. IsConstant (bytes lock.owner) lock.span lock.mode) locks

-- give what is had
had_gives : (locks : List ByteLock) (bytes : ℕ → Modes) → AreHad bytes locks → (owner byte : ℕ) (mode : Mode) → HasByte locks owner byte mode
    → bytes owner byte ≡ Some mode
had_gives locks bytes had owner byte mode h =
    let some = HasByte-Any locks owner byte mode h in
    let gives = some.4 in
    let constant : IsConstant (bytes some.1.owner) some.1.span some.1.mode =
    subst (λ lock. IsConstant (bytes lock.owner) lock.span lock.mode) some.3 (had some.0 some.1 some.2) in
    subst (λ o. bytes o byte ≡ Some mode) gives.is_owner (constant byte gives.on ∙ ap Some gives.is_mode)

-- lists each of which has the other's locks give the same
pub same_bytes : (one other : List ByteLock) → AreHad (bytes_in one) other → AreHad (bytes_in other) one → bytes_in one ≡ bytes_in other
same_bytes one other first second = bytes_in-is one (bytes_in other) (λ owner byte mode. (
  had_gives one (bytes_in other) second owner byte mode,
  λ e. bytes_in-has one owner byte mode (had_gives other (bytes_in one) first owner byte mode (bytes_in-has other owner byte mode e)),
))

-- and lists that give the same have
pub had_same : (one other : List ByteLock) → AreTrue other → bytes_in one ≡ bytes_in other → AreHad (bytes_in one) other
had_same one other are same k d lt byte on = ap (λ f. f (get_or other k d).owner byte) same ∙ (are k d lt).constant byte on

-- a change of the first byte alone leaves all others without a mode
pub first_alone : (bytes : ℕ → Modes) (owner : ℕ) (mode : Option Mode) (other byte : ℕ) → 0 < byte → bytes other byte ≡ None
    → bytes_with bytes owner (record { first = 0; last = 0 }) mode other byte ≡ None
first_alone bytes owner mode other byte lt none =
    let out : nat_le byte 0 ≡ false = grind (arith, common_steps, lt) in
    elim (cases_Bool (other == owner)) [
      | inl same ↦ grind (arith, common_steps, same, out, none)
      | inr apart ↦ grind (arith, common_steps, apart, none)
    ]

-- modes on the first byte alone are the same where they are so there
pub same_by_first : (one other : ℕ → Modes) → ((owner byte : ℕ) → 0 < byte → one owner byte ≡ None) → ((owner byte : ℕ) → 0 < byte → other owner byte ≡ None)
    → ((owner : ℕ) → one owner 0 ≡ other owner 0) → one ≡ other
same_by_first one other none none_too same = λ i. λ owner. λ byte. at owner byte i
  where
    at : (owner byte : ℕ) → one owner byte ≡ other owner byte
    at owner zero = same owner
    at owner (suc byte) = none owner (suc byte) (omega arith) ∙ sym (none_too owner (suc byte) (omega arith))
