-- Whether a lock is blocked can be decided: by a search of the owners or the places that a book keeps, and of the bytes of a range; for
-- `conflicts_are_decided`.
use Rattle.lock_book.proofs.Common.{common_steps, ℕ, ◌≡◌, ◌≢◌, ◌+◌, ◌-◌, ◌<◌, ◌≤◌, ◌⊎◌, inl, inr, subst, refl, arith, zero, suc, true, Bool, List, [], ◌∷◌, Option, Some, None, lookup, cases_Bool, eqb-true, Mode, Span, Covers, HeldConflicts, Owner, Process, Description, Book, is_same_owner, mode_in_place, list_of, place_of, byte_modes_of, flock_modes_of, ByteModes, Blocks}
use Rattle.std.specs.Prelude.{◌==◌}
use Rattle.std.proofs.lemmas.Bool.{cases_eq}
use Rattle.lock_book.specs.Decided.{ByteConflictIsDecided, FlockConflictIsDecided, ProcessBlocksIsDecided}
use Rattle.lock_book.proofs.BlockLemmas.{list_in}
use Rattle.lock_book.proofs.OwnerLemmas.{same_owner, is_same_owner-self}

-- two owners are one, or not
same_or_other : (one other : Owner) → (one ≡ other) ⊎ (one ≢ other)
same_or_other one other = grind (arith, common_steps, cases_Bool, same_owner, is_same_owner-self)

-- what is held, if anything, conflicts or not
held_or_not : (held : Option Mode) (wanted : Mode) → HeldConflicts held wanted ⊎ ¬ HeldConflicts held wanted
held_or_not held wanted = grind (arith, common_steps)

-- whether another owner's lock on a byte stands in the way
blocks_or_not : (modes : ByteModes) (owner : Owner) (wanted : Mode) (byte : ℕ) (other : Owner)
    → Blocks modes owner wanted byte other ⊎ ¬ Blocks modes owner wanted byte other
blocks_or_not modes owner wanted byte other = grind (arith, common_steps, same_or_other, held_or_not)

-- a number of which something holds, among so many from the first on
record Among (P : ℕ → Type 0) (first count : ℕ) : Type 0 where
  number : ℕ
  from : first ≤ number
  below : number < first + count
  holds : P number

one_more : (P : ℕ → Type 0) (first count : ℕ) → P (first + count) ⊎ ¬ P (first + count) → ¬ Among P first count
    → Among P first (suc count) ⊎ ¬ Among P first (suc count)
one_more P first count h h2 = grind (arith, common_steps, cases_eq)

among_or_not : (P : ℕ → Type 0) → ((n : ℕ) → P n ⊎ ¬ P n) → (first count : ℕ) → Among P first count ⊎ ¬ Among P first count
among_or_not P each first zero = inr (λ among. (let h = among.below in let k = among.from in absurd (omega arith)))
among_or_not P each first (suc count) = elim (among_or_not P each first count) [
  | inl among ↦ inl (record { number = among.number; from = among.from; below = (let h = among.below in omega arith); holds = among.holds })
  | inr none ↦ one_more P first count (each (first + count)) none
]

-- another owner's lock stands in the way on some byte of the range
record BlocksIn (modes : ByteModes) (owner : Owner) (span : Span) (wanted : Mode) (other : Owner) : Type 0 where
  byte : ℕ
  covered : Covers span byte
  blocks : Blocks modes owner wanted byte other

-- whether it does, by a search of the bytes of the range
blocks_in_or_not : (modes : ByteModes) (owner : Owner) (span : Span) (wanted : Mode) (other : Owner)
    → BlocksIn modes owner span wanted other ⊎ ¬ BlocksIn modes owner span wanted other
blocks_in_or_not modes owner span wanted other =
    elim (among_or_not (λ byte. Blocks modes owner wanted byte other) (λ byte. blocks_or_not modes owner wanted byte other)
    span.first (suc span.last - span.first)) [
      | inl among ↦ inl (record {
        byte = among.number;
        covered = (among.from, (let h = among.below in let k = among.from in omega arith));
        blocks = among.holds;
      })
      | inr none ↦ inr (λ blocks. none (record {
        number = blocks.byte;
        from = blocks.covered.0;
        below = (let h = blocks.covered.0 in let k = blocks.covered.1 in omega arith);
        holds = blocks.blocks;
      }))
    ]

pub process_blocks_or_not : ProcessBlocksIsDecided
process_blocks_or_not modes process owner span wanted = elim (blocks_in_or_not modes owner span wanted (Process process)) [
  | inl is ↦ inl (record { byte = is.byte; covered = is.covered; blocks = is.blocks })
  | inr none ↦ inr (λ is. none (record { byte = is.byte; covered = is.covered; blocks = is.blocks }))
]

-- whether something holds of some key, or of none that a look-up finds
key_or_none : {K X : Type 0} (test : K → K → Bool) → ((q k : K) → test q k ≡ true → q ≡ k) → (P : K → Type 0) → ((k : K) → P k ⊎ ¬ P k) → (es : List (K × X))
    → ((k : K) × P k) ⊎ ((q : K) (x : X) → lookup (test q) es ≡ Some x → ¬ P q)
key_or_none test same P each [] = inr (λ q x found holds. cc)
key_or_none test same P each (e ∷ es) = elim (each e.0) [
  | inl holds ↦ inl (e.0, holds)
  | inr not ↦ elim (key_or_none test same P each es) [
    | inl some ↦ inl some
    | inr none ↦ inr (λ q x found holds. elim (cases_Bool (test q e.0)) [
      | inl here ↦ not (subst P (same q e.0 here) holds)
      | inr passed ↦ none q x (rw passed at found) holds
    ])
  ]
]

pub byte_conflict_or_not : ByteConflictIsDecided
unfolding list_of byte_modes_of
byte_conflict_or_not book owner span wanted =
    elim (key_or_none is_same_owner same_owner (BlocksIn (byte_modes_of book) owner span wanted) (blocks_in_or_not (byte_modes_of book) owner span wanted)
    book.owners) [
      | inl some ↦ inl (record { byte = some.1.byte; covered = some.1.covered; other = some.0; blocks = some.1.blocks })
      | inr none ↦ inr (λ conflict.
          let list = list_in (list_of book conflict.other) conflict.byte wanted conflict.blocks.conflicts in
          none conflict.other list.0 list.1 (record { byte = conflict.byte; covered = conflict.covered; blocks = conflict.blocks }))
    ]

-- another description's flock lock stands in the way
record HolderBlocks (book : Book) (owner : Owner) (wanted : Mode) (description : ℕ) : Type 0 where
  another : Description description ≢ owner
  conflicts : HeldConflicts (flock_modes_of book description) wanted

holder_blocks_or_not : (book : Book) (owner : Owner) (wanted : Mode) (description : ℕ)
    → HolderBlocks book owner wanted description ⊎ ¬ HolderBlocks book owner wanted description
holder_blocks_or_not book owner wanted description = grind (arith, common_steps, same_or_other, held_or_not)

-- a description with a flock lock has a place
place_of_held : (place : Option (Option Mode)) (wanted : Mode) → HeldConflicts (mode_in_place place) wanted → (some : Option Mode) × (place ≡ Some some)
place_of_held None wanted conflicts = absurd conflicts
place_of_held (Some lock) wanted conflicts = (lock, refl)

pub flock_conflict_or_not : FlockConflictIsDecided
unfolding place_of flock_modes_of
flock_conflict_or_not book owner wanted =
    elim (key_or_none (λ (q k : ℕ). q == k) eqb-true (HolderBlocks book owner wanted) (holder_blocks_or_not book owner wanted)
    book.flocks.places.entries) [
      | inl some ↦ inl (record { description = some.0; another = some.1.another; conflicts = some.1.conflicts })
      | inr none ↦ inr (λ conflict.
          let place = place_of_held (place_of book conflict.description) wanted conflict.conflicts in
          none conflict.description place.0 place.1 (record { another = conflict.another; conflicts = conflict.conflicts }))
    ]
