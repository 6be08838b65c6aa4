-- Where held locks begin: each one at a start that some change made, and a change makes two at most: for `outputs_are_short`.
use Rattle.script_core.proofs.Common.{common_steps, ◌≡◌, ◌≢◌, ℕ, zero, suc, ◌+◌, ◌<◌, ◌≤◌, ◌==◌, ◌⊎◌, Bool, true, false, List, [], ◌∷◌, ◌++◌, length, length-append, flat_map, Option, Some, None, inl, inr, ⊎_elim, refl, sym, ◌∙◌, subst, arith, eq-eqb, if◌then◌else◌, OFFMAX, Mode, Span, Covers, Owner, Description, Change, FlockChange, sets_byte, mode_from, mode_in, flock_mode_from, flock_mode_in}
use Rattle.std.proofs.Common.{eqb-true, leb-true, le-leb, eq-or-lt_of_le}
use Rattle.range_core.specs.Ranges.{IsRun}
use Rattle.script_core.proofs.OutcomeFitLemmas.{both_true}

-- ---- starts

-- where a lock begins: its file, whether it is a flock lock, its owner and its first byte
pub record Start : Type 0 where
  pub file : ℕ
  pub whole : Bool
  pub owner : Owner
  pub byte : ℕ

-- a byte lock of the owner on the file begins at the byte
abbrev pub byte_start : ℕ → Owner → ℕ → Start
byte_start file owner byte = record { file = file; whole = false; owner = owner; byte = byte }

-- the flock lock of the description on the file
abbrev pub flock_start : ℕ → ℕ → Start
flock_start file description = record { file = file; whole = true; owner = Description description; byte = 0 }

-- the start, where a mode is set
abbrev pub set_at : Option Mode → Start → List Start
set_at None start = []
set_at (Some mode) start = start ∷ []

-- what is held behind the range of the change begins there, unless the range ends where files do
abbrev pub behind : Change → List Start
behind change = if change.span.last == OFFMAX then [] else byte_start change.file change.owner (change.span.last + 1) ∷ []

-- the starts that a change of byte locks makes
abbrev pub starts_of : Change → List Start
starts_of change = set_at change.mode (byte_start change.file change.owner change.span.first) ++ behind change

-- the start that a change of flock locks makes
abbrev pub flock_starts_of : FlockChange → List Start
flock_starts_of change = set_at change.mode (flock_start change.file change.description)

-- all starts of these changes
abbrev pub starts_in : List Change → List FlockChange → List Start
starts_in changes flocks = flat_map starts_of changes ++ flat_map flock_starts_of flocks

-- a change makes two starts at most
pub two_starts : (change : Change) → length (starts_of change) ≤ 2
two_starts change = grind (arith, common_steps, length-append)

-- ---- one of a list

-- x is one of xs
abbrev pub IsOneOf : {X : Type 0} → X → List X → Type 0
IsOneOf x [] = ⊥
IsOneOf x (y ∷ ys) = (y ≡ x) ⊎ IsOneOf x ys

pub in_front : {X : Type 0} (x : X) (xs ys : List X) → IsOneOf x xs → IsOneOf x (xs ++ ys)
in_front x [] ys among = absurd among
in_front x (y ∷ xs) ys (inl same) = inl same
in_front x (y ∷ xs) ys (inr later) = inr (in_front x xs ys later)

pub in_back : {X : Type 0} (x : X) (xs ys : List X) → IsOneOf x ys → IsOneOf x (xs ++ ys)
in_back x [] ys among = among
in_back x (y ∷ xs) ys among = inr (in_back x xs ys among)

-- one of what the later ones give, or else what is here of the first one
go_on : {X A P Q : Type 0} (f : X → List A) (x : X) (xs : List X) (a : A) → IsOneOf a (flat_map f xs) ⊎ P → (P → IsOneOf a (f x) ⊎ Q)
    → IsOneOf a (flat_map f (x ∷ xs)) ⊎ Q
go_on f x xs a h here = grind (arith, common_steps, in_back, in_front)

-- ---- byte locks

-- the change is of this owner on this byte of this file
record IsOn (change : Change) (file : ℕ) (owner : Owner) (byte : ℕ) : Type 0 where
  same_file : change.file ≡ file
  same_owner : change.owner ≡ owner
  covers : Covers change.span byte

-- the change is on the byte just where it sets it
set_on : (change : Change) (file : ℕ) (owner : Owner) (byte : ℕ) → sets_byte change file owner byte ≡ true → IsOn change file owner byte
set_on change file owner byte sets = grind (arith, common_steps, both_true, eqb-true, leb-true)

on_set : (change : Change) (file : ℕ) (owner : Owner) (byte : ℕ) → IsOn change file owner byte → sets_byte change file owner byte ≡ true
on_set change file owner byte on = grind (arith, common_steps, le-leb, eq-eqb)

-- a change that sets a mode has a start at its first byte
first_here : (change : Change) (file : ℕ) (owner : Owner) (byte : ℕ) (mode : Mode) → IsOn change file owner byte → change.span.first ≡ byte
    → change.mode ≡ Some mode → IsOneOf (byte_start file owner byte) (starts_of change)
first_here change file owner byte mode h h2 h3 = grind (arith, common_steps, in_front)

-- a change has a start behind its last byte, where the file goes on there
begins_behind : (change : Change) (file : ℕ) (owner : Owner) (byte : ℕ) → IsOn change file owner byte → byte ≡ change.span.last → byte < OFFMAX
    → IsOneOf (byte_start file owner (suc byte)) (starts_of change)
begins_behind change file owner byte h h2 h3 = grind (arith, common_steps, in_back)

-- the byte behind this one has a start, or had the mode when this one hadn't
abbrev Begins : List Change → ℕ → Owner → ℕ → Mode → Option Mode → Option Mode → Type 0
Begins changes file owner byte mode before held =
    IsOneOf (byte_start file owner (suc byte)) (flat_map starts_of changes) ⊎ ((held ≡ Some mode) × (before ≢ Some mode))

-- a mode that is held on a byte, and isn't on the one before, has a start there
begins : (changes : List Change) (before held : Option Mode) (file : ℕ) (owner : Owner) (byte : ℕ) (mode : Mode) → byte < OFFMAX
    → mode_from held changes file owner (suc byte) ≡ Some mode → mode_from before changes file owner byte ≢ Some mode
    → Begins changes file owner byte mode before held
begins [] before held file owner byte mode within is not = inr (is, not)
begins (change ∷ changes) before held file owner byte mode within is not =
    by_set (sets_byte change file owner (suc byte)) (sets_byte change file owner byte) refl refl is not
    (λ was had is not. begins changes was had file owner byte mode within is not)
  where
    by_set : (this last : Bool) → sets_byte change file owner (suc byte) ≡ this → sets_byte change file owner byte ≡ last
        → mode_from (if this then change.mode else held) changes file owner (suc byte) ≡ Some mode
        → mode_from (if last then change.mode else before) changes file owner byte ≢ Some mode
        → ((was had : Option Mode) → mode_from had changes file owner (suc byte) ≡ Some mode → mode_from was changes file owner byte ≢ Some mode
        → Begins changes file owner byte mode was had)
        → Begins (change ∷ changes) file owner byte mode before held
    by_set true true this last is not again =
        go_on starts_of change changes (byte_start file owner (suc byte)) (again change.mode change.mode is not) (λ both. absurd (both.1 both.0))
    by_set true false this last is not again =
        let on = set_on change file owner (suc byte) this in
        ⊎_elim
        (λ at. go_on starts_of change changes (byte_start file owner (suc byte)) (again before change.mode is not)
        (λ both. inl (first_here change file owner (suc byte) mode on at both.0)))
        (λ below.
        let covers = on.covers.1 in
        let on_last : IsOn change file owner byte =
        record { same_file = on.same_file; same_owner = on.same_owner; covers = (omega (arith, below), omega (arith, covers)) } in
        absurd (let bad : true ≡ false = sym (on_set change file owner byte on_last) ∙ last in cc))
        (eq-or-lt_of_le on.covers.0)
    by_set false true this last is not again =
        let on = set_on change file owner byte last in
        ⊎_elim
        (λ at. inl (in_front (byte_start file owner (suc byte)) (starts_of change) (flat_map starts_of changes)
        (begins_behind change file owner byte on at within)))
        (λ below.
        let covers = on.covers.0 in
        let on_this : IsOn change file owner (suc byte) =
        record { same_file = on.same_file; same_owner = on.same_owner; covers = (omega (arith, covers), omega (arith, below)) } in
        absurd (let bad : true ≡ false = sym (on_set change file owner (suc byte) on_this) ∙ this in cc))
        (eq-or-lt_of_le on.covers.1)
    by_set false false this last is not again =
        go_on starts_of change changes (byte_start file owner (suc byte)) (again before held is not) (λ both. inr both)

-- a mode that is held on the first byte of a file has a start there
begins_first : (changes : List Change) (held : Option Mode) (file : ℕ) (owner : Owner) (mode : Mode) → mode_from held changes file owner 0 ≡ Some mode
    → IsOneOf (byte_start file owner 0) (flat_map starts_of changes) ⊎ (held ≡ Some mode)
begins_first [] held file owner mode is = inr is
begins_first (change ∷ changes) held file owner mode is = by_set (sets_byte change file owner 0) refl is (λ was is. begins_first changes was file owner mode is)
  where
    by_set : (this : Bool) → sets_byte change file owner 0 ≡ this → mode_from (if this then change.mode else held) changes file owner 0 ≡ Some mode
        → ((was : Option Mode) → mode_from was changes file owner 0 ≡ Some mode
        → IsOneOf (byte_start file owner 0) (flat_map starts_of changes) ⊎ (was ≡ Some mode))
        → IsOneOf (byte_start file owner 0) (flat_map starts_of (change ∷ changes)) ⊎ (held ≡ Some mode)
    by_set true this is again =
        let on = set_on change file owner 0 this in
        let covers = on.covers.0 in
        go_on starts_of change changes (byte_start file owner 0) (again change.mode is)
        (λ sets. inl (first_here change file owner 0 mode on (omega (arith, covers)) sets))
    by_set false this is again = go_on starts_of change changes (byte_start file owner 0) (again held is) (λ was. inr was)

-- the largest range of one mode begins at a start
pub run_start : (changes : List Change) (file : ℕ) (owner : Owner) (mode : Mode) (span : Span) → span.first ≤ OFFMAX
    → IsRun (mode_in changes file owner) span.first mode span → IsOneOf (byte_start file owner span.first) (flat_map starts_of changes)
run_start changes file owner mode span within run = at span.first refl
  where
    held : (first : ℕ) → span.first ≡ first → mode_in changes file owner first ≡ Some mode
    held first is = subst (λ (byte : ℕ). mode_in changes file owner byte ≡ Some mode) is (run.constant span.first run.covered)

    larger : (byte : ℕ) → span.first ≡ suc byte → mode_in changes file owner byte ≢ Some mode
    larger byte is before =
        let covered = run.covered.1 in
        let other : Span = record { first = byte; last = span.last } in
        let least = run.largest other (omega (arith, is), covered)
        (λ b covers. ⊎_elim (λ same. subst (λ (c : ℕ). mode_in changes file owner c ≡ Some mode) same before)
        (λ below. run.constant b (omega (arith, is, below), covers.1)) (eq-or-lt_of_le covers.0)) in
        let low = least.0 in absurd (omega (arith, is, low))

    at : (first : ℕ) → span.first ≡ first → IsOneOf (byte_start file owner first) (flat_map starts_of changes)
    at zero is = ⊎_elim (λ start. start) (λ bad. absurd cc) (begins_first changes None file owner mode (held zero is))
    at (suc byte) is =
        ⊎_elim (λ start. start) (λ both. absurd (let bad : None ≡ Some mode = both.0 in cc))
        (begins changes None None file owner byte mode (omega (arith, is, within)) (held (suc byte) is) (larger byte is))

-- ---- flock locks

-- a flock mode that is held has a start
flock_begins : (changes : List FlockChange) (held : Option Mode) (file description : ℕ) (mode : Mode)
    → flock_mode_from held changes file description ≡ Some mode
    → IsOneOf (flock_start file description) (flat_map flock_starts_of changes) ⊎ (held ≡ Some mode)
flock_begins [] held file description mode is = inr is
flock_begins (change ∷ changes) held file description mode is = grind (arith, common_steps, both_true, go_on, eqb-true, flock_begins changes)

-- a flock lock that is held has a start
pub flock_has_start : (changes : List FlockChange) (file description : ℕ) (mode : Mode) → flock_mode_in changes file description ≡ Some mode
    → IsOneOf (flock_start file description) (flat_map flock_starts_of changes)
flock_has_start changes file description mode is = grind (arith, common_steps, flock_begins)
