-- Where a lock is blocked there is one that a get command reports.
use Rattle.lock_manager.proofs.Common.{common_steps, ◌≡◌, ◌≢◌, ℕ, suc, ◌+◌, ◌-◌, ◌<◌, ◌≤◌, refl, arith, false, nat_le, List, [], ◌∷◌, Option, Some, None, cases_lt, Mode, Span, is_covered, Covers, HeldConflicts, Owner, Process, Description, Change, mode_from, mode_in, ByteModes, ByteConflict, IsFirstBlocker}
use Rattle.std.proofs.lemmas.Bool.{lt-leb, and_right}
use Rattle.range_core.specs.Ranges.{Modes, IsRun}
use Rattle.lock_book.specs.Owners.{IsBefore}
use Rattle.lock_book.specs.Conflicts.{Blocks}
use Rattle.lock_manager.proofs.some.AtLeastOneLemmas.{AtLeastOne, IsLeast, by_cases, some_least}

-- no byte from this one on has a mode
abbrev pub AreBelow : ℕ → Modes → Type 0
AreBelow bound modes = (byte : ℕ) → bound ≤ byte → modes byte ≡ None

-- from this byte on up to the other one each has the mode
record HasModeFrom (modes : Modes) (byte : ℕ) (mode : Mode) (first : ℕ) : Type 0 where
  before : first ≤ byte
  each : (x : ℕ) → first ≤ x → x ≤ byte → modes x ≡ Some mode

-- this byte behind the other one hasn't the mode
record LacksModeBehind (modes : Modes) (byte : ℕ) (mode : Mode) (past : ℕ) : Type 0 where
  behind : byte < past
  lacks : modes past ≢ Some mode

-- between the least byte from which on each has the mode and the least one behind that hasn't is the run
run_between : (modes : Modes) (byte first past : ℕ) (mode : Mode) → modes byte ≡ Some mode → IsLeast (HasModeFrom modes byte mode) first
    → IsLeast (LacksModeBehind modes byte mode) past → IsRun modes byte mode (record { first = first; last = past - 1 })
run_between modes byte first past mode is left right = grind (arith, common_steps, cases_lt)

-- round a byte with a mode there is a run
run_some : (modes : Modes) (bound byte : ℕ) (mode : Mode) → AreBelow bound modes → modes byte ≡ Some mode → AtLeastOne (IsRun modes byte mode)
run_some modes bound byte mode within is none =
    some_least (HasModeFrom modes byte mode) byte (grind (arith, common_steps))
    (λ first left.
    some_least (LacksModeBehind modes byte mode) (bound + 1 + byte) (grind (arith, common_steps))
    (λ past right. none (record { first = first; last = past - 1 }) (run_between modes byte first past mode is left right)))

-- a number above the bytes of all these changes
pub bytes_below : List Change → ℕ
bytes_below [] = 0
bytes_below (change ∷ changes) = suc change.span.last + bytes_below changes

not_covered : (span : Span) (byte : ℕ) → span.last < byte → is_covered span byte ≡ false
not_covered span byte past = rw (lt-leb byte span.last past) (and_right (nat_le span.first byte) false refl)

-- from it on they set no byte
AreBelow-from : (before : Option Mode) (changes : List Change) (file : ℕ) (owner : Owner) (byte : ℕ) → before ≡ None → bytes_below changes ≤ byte
    → mode_from before changes file owner byte ≡ None
unfolding bytes_below
AreBelow-from before [] file owner byte nothing past = nothing
AreBelow-from before (change ∷ changes) file owner byte nothing past =
    grind (arith, common_steps, not_covered, and_right, AreBelow-from None changes file owner byte refl)

pub AreBelow-changes : (changes : List Change) (file : ℕ) (owner : Owner) → AreBelow (bytes_below changes) (mode_in changes file owner)
AreBelow-changes changes file owner byte past = AreBelow-from None changes file owner byte refl past

-- the owner is the first that meets the predicate
record IsFirstOwner (P : Owner → Type 0) (owner : Owner) : Type 0 where
  holds : P owner
  least : (other : Owner) → IsBefore other owner → ¬ P other

first_process : (P : Owner → Type 0) (p : ℕ) → IsLeast (λ q. P (Process q)) p → (other : Owner) → IsBefore other (Process p) → ¬ P other
first_process P p h other before = grind (arith, common_steps)

first_description : (P : Owner → Type 0) (d : ℕ) → ¬ ((p : ℕ) × P (Process p)) → IsLeast (λ e. P (Description e)) d → (other : Owner)
    → IsBefore other (Description d) → ¬ P other
first_description P d none_first h other before = grind (arith, common_steps)

some_description : (P : Owner → Type 0) (owner : Owner) → P owner → ¬ ((p : ℕ) × P (Process p)) → AtLeastOne (IsFirstOwner P)
some_description P (Process p) h none_first none = none_first (p, h)
some_description P (Description d) h none_first none =
    some_least (λ e. P (Description e)) d h
    (λ e least. none (Description e) (record { holds = least.holds; least = first_description P e none_first least }))

some_first_owner : (P : Owner → Type 0) (owner : Owner) → P owner → AtLeastOne (IsFirstOwner P)
some_first_owner P owner h none =
    by_cases ((p : ℕ) × P (Process p))
    (λ some.
    some_least (λ p. P (Process p)) some.0 some.1
    (λ p least. none (Process p) (record { holds = least.holds; least = first_process P p least })))
    (λ none_first. some_description P owner h none_first none)

-- what conflicts is a mode
held_mode : (held : Option Mode) (wanted : Mode) → HeldConflicts held wanted → (mode : Mode) × (held ≡ Some mode)
held_mode held wanted h = grind (arith, common_steps)

-- on this byte of the range some owner blocks
abbrev IsBlockedAt : ByteModes → Owner → Span → Mode → ℕ → Type 0
IsBlockedAt modes owner span wanted byte = Covers span byte × (other : Owner) × Blocks modes owner wanted byte other

-- some lock is the first that blocks
pub FirstBlocker-some : (modes : ByteModes) (bound : ℕ) (owner : Owner) (span : Span) (wanted : Mode)
    → ((other : Owner) → AreBelow bound (modes other)) → ByteConflict modes owner span wanted
    → AtLeastOne (IsFirstBlocker modes owner span wanted)
FirstBlocker-some modes bound owner span wanted within h none =
    some_least (IsBlockedAt modes owner span wanted) h.byte (h.covered, h.other, h.blocks)
    (λ byte least.
    some_first_owner (Blocks modes owner wanted byte) least.holds.1 least.holds.2
    (λ other first.
    let held = held_mode (modes other byte) wanted first.holds.conflicts in
    run_some (modes other) bound byte held.0 (within other) held.1
    (λ run is_run.
    none (record { owner = other; mode = held.0; span = run })
    (record {
      byte = byte;
      first = record {
        covered = least.holds.0;
        blocks = first.holds;
        least_byte = λ before any from less blocks.
            least.least before less ((from, (let high = least.holds.0.1 in omega arith)), any, blocks);
        least_owner = first.least;
      };
      run = is_run;
    }))))
