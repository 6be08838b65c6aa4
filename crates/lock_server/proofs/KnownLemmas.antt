-- What the server knows of its waits can be had: each is blocked by something that is found, though it is only known that there is some. For
-- `LockServer::set`, `LockServer::cancel` and others.
use Rattle.lock_server.proofs.Common.{arith, ℕ, zero, suc, ◌≡◌, ◌∙◌, ◌+◌, ◌<◌, ◌≤◌, ◌⊎◌, inl, inr, sym, ap, subst, refl, true, false, cond, Bool, Option, Some, None, List, [], ◌∷◌, ◌++◌, Any, ◌&&◌, cases_eq, cases_lt, eqb-true, nat_tests, ∥∥₁_elim, ∥∥₁_map}
use Rattle.lock_server.proofs.Common.{Mode, Read, Write, Span, is_covered, Conflict, Covers, HeldConflicts, Owner, Process, Description, Family, Bytes, Whole, Policy, Held, Queue, IsBlockedIn, Pending, Table, FileState, by_owner, locks_on, as_wait, IsSafe, AllBlocked, HasAlready, HasIn, IsAtLeast, IsHeldBack, IsSettled, IsWaitBlocked, PendingsConflict, table_state}
use Rattle.std.specs.Prelude.{◌==◌, not}
use Rattle.std.proofs.Math.Path.{Σ_path}
use Rattle.std.proofs.Props.{props}
use mathlib.Core.HLevel.{is_prop→PathP}
use Rattle.lock_book.specs.Conflicts.{Blocks}
use Rattle.lock_server.specs.Freed.{reach_of}
use Rattle.lock_server.proofs.FreedLemmas.{conflict_reaches, reaches_or_not}
use Rattle.lock_server.proofs.ListLemmas.{Any-cons, Any-here, Any-nil, Any-there}

-- the least number for which the test is true
abbrev IsLeast : (ℕ → Bool) → ℕ → Type 0
IsLeast p n = (p n ≡ true) × ((k : ℕ) → k < n → p k ≡ false)

abbrev Least : (ℕ → Bool) → Type 0
Least p = (n : ℕ) × IsLeast p n

none_below : (p : ℕ → Bool) (n : ℕ) → Least p ⊎ ((k : ℕ) → k < n → p k ≡ false)
none_below p zero = inr (λ k before. absurd (omega (arith, before)))
none_below p (suc n) = elim (none_below p n) [
  | inl least ↦ inl least
  | inr none ↦ at (p n) refl none
]
  where
    at : (b : Bool) → p n ≡ b → ((k : ℕ) → k < n → p k ≡ false) → Least p ⊎ ((k : ℕ) → k < suc n → p k ≡ false)
    at true is none = inl (n, (is, none))
    at false is none = inr (λ k before. elim (cases_eq k n) [
      | inl same ↦ ap p same ∙ is
      | inr differs ↦ none k (omega (arith, before, differs))
    ])

least_of : (p : ℕ → Bool) (n : ℕ) → p n ≡ true → Least p
least_of p n is = elim (none_below p (suc n)) [
  | inl least ↦ least
  | inr none ↦ absurd (let no : true ≡ false = sym is ∙ none n (omega arith) in cc)
]

same_least : (p : ℕ → Bool) (one other : Least p) → one.0 ≡ other.0
same_least p one other = elim (cases_lt one.0 other.0) [
  | inl before ↦ absurd (let no : true ≡ false = sym one.1.0 ∙ other.1.1 one.0 before in cc)
  | inr past ↦ elim (cases_eq one.0 other.0) [
    | inl same ↦ same
    | inr differs ↦ absurd (let no : true ≡ false = sym other.1.0 ∙ one.1.1 other.0 (omega (arith, past, differs)) in cc)
  ]
]

is_least_prop : (p : ℕ → Bool) (n : ℕ) → IsProp (IsLeast p n)
is_least_prop p n = hlevel props

least_prop : (p : ℕ → Bool) → IsProp (Least p)
least_prop p one other = Σ_path (same_least p one other) (is_prop→PathP (λ i. IsLeast p (same_least p one other i)) (λ i. is_least_prop p (same_least p one other i)) one.1 other.1)

-- a number of which the test is true
found : (p : ℕ → Bool) → ∥ ((n : ℕ) × (p n ≡ true)) ∥₁ → (n : ℕ) × (p n ≡ true)
found p there = let least = ∥∥₁_elim there (least_prop p) (λ (n, is). least_of p n is) in (least.0, least.1.0)

-- whether the test is true of some number below this one
any_below : (ℕ → Bool) → ℕ → Bool
any_below p zero = false
any_below p (suc n) = cond (p n) true (any_below p n)

below_some : (p : ℕ → Bool) (n : ℕ) → any_below p n ≡ true → (k : ℕ) × (k < n) × (p k ≡ true)
unfolding any_below
below_some p zero is = absurd (let no : false ≡ true = is in cc)
below_some p (suc n) is = at (p n) refl is (below_some p n)
  where
    at : (b : Bool) → p n ≡ b → cond b true (any_below p n) ≡ true → (any_below p n ≡ true → (k : ℕ) × (k < n) × (p k ≡ true)) → (k : ℕ) × (k < suc n) × (p k ≡ true)
    at true here some later = (n, omega arith, here)
    at false here some later = let there = later some in (there.0, (let k = there.1 in omega arith), there.2)

some_below : (p : ℕ → Bool) (n k : ℕ) → k < n → p k ≡ true → any_below p n ≡ true
unfolding any_below
some_below p zero k before is = absurd (omega (arith, before))
some_below p (suc n) k before is = elim (cases_eq k n) [
  | inl same ↦ ap (λ (b : Bool). cond b true (any_below p n)) (ap p (sym same) ∙ is)
  | inr differs ↦ at (p n) (some_below p n k (omega (arith, before, differs)) is)
]
  where
    at : (b : Bool) → any_below p n ≡ true → cond b true (any_below p n) ≡ true
    at true later = refl
    at false later = later

-- two numbers of which the test is true
found_two : (p : ℕ → ℕ → Bool) → ∥ ((n : ℕ) × (k : ℕ) × (p n k ≡ true)) ∥₁ → (n : ℕ) × (k : ℕ) × (p n k ≡ true)
found_two p there =
    let within : ℕ → Bool = λ m. any_below (λ n. any_below (p n) m) m in
    let bound = found within (∥∥₁_map there (λ (n, k, is).
    (suc (n + k), some_below (λ n'. any_below (p n') (suc (n + k))) (suc (n + k)) n (omega arith) (some_below (p n) (suc (n + k)) k (omega arith) is)))) in
    let first = below_some (λ n. any_below (p n) bound.0) bound.0 bound.1 in
    let second = below_some (p first.0) bound.0 first.2 in
    (first.0, second.0, second.2)

-- whether what is held conflicts with the wanted mode
conflicts : Option Mode → Mode → Bool
conflicts None wanted = false
conflicts (Some Read) Read = false
conflicts (Some Read) Write = true
conflicts (Some Write) wanted = true

conflicts_told : (held : Option Mode) (wanted : Mode) → HeldConflicts held wanted → conflicts held wanted ≡ true
unfolding conflicts
conflicts_told None wanted conflict = absurd conflict
conflicts_told (Some Read) Read conflict = absurd conflict
conflicts_told (Some Read) Write conflict = refl
conflicts_told (Some Write) wanted conflict = refl

told_conflicts : (held : Option Mode) (wanted : Mode) → conflicts held wanted ≡ true → HeldConflicts held wanted
unfolding conflicts
told_conflicts None wanted told = absurd (let no : false ≡ true = told in cc)
told_conflicts (Some Read) Read told = absurd (let no : false ≡ true = told in cc)
told_conflicts (Some Read) Write told = tt
told_conflicts (Some Write) Read told = tt
told_conflicts (Some Write) Write told = tt

both : (a b : Bool) → (a && b) ≡ true → (a ≡ true) × (b ≡ true)
both true b e = (refl, e)
both false b e = absurd (let no : false ≡ true = e in cc)

and_of : (a b : Bool) → a ≡ true → b ≡ true → (a && b) ≡ true
and_of a b one other = ap (λ (t : Bool). t && b) one ∙ other

another_told : (owner other : ℕ) → (Description other ≡ Description owner → ⊥) → not (other == owner) ≡ true
another_told owner other another = at (other == owner) refl
  where
    at : (b : Bool) → (other == owner) ≡ b → not (other == owner) ≡ true
    at true is = absurd (another (ap Description (eqb-true other owner is)))
    at false is = ap not is

told_another : (owner other : ℕ) → not (other == owner) ≡ true → Description other ≡ Description owner → ⊥
told_another owner other told same =
    let is : other ≡ owner = cc in
    let equal : (other == owner) ≡ true = grind (arith, nat_tests) in
    let no : false ≡ true = sym (ap not equal) ∙ told in cc

covered_told : (span : Span) (byte : ℕ) → Covers span byte → is_covered span byte ≡ true
covered_told span byte covered = grind (arith, nat_tests)

told_covered : (span : Span) (byte : ℕ) → is_covered span byte ≡ true → Covers span byte
told_covered span byte told = grind (arith, nat_tests)

-- whether another owner's lock of bytes is in the way on the byte, or its flock lock
byte_test : FileState → Pending → ℕ → ℕ → Bool
byte_test F wait byte other = is_covered wait.span byte && (not (other == wait.owner) && conflicts (F.bytes other byte) wait.mode)

flock_test : FileState → Pending → ℕ → Bool
flock_test F wait other = not (other == wait.owner) && conflicts (F.flocks other) wait.mode

module _ (F : FileState) (wait : Pending) where
  in_the_way : (byte : ℕ) → Covers wait.span byte → (other : Owner) → Blocks (by_owner F.bytes) (Description wait.owner) wait.mode byte other
      → (n : ℕ) × (k : ℕ) × (byte_test F wait n k ≡ true)
  unfolding byte_test
  in_the_way byte covered (Process process) blocks = absurd blocks.conflicts
  in_the_way byte covered (Description other) blocks = (
    byte,
    other,
    and_of _ _ (covered_told wait.span byte covered)
        (and_of _ _ (another_told wait.owner other blocks.another) (conflicts_told (F.bytes other byte) wait.mode blocks.conflicts)),
  )

  held_by_family : (family : Family) → ∥ IsBlockedIn family (locks_on F) (as_wait wait) ∥₁ → IsBlockedIn family (locks_on F) (as_wait wait)
  unfolding byte_test flock_test
  held_by_family Bytes held =
      let there = found_two (byte_test F wait) (∥∥₁_map held (λ conflict. in_the_way conflict.byte conflict.covered conflict.other conflict.blocks)) in
      let tests = both (is_covered wait.span there.0) _ there.2 in
      let owners = both (not (there.1 == wait.owner)) _ tests.1 in record {
        byte = there.0;
        covered = told_covered wait.span there.0 tests.0;
        other = Description there.1;
        blocks = record { another = told_another wait.owner there.1 owners.0; conflicts = told_conflicts (F.bytes there.1 there.0) wait.mode owners.1 };
      }
  held_by_family Whole held =
      let there = found (flock_test F wait) (∥∥₁_map held (λ conflict.
      (conflict.description, and_of _ _ (another_told wait.owner conflict.description conflict.another) (conflicts_told (F.flocks conflict.description) wait.mode conflict.conflicts)))) in
      let tests = both (not (there.0 == wait.owner)) _ there.1 in record {
        description = there.0;
        another = told_another wait.owner there.0 tests.0;
        conflicts = told_conflicts (F.flocks there.0) wait.mode tests.1;
      }

-- whether two modes conflict, and whether what is held is enough
conflict_or_not : (one other : Mode) → Conflict one other ⊎ (¬ Conflict one other)
conflict_or_not Read Read = inr (λ no. no)
conflict_or_not Read Write = inl tt
conflict_or_not Write Read = inl tt
conflict_or_not Write Write = inl tt

least_or_not : (held : Option Mode) (wanted : Mode) → IsAtLeast held wanted ⊎ (¬ IsAtLeast held wanted)
least_or_not None wanted = inr (λ no. no)
least_or_not (Some Read) Read = inl tt
least_or_not (Some Read) Write = inr (λ no. no)
least_or_not (Some Write) Read = inl tt
least_or_not (Some Write) Write = inl tt

-- whether it is so on each byte below this one
all_below : (F : FileState) (wait : Pending) (n : ℕ) → ((byte : ℕ) → byte < n → wait.span.first ≤ byte → IsAtLeast (F.bytes wait.owner byte) wait.mode)
    ⊎ ((byte : ℕ) × (byte < n) × (wait.span.first ≤ byte) × ¬ IsAtLeast (F.bytes wait.owner byte) wait.mode)
all_below F wait zero = inl (λ byte before from. absurd (omega (arith, before)))
all_below F wait (suc n) = elim (all_below F wait n) [
  | inr lacks ↦ inr (lacks.0, (let b = lacks.1 in omega arith), lacks.2, lacks.3)
  | inl all ↦ elim (cases_lt n wait.span.first) [
    | inl before ↦ inl (λ byte within from. all byte (omega (arith, within, from, before)) from)
    | inr past ↦ elim (least_or_not (F.bytes wait.owner n) wait.mode) [
      | inr little ↦ inr (n, omega arith, omega (arith, past), little)
      | inl enough ↦ inl (λ byte within from. elim (cases_eq byte n) [
        | inl same ↦ subst (λ (b : ℕ). IsAtLeast (F.bytes wait.owner b) wait.mode) (sym same) enough
        | inr differs ↦ all byte (omega (arith, within, differs)) from
      ])
    ]
  ]
]

has_or_not : (family : Family) (F : FileState) (wait : Pending) → HasIn family F wait ⊎ (¬ HasIn family F wait)
has_or_not Whole F wait = least_or_not (F.flocks wait.owner) wait.mode
has_or_not Bytes F wait = elim (all_below F wait (suc wait.span.last)) [
  | inl all ↦ inl (λ byte covered. all byte (let b = covered.1 in omega arith) covered.0)
  | inr lacks ↦ inr (λ has. lacks.3 (has lacks.0 (lacks.2, (let b = lacks.1 in omega arith))))
]

-- whether one of the waits conflicts with this one
conflicts_or_not : (v wait : Pending) → PendingsConflict v wait ⊎ (¬ PendingsConflict v wait)
conflicts_or_not v wait = elim (reaches_or_not (reach_of v) wait) [
  | inr away ↦ inr (λ c. away (conflict_reaches v wait c))
  | inl reaches ↦ elim (cases_eq v.owner wait.owner) [
    | inl same ↦ inr (λ c. c.conflict.owners (ap Description same))
    | inr differs ↦ elim (conflict_or_not v.mode wait.mode) [
      | inr none ↦ inr (λ c. none c.conflict.modes)
      | inl modes ↦ inl (record {
        conflict = record {
          file = refl;
          family = sym reaches.family;
          owners = λ same. differs (let e : Description v.owner ≡ Description wait.owner = same in let is : v.owner ≡ wait.owner = cc in is);
          modes = modes;
          ranges = reaches.meet;
        };
      })
    ]
  ]
]

any_or_not : (earlier : List Pending) (wait : Pending) → Any (λ v. PendingsConflict v wait) earlier ⊎ (¬ Any (λ v. PendingsConflict v wait) earlier)
any_or_not [] wait = inr (Any-nil (λ v. PendingsConflict v wait))
any_or_not (v ∷ earlier) wait = elim (conflicts_or_not v wait) [
  | inl here ↦ inl (Any-here (λ u. PendingsConflict u wait) v earlier here)
  | inr none ↦ elim (any_or_not earlier wait) [
    | inl there ↦ inl (Any-there (λ u. PendingsConflict u wait) v earlier there)
    | inr nowhere ↦ inr (λ any. elim (Any-cons (λ u. PendingsConflict u wait) v earlier any) [ inl here ↦ none here | inr there ↦ nowhere there ])
  ]
]

queued_or_not : (F : FileState) (earlier : List Pending) (wait : Pending) → (Any (λ v. PendingsConflict v wait) earlier × ¬ HasAlready F wait)
    ⊎ (¬ (Any (λ v. PendingsConflict v wait) earlier × ¬ HasAlready F wait))
queued_or_not F earlier wait = elim (any_or_not earlier wait) [
  | inr none ↦ inr (λ queued. none queued.0)
  | inl any ↦ elim (has_or_not wait.family F wait) [
    | inl has ↦ inr (λ queued. queued.1 has)
    | inr lacks ↦ inl (any, lacks)
  ]
]

-- what blocks a wait can be had
blocked_known : (policy : Policy) (F : FileState) (earlier : List Pending) (wait : Pending) → ∥ IsWaitBlocked policy F earlier wait ∥₁
    → IsWaitBlocked policy F earlier wait
blocked_known Held F earlier wait known = held_by_family F wait wait.family known
blocked_known Queue F earlier wait known = elim (queued_or_not F earlier wait) [
  | inl queued ↦ inr queued
  | inr free ↦ inl (held_by_family F wait wait.family (∥∥₁_map known (λ blocked. by_lock blocked free)))
]
  where
    by_lock : IsWaitBlocked Queue F earlier wait → ¬ (Any (λ v. PendingsConflict v wait) earlier × ¬ HasAlready F wait) → IsHeldBack F wait
    by_lock (inl held) free = held
    by_lock (inr queued) free = absurd (free queued)

all_known : (policy : Policy) (F : FileState) (earlier waits : List Pending) → ∥ AllBlocked policy F earlier waits ∥₁ → AllBlocked policy F earlier waits
all_known policy F earlier [] known = tt
all_known policy F earlier (wait ∷ waits) known =
    (blocked_known policy F earlier wait (∥∥₁_map known (λ all. all.0)), all_known policy F (earlier ++ wait ∷ []) waits (∥∥₁_map known (λ all. all.1)))

-- so of a table that is known to be safe each file is settled
pub settled_known : (policy : Policy) (table : Table) (file : ℕ) → ∥ IsSafe policy (table_state table) ∥₁
    → IsSettled policy ((table_state table).files file)
settled_known policy table file holds =
    all_known policy ((table_state table).files file) [] ((table_state table).files file).waits (∥∥₁_map holds (λ safe. safe.settled file))
