-- What owners from a first number to a last one have goes, owner by owner: for `LockFile::strip_bytes` and `LockFile::strip_flocks`.
use Rattle.lock_server.proofs.Common.{ℕ, ◌≡◌, ◌≢◌, ◌+◌, ◌<◌, ◌≤◌, ◌∙◌, inl, inr, sym, ap, refl, arith, true, false, Bool, Option, None, common_steps, ◌&&◌, if◌then◌else◌, cases_Bool, cases_eq, cases_lt, eq-eqb, ne_eqb, nat_tests, is_within}
use Rattle.std.specs.Prelude.{◌==◌, nat_lt}

-- whether the owner is one from first to last, and below this number
abbrev pub is_passed : ℕ → ℕ → ℕ → ℕ → Bool
is_passed first last next owner = is_within first last owner && nat_lt owner next

-- the owners of them that are below this number have nothing, and all others what they had
pub record IsCleared {X : Type 0} (first last next : ℕ) (was now : ℕ → Option X) : Type 0 where
  pub at : (owner : ℕ) → now owner ≡ (if is_passed first last next owner then None else was owner)

below : (owner next : ℕ) → owner < next → nat_lt owner next ≡ true
below owner next less = grind (arith, nat_tests)

beyond : (owner next : ℕ) → next ≤ owner → nat_lt owner next ≡ false
beyond owner next from = grind (arith, nat_tests)

passes : (first last next owner : ℕ) → first ≤ owner → owner ≤ last → owner < next → is_passed first last next owner ≡ true
passes first last next owner from within before = grind (arith, common_steps, nat_tests)

both_below : (first last next more owner : ℕ) → owner < next → owner < more → is_passed first last next owner ≡ is_passed first last (more + 1) owner
both_below first last next more owner one other =
    ap (λ (t : Bool). is_within first last owner && t) (below owner next one ∙ sym (below owner (more + 1) (omega arith)))

both_beyond : (first last next more owner : ℕ) → next ≤ owner → more + 1 ≤ owner → is_passed first last next owner ≡ is_passed first last (more + 1) owner
both_beyond first last next more owner one other =
    ap (λ (t : Bool). is_within first last owner && t) (beyond owner next one ∙ sym (beyond owner (more + 1) other))

-- one owner more, where none is between
pub cleared_more : {X : Type 0} (first last next owner : ℕ) (was now new : ℕ → Option X) → IsCleared first last next was now
    → first ≤ next → next ≤ owner → ((other : ℕ) → next ≤ other → other < owner → now other ≡ None)
    → owner ≤ last → ((other : ℕ) → new other ≡ (if owner == other then None else now other)) → IsCleared first last (owner + 1) was new
cleared_more {X} first last next owner was now new so_far behind from none within goes = record { at = λ other. at_other other }
  where
    kept : (other : ℕ) → owner ≢ other → new other ≡ now other
    kept other differs = let apart : (owner == other) ≡ false = ne_eqb owner other differs in goes other ∙ rw apart refl

    still : (other : ℕ) → owner ≢ other → is_passed first last next other ≡ is_passed first last (owner + 1) other
        → new other ≡ (if is_passed first last (owner + 1) other then None else was other)
    still other differs same =
        kept other differs ∙ so_far.at other ∙ ap (λ (t : Bool). if t then None else was other) same

    gone : (other : ℕ) → is_passed first last (owner + 1) other ≡ true → new other ≡ None
        → new other ≡ (if is_passed first last (owner + 1) other then None else was other)
    gone other passes is = is ∙ sym (ap (λ (t : Bool). if t then None else was other) passes)

    at_other : (other : ℕ) → new other ≡ (if is_passed first last (owner + 1) other then None else was other)
    at_other other = elim (cases_lt other owner) [
      | inl before ↦ elim (cases_lt other next) [
        | inl earlier ↦ still other (λ same. omega (arith, same, before)) (both_below first last next owner other earlier before)
        | inr later ↦
            gone other (passes first last (owner + 1) other (omega arith) (omega arith) (omega arith))
            (kept other (λ same. omega (arith, same, before)) ∙ none other later before)
      ]
      | inr past ↦ elim (cases_eq owner other) [
        | inl same ↦
            gone other (passes first last (owner + 1) other (omega arith) (omega arith) (omega arith))
            (goes other ∙ ap (λ (t : Bool). if t then None else now other) (eq-eqb owner other same))
        | inr differs ↦ still other differs (both_beyond first last next owner other (omega arith) (omega arith))
      ]
    ]

pub within_ends : (first last owner : ℕ) → is_within first last owner ≡ true → (first ≤ owner) × (owner ≤ last)
within_ends first last owner is = grind (arith, common_steps, nat_tests, cases_Bool)

-- none of them is left
pub cleared_all : {X : Type 0} (first last next : ℕ) (was now : ℕ → Option X) → IsCleared first last next was now
    → ((other : ℕ) → next ≤ other → other ≤ last → now other ≡ None) → (other : ℕ)
    → now other ≡ (if is_within first last other then None else was other)
cleared_all first last next was now so_far none other = elim (cases_Bool (is_within first last other)) [
  | inl within ↦ elim (cases_lt other next) [
    | inl earlier ↦
        so_far.at other ∙ ap (λ (t : Bool). if t then None else was other) (ap (λ (t : Bool). t && nat_lt other next) within ∙ below other next earlier)
        ∙ sym (ap (λ (t : Bool). if t then None else was other) within)
    | inr later ↦
        none other later (within_ends first last other within).1 ∙ sym (ap (λ (t : Bool). if t then None else was other) within)
  ]
  | inr apart ↦
      so_far.at other ∙ ap (λ (t : Bool). if t then None else was other) (ap (λ (t : Bool). t && nat_lt other next) apart)
      ∙ sym (ap (λ (t : Bool). if t then None else was other) apart)
]
