-- Whether owners from a first number to a last one have a lock: for the calls named `has_locks` of `LockFile` and `LockServer`.
use Rattle.lock_server.proofs.Common.{ℕ, ◌≡◌, ◌+◌, ◌<◌, ◌≤◌, ◌∙◌, inl, inr, sym, subst, refl, arith, true, false, not, Bool, Option, Some, None, ◌↔◌, IsTrue, is_some, common_steps, cases_eq, cases_lt, nat_tests, Mode, Modes, HasByteLock, HasFlockLock, HaveLocksOn, is_within, FileState, SameFile, untouched}
use Rattle.lock_server.proofs.ClearedLemmas.{within_ends}

-- an owner among these of whom this holds
abbrev pub OneWithin : ℕ → ℕ → (ℕ → Type 0) → Type 0
OneWithin first last P = (owner : ℕ) × IsTrue (is_within first last owner) × P owner

pub is_one : (first last owner : ℕ) → first ≤ owner → owner ≤ last → IsTrue (is_within first last owner)
is_one first last owner from within = grind (arith, common_steps, nat_tests)

-- of none of them, as far as this number
pub record NoneBelow (P : ℕ → Type 0) (first next : ℕ) : Type 0 where
  pub behind : first ≤ next
  pub none : (owner : ℕ) → first ≤ owner → owner < next → ¬ P owner

pub none_first : (P : ℕ → Type 0) (first next : ℕ) → next ≡ first → NoneBelow P first next
none_first P first next is = record { behind = omega (arith, is); none = λ owner from before. absurd (omega (arith, is, from, before)) }

pub none_more : (P : ℕ → Type 0) (first next owner : ℕ) → NoneBelow P first next → next ≤ owner
    → ((other : ℕ) → next ≤ other → other < owner → ¬ P other) → ¬ P owner → NoneBelow P first (owner + 1)
none_more P first next owner so_far from between isnt =
    let behind = so_far.behind in record {
      behind = omega arith;
      none = λ other first_from before. elim (cases_lt other next) [
        | inl earlier ↦ so_far.none other first_from earlier
        | inr later ↦ elim (cases_eq other owner) [
          | inl is ↦ (λ holds. isnt (subst P is holds))
          | inr differs ↦ between other later (omega (arith, before, differs))
        ]
      ];
    }

-- and of none at all
pub none_within : (P : ℕ → Type 0) (first last next : ℕ) → NoneBelow P first next → ((other : ℕ) → next ≤ other → other ≤ last → ¬ P other)
    → ¬ OneWithin first last P
none_within P first last next so_far none one =
    let ends = within_ends first last one.0 one.1 in
    elim (cases_lt one.0 next) [
      | inl earlier ↦ so_far.none one.0 ends.0 earlier one.2
      | inr later ↦ none one.0 later ends.1 one.2
    ]

-- who has no mode on any byte has no byte lock
pub no_byte_lock : (F : FileState) (owner : ℕ) → ((byte : ℕ) → F.bytes owner byte ≡ None) → ¬ HasByteLock F owner
no_byte_lock F owner none has = let h : None ≡ Some has.mode = sym (none has.byte) ∙ has.is in cc

pub no_flock_lock : (F : FileState) (owner : ℕ) → F.flocks owner ≡ None → ¬ HasFlockLock F owner
no_flock_lock F owner none has = let h : None ≡ Some has.mode = sym none ∙ has.is in cc

-- by a flock mode
pub flock_told : (F : FileState) (owner : ℕ) (mode : Option Mode) → mode ≡ F.flocks owner → IsTrue (is_some mode) ↔ HasFlockLock F owner
flock_told F owner None is = (λ some. absurd (let h : false ≡ true = some in cc), λ has. absurd (no_flock_lock F owner (sym is) has))
flock_told F owner (Some mode) is = (λ some. record { mode = mode; is = sym is }, λ has. refl)

-- by a list of which it is known whether it is empty
pub list_told : (F : FileState) (owner : ℕ) (modes : Modes) → ((byte : ℕ) → modes byte ≡ F.bytes owner byte) → (empty : Bool)
    → IsTrue empty ↔ ((byte : ℕ) → modes byte ≡ None) → (empty ≡ false → (byte : ℕ) × (mode : Mode) × (modes byte ≡ Some mode))
    → IsTrue (not empty) ↔ HasByteLock F owner
list_told F owner modes same true free held = (
  λ some. absurd (let h : false ≡ true = some in cc),
  λ has. absurd (no_byte_lock F owner (λ byte. sym (same byte) ∙ free.0 refl byte) has),
)
list_told F owner modes same false free held = (λ some. let h = held refl in record { byte = h.0; mode = h.1; is = sym (same h.0) ∙ h.2 }, λ has. refl)

pub none_untouched : (F : FileState) (first last : ℕ) → SameFile untouched F → ¬ HaveLocksOn F first last
none_untouched F first last same have = elim have.has [
  | inl has ↦ no_byte_lock F have.owner (λ byte. same.locks.bytes have.owner byte) has
  | inr has ↦ no_flock_lock F have.owner (same.locks.flocks have.owner) has
]
