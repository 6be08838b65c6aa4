-- Owners that loops gather: for `add_steps`, `add_blockers`, `add_holders`, `add_conflicting`.
use Rattle.lock_server.proofs.Common.{common_steps, ℕ, ◌≡◌, ◌+◌, ◌<◌, ◌≤◌, ◌∙◌, ◌⊎◌, inl, inr, sym, ap, subst, arith, Some, List, [], ◌∷◌, ◌++◌, Any, length, ◌↔◌, slice_get, cases_lt, Contains-append_left, Contains-push, Contains-push_cases, same_Some, slice_get_within, slice_get-get_or, get_or_from_slice_get, AddsOwners}

-- nothing more
pub AddsOwners-same : (old : List ℕ) (Added : ℕ → Type 0) → ((other : ℕ) → ¬ Added other) → AddsOwners old old Added
AddsOwners-same old Added none = record { kept = λ other h. h; added = λ other h. absurd (none other h); only = λ other h. inl h }

-- one owner, the only one of which it holds
pub AddsOwners-push : (old new : List ℕ) (owner : ℕ) (Added : ℕ → Type 0) → new ≡ old ++ owner ∷ [] → Added owner
    → ((other : ℕ) → Added other → other ≡ owner) → AddsOwners old new Added
AddsOwners-push old new owner Added items holds alone = grind (arith, common_steps, Contains-append_left, Contains-push, Contains-push_cases)

-- the same owners, said otherwise
pub AddsOwners-as : (old new : List ℕ) (P Q : ℕ → Type 0) → ((other : ℕ) → P other ↔ Q other) → AddsOwners old new P → AddsOwners old new Q
AddsOwners-as old new P Q same adds = grind (arith, common_steps)

-- those of the one kind, and then those of the other
pub AddsOwners-both : (old mid new : List ℕ) (P Q : ℕ → Type 0) → AddsOwners old mid P → AddsOwners mid new Q → AddsOwners old new (λ other. P other ⊎ Q other)
AddsOwners-both old mid new P Q one two = grind (arith, common_steps)

-- one of the first so many elements gives the owner, by its place too
pub record IsGivenBefore {X : Type 0} (Gives : ℕ → X → ℕ → Type 0) (xs : List X) (n other : ℕ) : Type 0 where
  pub place : ℕ
  pub before : place < n
  pub item : X
  pub is : slice_get xs place ≡ Some item
  pub gives : Gives place item other

module _ {X : Type 0} (Gives : ℕ → X → ℕ → Type 0) (xs : List X) where
  given_here : (i : ℕ) (x : X) (other : ℕ) → slice_get xs i ≡ Some x → IsGivenBefore Gives xs (i + 1) other → IsGivenBefore Gives xs i other ⊎ Gives i x other
  given_here i x other at given = elim (cases_lt given.place i) [
    | inl before ↦ inl (record { place = given.place; before = before; item = given.item; is = given.is; gives = given.gives })
    | inr past ↦
        inr (let here : given.place ≡ i = omega (arith, given.before) in
        let one : slice_get xs i ≡ Some given.item = subst (λ (k : ℕ). slice_get xs k ≡ Some given.item) here given.is in
        let same : given.item ≡ x = same_Some given.item x (sym one ∙ at) in
        subst (λ (k : ℕ). Gives k x other) here (subst (λ (y : X). Gives given.place y other) same given.gives))
  ]

  -- an element that adds what it gives
  pub gathered_more : (old mid new : List ℕ) (i : ℕ) (x : X) → slice_get xs i ≡ Some x → AddsOwners old mid (IsGivenBefore Gives xs i)
      → AddsOwners mid new (Gives i x) → AddsOwners old new (IsGivenBefore Gives xs (i + 1))
  gathered_more old mid new i x at before here =
      AddsOwners-as old new (λ other. IsGivenBefore Gives xs i other ⊎ Gives i x other) (IsGivenBefore Gives xs (i + 1))
      (λ other. (
        λ h. elim h [
          | inl given ↦ record { place = given.place; before = omega (arith, given.before); item = given.item; is = given.is; gives = given.gives }
          | inr gives ↦ record { place = i; before = omega arith; item = x; is = at; gives = gives }
        ],
        given_here i x other at,
      ))
      (AddsOwners-both old mid new (IsGivenBefore Gives xs i) (Gives i x) before here)

  -- an element that gives nothing
  pub gathered_skip : (old new : List ℕ) (i : ℕ) (x : X) → slice_get xs i ≡ Some x → AddsOwners old new (IsGivenBefore Gives xs i)
      → ((other : ℕ) → ¬ Gives i x other) → AddsOwners old new (IsGivenBefore Gives xs (i + 1))
  gathered_skip old new i x at before none = gathered_more old new new i x at before (AddsOwners-same new (Gives i x) none)

  -- elements that give nothing
  pub gathered_past : (old new : List ℕ) (i end : ℕ) → i ≤ end → ((place : ℕ) (x : X) (other : ℕ) → i ≤ place → place < end → slice_get xs place ≡ Some x → ¬ Gives place x other)
      → AddsOwners old new (IsGivenBefore Gives xs i) → AddsOwners old new (IsGivenBefore Gives xs end)
  gathered_past old new i end further none before =
      AddsOwners-as old new (IsGivenBefore Gives xs i) (IsGivenBefore Gives xs end)
      (λ other. (
        λ given. record { place = given.place; before = (let early = given.before in omega (arith, early, further)); item = given.item; is = given.is; gives = given.gives },
        λ given. elim (cases_lt given.place i) [
          | inl early ↦ record { place = given.place; before = early; item = given.item; is = given.is; gives = given.gives }
          | inr late ↦ absurd (none given.place given.item other late given.before given.is given.gives)
        ],
      )) before

  -- after the last one it is all
  pub gathered_all : (old new : List ℕ) (i : ℕ) (P : ℕ → Type 0) → length xs ≤ i
      → ((other place : ℕ) (x : X) → slice_get xs place ≡ Some x → Gives place x other → P other)
      → ((other : ℕ) → P other → (place : ℕ) × (x : X) × (slice_get xs place ≡ Some x) × Gives place x other)
      → AddsOwners old new (IsGivenBefore Gives xs i) → AddsOwners old new P
  gathered_all old new i P past only every =
      AddsOwners-as old new (IsGivenBefore Gives xs i) P
      (λ other. (
        λ given. only other given.place given.item given.is given.gives,
        λ h. let found = every other h in
            record { place = found.0; before = (let within = slice_get_within xs found.0 found.1 found.2 in omega arith); item = found.1; is = found.2; gives = found.3 },
      ))

-- some element, by its place and back
pub Any-place : {X : Type 0} (P : X → Type 0) (xs : List X) → Any P xs → (place : ℕ) × (x : X) × (slice_get xs place ≡ Some x) × P x
Any-place P xs (k, x, within, is, holds) = (k, x, slice_get-get_or xs k x within ∙ ap (λ y. Some y) is, holds)

pub Any-from_place : {X : Type 0} (P : X → Type 0) (xs : List X) (place : ℕ) (x : X) → slice_get xs place ≡ Some x → P x → Any P xs
Any-from_place P xs place x at holds = (place, x, slice_get_within xs place x at, get_or_from_slice_get xs place x x at, holds)
