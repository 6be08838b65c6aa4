-- Which steps between owners are there after a change: for freedom from cycles.
use Rattle.lock_server.proofs.Common.{arith, ℕ, ◌≡◌, ◌∙◌, ◌⊎◌, inl, inr, sym, ap, subst, refl, true, false, cond, Bool, Option, Some, List, [], ◌∷◌, ◌++◌, Any, common_steps, filter, Mode, HeldConflicts, Family, Bytes, Whole, Policy, Held, Queue, WaitsConflict, Pending, as_wait, FileState, BlocksIn, IsBlockedByOwner, WaitsForOn}
use Rattle.lock_server.proofs.ListLemmas.{Any-here, Any-there, Any-cons, no_place}

-- each lock of G stood in F, or is of an owner of whom this holds
pub record LocksFrom (Given : ℕ → Type 0) (F G : FileState) : Type 0 where
  pub bytes : (owner byte : ℕ) (mode : Mode) → G.bytes owner byte ≡ Some mode → (F.bytes owner byte ≡ Some mode) ⊎ Given owner
  pub flocks : (owner : ℕ) (mode : Mode) → G.flocks owner ≡ Some mode → (F.flocks owner ≡ Some mode) ⊎ Given owner

-- the waits are some of the others, in the same order
abbrev pub IsWithin : List Pending → List Pending → Type 0
IsWithin xs [] = xs ≡ []
IsWithin xs (y ∷ ys) = IsWithin xs ys ⊎ ((rest : List Pending) × (xs ≡ y ∷ rest) × IsWithin rest ys)

pub within_itself : (xs : List Pending) → IsWithin xs xs
within_itself [] = refl
within_itself (x ∷ xs) = inr (xs, refl, within_itself xs)

pub within_left : (before after : List Pending) (wait : Pending) → IsWithin (before ++ after) (before ++ wait ∷ after)
within_left [] after wait = inl (within_itself after)
within_left (first ∷ before) after wait = inr (before ++ after, refl, within_left before after wait)

pub filtered_within : (p : Pending → Bool) (xs : List Pending) → IsWithin (filter p xs) xs
filtered_within p [] = refl
filtered_within p (x ∷ xs) = elim (p x) as (λ b. IsWithin (cond b (x ∷ filter p xs) (filter p xs)) (x ∷ xs)) [
  | true ↦ inr (filter p xs, refl, filtered_within p xs)
  | false ↦ inl (filtered_within p xs)
]

pub within_then : (xs ys zs : List Pending) → IsWithin xs ys → IsWithin ys zs → IsWithin xs zs
within_then xs ys [] one other = subst (λ (l : List Pending). IsWithin xs l) other one
within_then xs ys (z ∷ zs) one other = elim other [
  | inl later ↦ inl (within_then xs ys zs one later)
  | inr (rest, is, later) ↦ elim (subst (λ (l : List Pending). IsWithin xs l) is one) [
    | inl among ↦ inl (within_then xs rest zs among later)
    | inr (left, left_is, among) ↦ inr (left, left_is, within_then left rest zs among later)
  ]
]

module _ (P : Pending → Type 0) where
  -- the wait stands among these, behind at least those that are before it
  record StandsIn (ys before : List Pending) (wait : Pending) : Type 0 where
    ahead : List Pending
    behind : List Pending
    place : ys ≡ ahead ++ wait ∷ behind
    among : Any P before → Any P ahead

  stands_in : (xs ys before : List Pending) (wait : Pending) (after : List Pending) → IsWithin xs ys → xs ≡ before ++ wait ∷ after → StandsIn ys before wait
  stands_in xs [] before wait after within place = absurd (no_place before wait after (sym within ∙ place))
  stands_in xs (y ∷ ys) before wait after (inl later) place =
      let stands = stands_in xs ys before wait after later place in record {
        ahead = y ∷ stands.ahead;
        behind = stands.behind;
        place = ap (λ (l : List Pending). y ∷ l) stands.place;
        among = λ any. Any-there P y stands.ahead (stands.among any);
      }
  stands_in xs (y ∷ ys) [] wait after (inr (rest, is, later)) place =
      let e : y ∷ rest ≡ wait ∷ after = sym is ∙ place in
      let here : y ≡ wait = cc in
      record { ahead = []; behind = ys; place = ap (λ (x : Pending). x ∷ ys) here; among = λ any. any }
  stands_in xs (y ∷ ys) (b ∷ before) wait after (inr (rest, is, later)) place =
      let e : y ∷ rest ≡ b ∷ (before ++ wait ∷ after) = sym is ∙ place in
      let here : y ≡ b = cc in
      let there : rest ≡ before ++ wait ∷ after = cc in
      let stands = stands_in rest ys before wait after later there in record {
        ahead = y ∷ stands.ahead;
        behind = stands.behind;
        place = ap (λ (l : List Pending). y ∷ l) stands.place;
        among = λ any. elim (Any-cons P b before any) [
          | inl holds ↦ Any-here P y stands.ahead (subst P (sym here) holds)
          | inr among ↦ Any-there P y stands.ahead (stands.among among)
        ];
      }

-- what is held and conflicts was held before, or is given
conflict_from : (was now : Option Mode) (wanted : Mode) (Given : Type 0) → ((mode : Mode) → now ≡ Some mode → (was ≡ Some mode) ⊎ Given)
    → HeldConflicts now wanted → HeldConflicts was wanted ⊎ Given
conflict_from was now wanted Given h h2 = grind (arith, common_steps)

module _ (Given : ℕ → Type 0) (F G : FileState) (locks : LocksFrom Given F G) where
  -- who blocks a wait by a lock did so before, or was given a lock
  blocked_from : (family : Family) (wait : Pending) (other : ℕ) → BlocksIn family G wait other → BlocksIn family F wait other ⊎ Given other
  blocked_from Bytes wait other blocked = elim (conflict_from (F.bytes other blocked.byte) (G.bytes other blocked.byte) wait.mode (Given other) (locks.bytes other blocked.byte) blocked.conflicts) [
    | inl was ↦ inl (record { byte = blocked.byte; covered = blocked.covered; another = blocked.another; conflicts = was })
    | inr given ↦ inr given
  ]
  blocked_from Whole wait other blocked = elim (conflict_from (F.flocks other) (G.flocks other) wait.mode (Given other) (locks.flocks other) blocked.conflicts) [
    | inl was ↦ inl (record { another = blocked.another; conflicts = was })
    | inr given ↦ inr given
  ]

  -- and so does who blocks it at all, where the wait is behind at least the same ones
  pub still_blocked : (policy : Policy) (before ahead : List Pending) (wait : Pending) (other : ℕ)
      → (Any (λ v. (v.owner ≡ other) × WaitsConflict (as_wait v) (as_wait wait)) before
      → Any (λ v. (v.owner ≡ other) × WaitsConflict (as_wait v) (as_wait wait)) ahead)
      → IsBlockedByOwner policy G before wait other → IsBlockedByOwner policy F ahead wait other ⊎ Given other
  still_blocked Held before ahead wait other among blocked = blocked_from wait.family wait other blocked
  still_blocked Queue before ahead wait other among (inl by_lock) = elim (blocked_from wait.family wait other by_lock) [
    | inl was ↦ inl (inl was)
    | inr given ↦ inr given
  ]
  still_blocked Queue before ahead wait other among (inr by_wait) = inl (inr (among by_wait))

  -- a step was there before, or leads to an owner that was given a lock
  pub step_from : (policy : Policy) → IsWithin G.waits F.waits → (one other : ℕ) → WaitsForOn policy G one other → WaitsForOn policy F one other ⊎ Given other
  step_from policy within one other step =
      let stands = stands_in (λ v. (v.owner ≡ other) × WaitsConflict (as_wait v) (as_wait step.wait)) G.waits F.waits step.before step.wait step.after within step.place in
      elim (still_blocked policy step.before stands.ahead step.wait other stands.among step.blocked) [
        | inl was ↦ inl (record { before = stands.ahead; wait = step.wait; after = stands.behind; place = stands.place; detected = step.detected; of_one = step.of_one; blocked = was })
        | inr given ↦ inr given
      ]
