-- Whoever goes on from behind what was told is told all, each once, in order: for `listings_tell_all`.
use Rattle.lock_server.proofs.Common.{common_steps, ℕ, ◌≡◌, ◌<◌, ◌∙◌, ◌⊎◌, inl, inr, refl, sym, ap, subst, arith, zero, suc, Some, List, [], ◌∷◌, All, Contains, length, get_or, cases_lt, All-cons, Contains-append_right, Contains-get_or, Mode, Span, IsRun, Modes, FlockLock, Lock, OwnerWait, FileState, IsByteLock, IsEarlier, IsFlockLock, IsWaitUpTo, flock_place, lock_place, wait_place}
use Rattle.std.proofs.Common.{AllPairs}
use Rattle.lock_server.specs.Listing.{IsInUse, file_place}
use Rattle.lock_server.specs.ListingLaws.{AreAll, AreTold, ListingsTellAll, place_behind}
use Rattle.lock_server.proofs.PlaceLemmas.{IsEarlier-transitive}

-- of two places one comes before the other, or they are one
one_or_other : (one two : List ℕ) → length one ≡ length two → IsEarlier one two ⊎ ((one ≡ two) ⊎ IsEarlier two one)
one_or_other [] [] same = inr (inl refl)
one_or_other [] (m ∷ ms) same = absurd (omega (arith, same))
one_or_other (n ∷ ns) [] same = absurd (omega (arith, same))
one_or_other (n ∷ ns) (m ∷ ms) same = elim (cases_lt n m) [
  | inl less ↦ inl (inl less)
  | inr from ↦ elim (cases_lt m n) [
    | inl greater ↦ inr (inr (inl greater))
    | inr upto ↦
        (let is : n ≡ m = omega (arith, from, upto) in
        elim (one_or_other ns ms (omega (arith, same))) [
          | inl before ↦ inl (inr (is, before))
          | inr (inl equal) ↦ inr (inl (ap (λ (k : ℕ). k ∷ ns) is ∙ ap (λ (l : List ℕ). m ∷ l) equal))
          | inr (inr behind) ↦ inr (inr (inr (sym is, behind)))
        ])
  ]
]

-- a place comes behind another one, or before the place behind that
before_or_behind : (n m : ℕ) (ns ms : List ℕ) → length ns ≡ length ms → IsEarlier (n ∷ ns) (place_behind (m ∷ ms)) ⊎ IsEarlier (m ∷ ms) (n ∷ ns)
before_or_behind n m [] [] same = elim (cases_lt m n) [ inl less ↦ inr (inl less) | inr from ↦ inl (inl (omega (arith, from))) ]
before_or_behind n m [] (k ∷ ks) same = absurd (omega (arith, same))
before_or_behind n m (l ∷ ls) [] same = absurd (omega (arith, same))
before_or_behind n m (l ∷ ls) (k ∷ ks) same = elim (cases_lt n m) [
  | inl less ↦ inl (inl less)
  | inr from ↦ elim (cases_lt m n) [
    | inl greater ↦ inr (inl greater)
    | inr upto ↦
        (let is : n ≡ m = omega (arith, from, upto) in
        elim (before_or_behind l k ls ks (omega (arith, same))) [
          | inl before ↦ inl (inr (is, before))
          | inr behind ↦ inr (inr (sym is, behind))
        ])
  ]
]

-- and not both
not_both : (n m : ℕ) (ns ms : List ℕ) → IsEarlier (n ∷ ns) (place_behind (m ∷ ms)) → IsEarlier (m ∷ ms) (n ∷ ns) → ⊥
not_both n m ns [] (inl upto) (inl less) = omega (arith, upto, less)
not_both n m ns [] (inl upto) (inr (same, later)) = later
not_both n m [] [] (inr (same, later)) behind = later
not_both n m (l ∷ ls) [] (inr (same, later)) behind = later
not_both n m ns (k ∷ ks) (inl below) (inl less) = omega (arith, below, less)
not_both n m ns (k ∷ ks) (inl below) (inr (same, later)) = omega (arith, below, same)
not_both n m ns (k ∷ ks) (inr (same, before)) (inl less) = omega (arith, same, less)
not_both n m [] (k ∷ ks) (inr (same, before)) (inr (equal, behind)) = before
not_both n m (l ∷ ls) (k ∷ ks) (inr (same, before)) (inr (equal, behind)) = not_both l k ls ks before behind

pairs_cons : {X : Type 0} (R : X → X → Type 0) (x : X) (xs : List X) → All (R x) xs → AllPairs R xs → AllPairs R (x ∷ xs)
pairs_cons R x xs first rest zero zero d before within = absurd (omega (arith, before))
pairs_cons R x xs first rest zero (suc j) d before within = first j d (omega (arith, within))
pairs_cons R x xs first rest (suc i) zero d before within = absurd (omega (arith, before))
pairs_cons R x xs first rest (suc i) (suc j) d before within = rest i j d (omega (arith, before)) (omega (arith, within))

-- places of so many numbers, by which things that are listed are told apart
module _ {X : Type 0} (place : X → List ℕ) (head : X → ℕ) (tail : X → List ℕ) (split : (x : X) → place x ≡ head x ∷ tail x)
    (alike : (x y : X) → length (tail x) ≡ length (tail y)) (Listed : X → Type 0)
    (one : (x y : X) → Listed x → Listed y → place x ≡ place y → x ≡ y) where
  behind_it : (x y : X) → IsEarlier (place y) (place_behind (place x)) ⊎ IsEarlier (place x) (place y)
  behind_it x y = rw (split x, split y) (before_or_behind (head y) (head x) (tail y) (tail x) (alike y x))

  not_behind_it : (x y : X) → IsEarlier (place y) (place_behind (place x)) → IsEarlier (place x) (place y) → ⊥
  not_behind_it x y before behind =
      not_both (head y) (head x) (tail y) (tail x)
      (subst (λ (p : List ℕ). IsEarlier p (place_behind (head x ∷ tail x))) (split y) (subst (λ (p : List ℕ). IsEarlier (place y) (place_behind p)) (split x) before))
      (subst (λ (p : List ℕ). IsEarlier (head x ∷ tail x) p) (split y) (subst (λ (p : List ℕ). IsEarlier p (place y)) (split x) behind))

  alike_places : (x y : X) → length (place x) ≡ length (place y)
  alike_places x y = let same = alike x y in rw (split x, split y) (omega arith)

  pub told_all : (from : List ℕ) (told : List X) → AreTold place Listed from told → AreAll place Listed from told
  told_all from [] ends = record {
    in_order = λ i j d before within. absurd (omega (arith, within));
    each = λ k d within. absurd (omega (arith, within));
    every = λ x listed behind. absurd (behind (ends.earlier x listed));
  }
  told_all from (x ∷ xs) told =
      let rest = told_all (place_behind (place x)) xs told.1 in
      let behind : (k : ℕ) (d : X) → k < length xs → IsEarlier (place x) (place (get_or xs k d)) = λ k d within.
      elim (behind_it x (get_or xs k d)) [ inl before ↦ absurd ((rest.each k d within).1 before) | inr later ↦ later ] in
      record {
        in_order = pairs_cons (λ y z. IsEarlier (place y) (place z)) x xs behind rest.in_order;
        each = All-cons (λ y. Listed y × ¬ IsEarlier (place y) from) x xs (told.0.listed, told.0.from_there)
            (λ k d within. (
              (rest.each k d within).0,
              λ earlier. told.0.from_there (IsEarlier-transitive (place x) (place (get_or xs k d)) from (behind k d within) earlier),
            ));
        every = λ y listed later. elim (one_or_other (place y) (place x) (alike_places y x)) [
          | inl before ↦ absurd (later (told.0.first y listed before))
          | inr (inl same) ↦ subst (λ (z : X). Contains (x ∷ xs) z) (sym (one y x listed told.0.listed same)) (Contains-get_or (x ∷ xs) 0 x (let n = length xs in omega arith))
          | inr (inr after) ↦ Contains-append_right (x ∷ []) xs y (rest.every y listed (λ before. not_behind_it x y before after))
        ];
      }

-- a byte lock is the one at its place
one_run : (modes : Modes) (m k : Mode) (s t : Span) → IsRun modes s.first m s → IsRun modes t.first k t → s.first ≡ t.first → (m ≡ k) × (s.last ≡ t.last)
one_run modes m k s t one other same = grind (arith, common_steps)

lock_of : ℕ → Mode → ℕ → ℕ → Lock
lock_of owner mode first last = record { owner = owner; mode = mode; span = record { first = first; last = last } }

one_lock : (F : FileState) (x y : Lock) → IsByteLock F x → IsByteLock F y → lock_place x ≡ lock_place y → x ≡ y
unfolding lock_of
one_lock F x y one other same =
    let owner : x.owner ≡ y.owner = cc in
    let first : x.span.first ≡ y.span.first = cc in
    let run = one_run (F.bytes x.owner) x.mode y.mode x.span y.span one
    (subst (λ (o : ℕ). IsRun (F.bytes o) y.span.first y.mode y.span) (sym owner) other) first in
    let mode = run.0 in
    let last = run.1 in
    let e : lock_of x.owner x.mode x.span.first x.span.last ≡ lock_of y.owner y.mode y.span.first y.span.last = cc in e

flock_of : ℕ → Mode → FlockLock
flock_of owner mode = record { owner = owner; mode = mode }

one_flock : (F : FileState) (x y : FlockLock) → IsFlockLock F x → IsFlockLock F y → flock_place x ≡ flock_place y → x ≡ y
unfolding flock_of
one_flock F x y one other same =
    let owner : x.owner ≡ y.owner = cc in
    let there : F.flocks x.owner ≡ Some y.mode = ap F.flocks owner ∙ other in
    let mode : x.mode ≡ y.mode = cc in
    let e : flock_of x.owner x.mode ≡ flock_of y.owner y.mode = cc in e

owner_wait_of : ℕ → ℕ → ℕ → OwnerWait
owner_wait_of owner file ticket = record { owner = owner; file = file; ticket = ticket }

one_owner_wait : (x y : OwnerWait) → wait_place x ≡ wait_place y → x ≡ y
unfolding owner_wait_of
one_owner_wait x y same =
    let owner : x.owner ≡ y.owner = cc in
    let file : x.file ≡ y.file = cc in
    let ticket : x.ticket ≡ y.ticket = cc in
    let e : owner_wait_of x.owner x.file x.ticket ≡ owner_wait_of y.owner y.file y.ticket = cc in e

pub told_all_there_are : ListingsTellAll
told_all_there_are = record {
  files = λ S from told are.
      told_all file_place (λ file. file) (λ file. []) (λ file. refl) (λ x y. refl) (IsInUse S) (λ x y one other same. (let e : x ≡ y = cc in e)) (from ∷ []) told are;
  locks = λ S file owner first told are.
      told_all lock_place (λ lock. lock.owner) (λ lock. lock.span.first ∷ []) (λ lock. refl) (λ x y. refl) (IsByteLock (S.files file)) (one_lock (S.files file))
      (owner ∷ first ∷ []) told are;
  flocks = λ S file from told are.
      told_all flock_place (λ lock. lock.owner) (λ lock. []) (λ lock. refl) (λ x y. refl) (IsFlockLock (S.files file)) (one_flock (S.files file)) (from ∷ []) told are;
  waits = λ S last from told are.
      told_all wait_place (λ wait. wait.owner) (λ wait. wait.file ∷ wait.ticket ∷ []) (λ wait. refl) (λ x y. refl) (IsWaitUpTo S last)
      (λ x y one other same. one_owner_wait x y same) (wait_place from) told are;
}
