-- What is open in a world behind a line and behind an effect.
use Rattle.history_of_server.proofs.Common.{inl, inr, ℕ, ◌≡◌, ◌≢◌, ◌∙◌, ◌==◌, sym, ap, refl, arith, true, false, Bool, Option, Some, None, List, [], ◌∷◌, ◌++◌, map, eq-eqb, eqb-true, false≢true, ne_eqb, ◌⊎◌, ◌&&◌, filter, not, option_map, if◌then◌else◌, Request, Effect, IsFree, IsOpen, Open, World, behind_effect, closed, is_death, opened, with_open}
use Rattle.std.proofs.lemmas.Grind.{common_steps}
use Rattle.std.proofs.lemmas.Bool.{cases_Bool}
use Rattle.std.specs.Prelude.{find}
use Rattle.history_core.specs.Moments.{ended, ends, is_named, with_effect}

-- the open request of the ID
abbrev pub look : World → ℕ → Option Open
look w id = find (is_named id) w.unanswered

find_last : (id : ℕ) (xs : List Open) (one : Open) → find (is_named id) xs ≡ None → is_named id one ≡ true → find (is_named id) (xs ++ one ∷ []) ≡ Some one
find_last id [] one none is = grind (arith, common_steps, is)
find_last id (x ∷ xs) one none is = elim (cases_Bool (is_named id x)) [
  | inl hit ↦ absurd (grind (arith, common_steps, hit, none))
  | inr miss ↦ grind (arith, common_steps, miss, none, find_last id xs one)
]

find_before : (id : ℕ) (xs : List Open) (one : Open) → is_named id one ≡ false → find (is_named id) (xs ++ one ∷ []) ≡ find (is_named id) xs
find_before id [] one not = grind (arith, common_steps, not)
find_before id (x ∷ xs) one not = elim (cases_Bool (is_named id x)) [
  | inl hit ↦ grind (arith, common_steps, hit)
  | inr miss ↦ grind (arith, common_steps, miss, find_before id xs one not)
]

-- a request that was sent is open
pub sent_here : (w : World) (request : Request) → IsFree w request.id → look (with_open request w) request.id ≡ Some (opened request)
sent_here w request free = find_last request.id w.unanswered (opened request) free (eq-eqb request.id request.id refl)

-- and no other becomes so
pub sent_other : (w : World) (request : Request) (id : ℕ) → id ≢ request.id → look (with_open request w) id ≡ look w id
sent_other w request id differs = find_before id w.unanswered (opened request) (ne_eqb request.id id (λ same. differs (sym same)))

find_mapped : (id : ℕ) (h : Open → Open) → ((x : Open) → is_named id (h x) ≡ is_named id x) → (xs : List Open)
    → find (is_named id) (map h xs) ≡ option_map h (find (is_named id) xs)
find_mapped id h keeps [] = refl
find_mapped id h keeps (x ∷ xs) = elim (cases_Bool (is_named id x)) [
  | inl hit ↦ grind (arith, common_steps, hit, keeps x)
  | inr miss ↦ grind (arith, common_steps, miss, keeps x, find_mapped id h keeps xs)
]

-- what an effect makes of an open request
abbrev pub behind : Request → Effect → Open → Open
behind request effect one = with_effect request.id effect (ended request one)

ended_request : (death : Request) (one : Open) → (ended death one).request ≡ one.request
ended_request death one = at (ends death one.request)
  where
    at : (b : Bool) → (if b then record one { is_ended = true } else one).request ≡ one.request
    at true = refl
    at false = refl

effect_request : (id : ℕ) (effect : Effect) (one : Open) → (with_effect id effect one).request ≡ one.request
effect_request id effect one = at (is_named id one)
  where
    at : (b : Bool) → (if b then record one { effect = effect } else one).request ≡ one.request
    at true = refl
    at false = refl

pub behind_request : (request : Request) (effect : Effect) (one : Open) → (behind request effect one).request ≡ one.request
behind_request request effect one = effect_request request.id effect (ended request one) ∙ ended_request request one

-- just the open requests stay open behind an effect
pub effect_look : (w : World) (request : Request) (effect : Effect) (id : ℕ) → look (behind_effect w request effect) id ≡ option_map (behind request effect) (look w id)
effect_look w request effect id =
    find_mapped id (behind request effect) (λ one. ap (λ (r : Request). r.id == id) (behind_request request effect one)) w.unanswered

-- a request that isn't its own, and that it doesn't end, stays as it is
pub behind_other : (request : Request) (effect : Effect) (one : Open) → one.request.id ≢ request.id → ends request one.request ≡ false → behind request effect one ≡ one
behind_other request effect one differs lives =
    ap (with_effect request.id effect) stays ∙ ap (λ (b : Bool). if b then record one { effect = effect } else one) (ne_eqb one.request.id request.id differs)
  where
    stays : ended request one ≡ one
    stays = ap (λ (b : Bool). if b then record one { is_ended = true } else one) lives

-- its own has had the effect
pub behind_own : (request : Request) (effect : Effect) (one : Open) → one.request.id ≡ request.id → (behind request effect one).effect ≡ effect
behind_own request effect one same = at (is_named request.id (ended request one)) (eq-eqb _ _ (ap (λ (r : Request). r.id) (ended_request request one) ∙ same))
  where
    at : (b : Bool) → b ≡ true → (if b then record (ended request one) { effect = effect } else ended request one).effect ≡ effect
    at true is = refl
    at false is = absurd (false≢true is)

-- and others have had what they had
pub behind_effect_kept : (request : Request) (effect : Effect) (one : Open) → one.request.id ≢ request.id → (behind request effect one).effect ≡ one.effect
behind_effect_kept request effect one differs =
    at (is_named request.id (ended request one)) (ne_eqb _ _ (λ same. differs (sym (ap (λ (r : Request). r.id) (ended_request request one)) ∙ same)))
    ∙ of_ended (ends request one.request)
  where
    at : (b : Bool) → b ≡ false → (if b then record (ended request one) { effect = effect } else ended request one).effect ≡ (ended request one).effect
    at true is = absurd (false≢true (sym is))
    at false is = refl

    of_ended : (b : Bool) → (if b then record one { is_ended = true } else one).effect ≡ one.effect
    of_ended true = refl
    of_ended false = refl

-- a request that is no death ends none
pub ends_none : (request other : Request) → is_death request.action ≡ false → ends request other ≡ false
ends_none request other lives = ap (λ (b : Bool). b && ((other.owner == request.owner) && not (is_death other.action))) lives

-- the request of the ID is answered
pub closed_here : (w : World) (id : ℕ) → look (closed id w) id ≡ None
closed_here w id = at w.unanswered
  where
    at : (xs : List Open) → find (is_named id) (filter (λ one. not (is_named id one)) xs) ≡ None
    at [] = refl
    at (x ∷ xs) = elim (cases_Bool (is_named id x)) [
      | inl hit ↦ grind (arith, common_steps, hit, at xs)
      | inr miss ↦ grind (arith, common_steps, miss, at xs)
    ]

-- and no other
pub closed_other : (w : World) (id other : ℕ) → other ≢ id → look (closed id w) other ≡ look w other
closed_other w id other differs = at w.unanswered
  where
    at : (xs : List Open) → find (is_named other) (filter (λ one. not (is_named id one)) xs) ≡ find (is_named other) xs
    at [] = refl
    at (x ∷ xs) = elim (cases_Bool (is_named id x)) [
      | inl hit ↦
          let miss : is_named other x ≡ false = ne_eqb x.request.id other (λ same. differs (sym same ∙ eqb-true _ _ hit)) in
          grind (arith, common_steps, hit, miss, at xs)
      | inr miss ↦ elim (cases_Bool (is_named other x)) [
        | inl found ↦ grind (arith, common_steps, miss, found)
        | inr not ↦ grind (arith, common_steps, miss, not, at xs)
      ]
    ]

-- an open request has its ID
pub open_named : (w : World) (id : ℕ) (one : Open) → IsOpen w id one → one.request.id ≡ id
open_named w id one = at w.unanswered
  where
    at : (xs : List Open) → find (is_named id) xs ≡ Some one → one.request.id ≡ id
    at [] found = absurd (grind (arith, common_steps, found))
    at (x ∷ xs) found = elim (cases_Bool (is_named id x)) [
      | inl hit ↦ let same : x ≡ one = grind (arith, common_steps, hit, found) in ap (λ (o : Open). o.request.id) (sym same) ∙ eqb-true _ _ hit
      | inr miss ↦ at xs (grind (arith, common_steps, miss, found))
    ]

-- and it is one
pub one_open : (w : World) (id : ℕ) (one other : Open) → IsOpen w id one → IsOpen w id other → one ≡ other
one_open w id one other found again = some_same one other (sym found ∙ again)
  where
    some_same : (a b : Open) → Some a ≡ Some b → a ≡ b
    some_same a b e = grind (arith, common_steps, e)

-- an ID is free or open
pub free_or_open : (w : World) (id : ℕ) → IsFree w id ⊎ ((one : Open) × IsOpen w id one)
free_or_open w id = at (look w id) refl
  where
    at : (found : Option Open) → look w id ≡ found → IsFree w id ⊎ ((one : Open) × IsOpen w id one)
    at None is = inl is
    at (Some one) is = inr (one, is)

pub open_not_free : (w : World) (id : ℕ) (one : Open) → IsOpen w id one → IsFree w id → ⊥
open_not_free w id one found free = absurd (let bad : Some one ≡ None = sym found ∙ free in cc)
