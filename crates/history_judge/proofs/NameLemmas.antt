-- On which file the open request of an ID is.
use Rattle.history_judge.proofs.Common.{inl, inr, ℕ, ◌≡◌, ◌≢◌, ◌∙◌, ◌==◌, sym, ap, refl, subst, arith, true, false, Bool, Option, Some, None, List, [], ◌∷◌, ◌++◌, map, eq-eqb, common_steps, cases_Bool, false≢true, if◌then◌else◌, list_any, Request, Answer, World, requests_of, Answered, Sent, Sending, is_on, open_behind}
use Rattle.std.proofs.lemmas.Bool.{eqb-true}
use Rattle.std.specs.Prelude.{◌⊎◌, find, filter, not}
use Rattle.history_core.specs.Moments.{IsFree, IsOpen, Open, is_named}
use Rattle.history_core.proofs.ListLemmas.{find_none}

-- two numbers are the same, or not
pub decide : (m n : ℕ) → (m ≡ n) ⊎ (m ≢ n)
decide m n = elim (cases_Bool (m == n)) [
  | inl is ↦ inl (eqb-true _ _ is)
  | inr not ↦ inr (λ same. false≢true (sym not ∙ eq-eqb m n same))
]

-- where they aren't, the test fails
pub neq-eqb : (m n : ℕ) → m ≢ n → (m == n) ≡ false
neq-eqb m n differ = elim (cases_Bool (m == n)) [ inl is ↦ absurd (differ (eqb-true _ _ is)) | inr not ↦ not ]

-- whether an open request has the ID
abbrev pub has_id : World → ℕ → Bool
has_id world id = list_any (λ r. r.id == id) (requests_of world)

-- the open requests are those of the world on each file
abbrev pub Named : (ℕ → Option Sending) → (ℕ → World) → Type 0
Named opens worlds = (file : ℕ) (id : ℕ) → has_id (worlds file) id ≡ is_on (opens id) file

none_named : (id : ℕ) (xs : List Open) → find (is_named id) xs ≡ None → list_any (λ r. r.id == id) (map (λ o. o.request) xs) ≡ false
none_named id [] e = refl
none_named id (x ∷ xs) e = elim (cases_Bool (is_named id x)) [
  | inl holds ↦ absurd (grind (arith, common_steps, holds, e))
  | inr fails ↦ grind (arith, common_steps, fails, e, none_named id xs)
]

some_named : (id : ℕ) (xs : List Open) (one : Open) → find (is_named id) xs ≡ Some one → list_any (λ r. r.id == id) (map (λ o. o.request) xs) ≡ true
some_named id [] one e = absurd (grind (arith, common_steps, e))
some_named id (x ∷ xs) one e = elim (cases_Bool (is_named id x)) [
  | inl holds ↦ grind (arith, common_steps, holds)
  | inr fails ↦ grind (arith, common_steps, fails, e, some_named id xs one)
]

pub free_has : (w : World) (id : ℕ) → IsFree w id → has_id w id ≡ false
free_has w id free = none_named id w.unanswered free

pub open_has : (w : World) (id : ℕ) (one : Open) → IsOpen w id one → has_id w id ≡ true
open_has w id one is_open = some_named id w.unanswered one is_open

pub has_free : (w : World) (id : ℕ) → has_id w id ≡ false → IsFree w id
has_free w id none = find_none (λ one. one.request) (λ r. r.id == id) w.unanswered none

any_last : {X : Type 0} (q : X → Bool) (xs : List X) (x : X) → q x ≡ true → list_any q (xs ++ x ∷ []) ≡ true
any_last q [] x holds = grind (arith, common_steps, holds)
any_last q (y ∷ ys) x holds = elim (cases_Bool (q y)) [
  | inl is ↦ grind (arith, common_steps, is)
  | inr not ↦ grind (arith, common_steps, not, any_last q ys x holds)
]

any_but_last : {X : Type 0} (q : X → Bool) (xs : List X) (x : X) → q x ≡ false → list_any q (xs ++ x ∷ []) ≡ list_any q xs
any_but_last q [] x fails = grind (arith, common_steps, fails)
any_but_last q (y ∷ ys) x fails = elim (cases_Bool (q y)) [
  | inl is ↦ grind (arith, common_steps, is)
  | inr not ↦ grind (arith, common_steps, not, any_but_last q ys x fails)
]

-- what is left out isn't there, and all others are
any_out : (id : ℕ) (rs : List Request) → list_any (λ r. r.id == id) (filter (λ r. not (r.id == id)) rs) ≡ false
any_out id [] = refl
any_out id (r ∷ rs) = elim (cases_Bool (r.id == id)) [
  | inl is ↦ grind (arith, common_steps, is, any_out id rs)
  | inr fails ↦ grind (arith, common_steps, fails, any_out id rs)
]

any_other : (id other : ℕ) → other ≢ id → (rs : List Request) → list_any (λ r. r.id == other) (filter (λ r. not (r.id == id)) rs) ≡ list_any (λ r. r.id == other) rs
any_other id other differ [] = refl
any_other id other differ (r ∷ rs) = elim (cases_Bool (r.id == id)) [
  | inl is ↦
      let miss : (r.id == other) ≡ false = neq-eqb r.id other (λ same. differ (sym same ∙ eqb-true _ _ is)) in
      grind (arith, common_steps, is, miss, any_other id other differ rs)
  | inr fails ↦ elim (cases_Bool (r.id == other)) [
    | inl hit ↦ grind (arith, common_steps, fails, hit)
    | inr miss ↦ grind (arith, common_steps, fails, miss, any_other id other differ rs)
  ]
]

-- a request is on one file alone
pub one_file : (sending : Option Sending) (f g : ℕ) → is_on sending f ≡ true → g ≢ f → is_on sending g ≡ false
one_file None f g there off = refl
one_file (Some sending) f g there off = neq-eqb sending.file g (λ same. off (sym same ∙ eqb-true _ _ there))

-- where the open requests of each file stay, so do their names
pub named_same : (opens : ℕ → Option Sending) (worlds next : ℕ → World) → Named opens worlds → ((g : ℕ) → requests_of (next g) ≡ requests_of (worlds g))
    → Named opens next
named_same opens worlds next named same g id = ap (list_any (λ r. r.id == id)) (same g) ∙ named g id

-- a request is sent on a file, by an ID that none has
pub named_sent : (opens : ℕ → Option Sending) (worlds next : ℕ → World) (f : ℕ) (sent : Request) → Named opens worlds
    → ((g : ℕ) → has_id (worlds g) sent.id ≡ false) → requests_of (next f) ≡ requests_of (worlds f) ++ sent ∷ []
    → ((g : ℕ) → g ≢ f → next g ≡ worlds g) → Named (open_behind opens (Sent f sent)) next
named_sent opens worlds next f sent named none requests others g id = elim (decide id sent.id) [
  | inl same ↦
      let told : is_on (open_behind opens (Sent f sent) id) g ≡ (f == g) =
      ap (λ b. is_on (if b then Some (record { file = f; request = sent }) else opens id) g) (eq-eqb id sent.id same) in
      elim (decide g f) [
        | inl here ↦
            subst (λ x. has_id (next x) id ≡ true) (sym here)
            (ap (list_any (λ r. r.id == id)) requests ∙ any_last (λ r. r.id == id) (requests_of (worlds f)) sent (eq-eqb sent.id id (sym same)))
            ∙ sym (told ∙ eq-eqb f g (sym here))
        | inr off ↦
            ap (λ w. has_id w id) (others g off) ∙ subst (λ i. has_id (worlds g) i ≡ false) (sym same) (none g)
            ∙ sym (told ∙ neq-eqb f g (λ e. off (sym e)))
      ]
  | inr differ ↦
      let told : is_on (open_behind opens (Sent f sent) id) g ≡ is_on (opens id) g =
      ap (λ b. is_on (if b then Some (record { file = f; request = sent }) else opens id) g) (neq-eqb id sent.id differ) in
      let kept : has_id (next g) id ≡ has_id (worlds g) id = elim (decide g f) [
        | inl here ↦ subst (λ x. has_id (next x) id ≡ has_id (worlds x) id) (sym here)
            (ap (list_any (λ r. r.id == id)) requests
            ∙ any_but_last (λ r. r.id == id) (requests_of (worlds f)) sent (neq-eqb sent.id id (λ e. differ (sym e))))
        | inr off ↦ ap (λ w. has_id w id) (others g off)
      ] in
      kept ∙ named g id ∙ sym told
]

-- the request of an ID that is open on a file is answered
pub named_answered : (opens : ℕ → Option Sending) (worlds next : ℕ → World) (f answered : ℕ) (answer : Answer) → Named opens worlds
    → is_on (opens answered) f ≡ true → requests_of (next f) ≡ filter (λ r. not (r.id == answered)) (requests_of (worlds f))
    → ((g : ℕ) → g ≢ f → next g ≡ worlds g) → Named (open_behind opens (Answered answered answer)) next
named_answered opens worlds next f answered answer named there requests others g id = elim (decide id answered) [
  | inl same ↦
      let told : is_on (open_behind opens (Answered answered answer) id) g ≡ false =
      ap (λ b. is_on (if b then None else opens id) g) (eq-eqb id answered same) in
      elim (decide g f) [
        | inl here ↦
            subst (λ x. has_id (next x) id ≡ false) (sym here)
            (subst (λ i. has_id (next f) i ≡ false) (sym same) (ap (list_any (λ r. r.id == answered)) requests ∙ any_out answered (requests_of (worlds f))))
            ∙ sym told
        | inr off ↦
            ap (λ w. has_id w id) (others g off) ∙ subst (λ i. has_id (worlds g) i ≡ false) (sym same) (named g answered ∙ one_file (opens answered) f g there off)
            ∙ sym told
      ]
  | inr differ ↦
      let told : is_on (open_behind opens (Answered answered answer) id) g ≡ is_on (opens id) g =
      ap (λ b. is_on (if b then None else opens id) g) (neq-eqb id answered differ) in
      let kept : has_id (next g) id ≡ has_id (worlds g) id = elim (decide g f) [
        | inl here ↦ subst (λ x. has_id (next x) id ≡ has_id (worlds x) id) (sym here)
            (ap (list_any (λ r. r.id == id)) requests ∙ any_other answered id differ (requests_of (worlds f)))
        | inr off ↦ ap (λ w. has_id w id) (others g off)
      ] in
      kept ∙ named g id ∙ sym told
]

-- what is on no file isn't there
pub on_none : (sending : Option Sending) → ((g : ℕ) → is_on sending g ≡ false) → sending ≡ None
on_none None none = refl
on_none (Some sending) none = absurd (false≢true (sym (none sending.file) ∙ eq-eqb sending.file sending.file refl))
