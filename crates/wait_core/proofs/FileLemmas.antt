-- The waits that are on a file, and one turn of a loop over them: for `Pairs::tell_all`, `Waits::on`, `Waits::refresh_owner` and others.
use Rattle.wait_core.proofs.Common.{ℕ, ◌≡◌, ◌≢◌, ◌+◌, ◌<◌, ◌≤◌, ◌↔◌, ◌∙◌, ◌⊎◌, inl, inr, refl, sym, ap, subst, arith, Bool, true, false, not, Option, None, Some, List, [], ◌∷◌, ◌++◌, All, Any, length, get_or, ◌==◌, if◌then◌else◌, IsTrue, filter, deref, cases_Bool, cases_eq, nat_tests, get_or_default, get_or_from_slice_get, All-nil, All-cons, All-head, All-tail, All-weaker, Span, Bytes, Wait, Meet, WaitsConflict, IsConflictOf, IsOn, first_process, AreQueues, links_in, waits_on, IsWellFormed}
use Rattle.std.proofs.Common.{Bor, length-append}
use Rattle.std.specs.Iterator.{Yields}
use Rattle.std.specs.Bool.{MatchBool}
use Rattle.std.specs.List.{AllWithin, HoldsAt}
use Rattle.std.specs.Map.Iter.{TakesFirst}
use Rattle.std.proofs.lemmas.Map.Iter.{iter_turn}
use Rattle.wait_core.specs.declared.queues.Queues.{Queues}
use Rattle.wait_core.specs.Links.{Lead}
use Rattle.wait_core.specs.Queues.{waits_onto, with_wait, without_wait}
use Rattle.wait_core.proofs.AnyLemmas.{Any-cons, Any-here, Any-nil, Any-there, Any-weaker}

-- in a turn of a loop over the waits this one is next, behind those so far
pub record IsTurn (waits : List Wait) (so_far : List (Bor Wait)) (next : Bor Wait) : Type 0 where
  pub within : length so_far < length waits
  pub item : get_or waits (length so_far) next.now ≡ next.now
  pub more : length (so_far ++ next ∷ []) ≡ length so_far + 1

pub turn : (waits : List Wait) (so_far : List (Bor Wait)) (s t u : List Wait) (r : Option (Bor Wait)) (next : Bor Wait) → s ≡ waits
    → Yields (TakesFirst deref) s so_far t → r ≡ Some next → TakesFirst deref t r u → IsTurn waits so_far next
turn waits so_far s t u r next start yields is step =
    let (within, there) = iter_turn deref waits so_far s t u r start yields next is step in record {
      within = within;
      item = get_or_from_slice_get waits (length so_far) next.now next.now there;
      more = length-append so_far (next ∷ []);
    }

-- whether a test that decides P has found one
pub any_from_cases : (P : Wait → Type 0) (waits : List Wait) (r : Bool)
    → MatchBool r ((k : ℕ) × (k < length waits) × HoldsAt P waits k) (AllWithin (λ w. ¬ P w) waits 0 (length waits)) → IsTrue r ↔ Any P waits
any_from_cases P [] true (k, within, holds) = absurd (omega (arith, within))
any_from_cases P (v ∷ waits) true (k, within, holds) = (
  λ yes. (k, get_or (v ∷ waits) k v, within, get_or_default (v ∷ waits) k (get_or (v ∷ waits) k v) v within, holds v),
  λ any. refl,
)
any_from_cases P waits false none = (
  λ yes. absurd (let no : false ≡ true = yes in cc),
  λ (k, w, within, is, holds). absurd (none k w (omega arith) within (subst P (sym is) holds)),
)

on : (wait : Wait) (file : ℕ) → wait.file ≡ file → (wait.file == file) ≡ true
on wait file here = grind (arith, nat_tests)

off : (wait : Wait) (file : ℕ) → wait.file ≢ file → (wait.file == file) ≡ false
off wait file other = grind (arith, nat_tests)

-- a wait more
pub joined_onto : (file : ℕ) (earlier waits : List Wait) (wait : Wait)
    → waits_onto file earlier (waits ++ wait ∷ []) ≡ (if wait.file == file then wait ∷ waits_onto file earlier waits else waits_onto file earlier waits)
joined_onto file earlier [] wait = elim (cases_Bool (wait.file == file)) [ inl here ↦ rw here refl | inr other ↦ rw other refl ]
joined_onto file earlier (v ∷ waits) wait = joined_onto file (if v.file == file then v ∷ earlier else earlier) waits wait

-- the waits of a process fewer
pub left_onto : (file p : ℕ) (earlier waits : List Wait)
    → waits_onto file (filter (λ w. not (w.p == p)) earlier) (filter (λ w. not (w.p == p)) waits) ≡ filter (λ w. not (w.p == p)) (waits_onto file earlier waits)
left_onto file p earlier [] = refl
left_onto file p earlier (w ∷ waits) = elim (cases_Bool (w.p == p)) [
  | inl its ↦ elim (cases_Bool (w.file == file)) [
    | inl here ↦ rw its (rw here (let e = left_onto file p (w ∷ earlier) waits in rw its at e))
    | inr other ↦ rw its (rw other (left_onto file p earlier waits))
  ]
  | inr others ↦ elim (cases_Bool (w.file == file)) [
    | inl here ↦ rw others (rw here (let e = left_onto file p (w ∷ earlier) waits in rw others at e))
    | inr other ↦ rw others (rw other (left_onto file p earlier waits))
  ]
]

pub length_onto : (file : ℕ) (earlier waits : List Wait) → length (waits_onto file earlier waits) ≤ length earlier + length waits
length_onto file earlier [] = omega arith
length_onto file earlier (w ∷ waits) = elim (cases_Bool (w.file == file)) [
  | inl here ↦ rw here (let e = length_onto file (w ∷ earlier) waits in omega (arith, e))
  | inr other ↦ rw other (let e = length_onto file earlier waits in omega (arith, e))
]

module _ (P : Wait → Type 0) (file : ℕ) where
  all_onto : (earlier waits : List Wait) → All P earlier → All P waits → All P (waits_onto file earlier waits)
  all_onto earlier [] so_far all = so_far
  all_onto earlier (w ∷ waits) so_far all = elim (cases_Bool (w.file == file)) [
    | inl here ↦ rw here (all_onto (w ∷ earlier) waits (All-cons P w earlier (All-head P w waits all) so_far) (All-tail P w waits all))
    | inr other ↦ rw other (all_onto earlier waits so_far (All-tail P w waits all))
  ]

  -- what holds of all waits holds of those on the file
  pub all_on : (waits : List Wait) → All P waits → All P (waits_on waits file)
  all_on waits all = all_onto [] waits (All-nil P) all

  from_onto : ((w : Wait) → w.file ≢ file → P w) → (earlier waits : List Wait) → All P (waits_onto file earlier waits) → All P earlier × All P waits
  from_onto others earlier [] all = (all, All-nil P)
  from_onto others earlier (w ∷ waits) all = elim (cases_eq w.file file) [
    | inl here ↦
        let (so_far, rest) = from_onto others (w ∷ earlier) waits (rw (on w file here) at all) in
        (All-tail P w earlier so_far, All-cons P w waits (All-head P w earlier so_far) rest)
    | inr other ↦
        let (so_far, rest) = from_onto others earlier waits (rw (off w file other) at all) in
        (so_far, All-cons P w waits (others w other) rest)
  ]

  -- and the way back, of what holds on all other files
  pub all_from : ((w : Wait) → w.file ≢ file → P w) → (waits : List Wait) → All P (waits_on waits file) → All P waits
  all_from others waits all = (from_onto others [] waits all).1

  any_onto : ((w : Wait) → P w → w.file ≡ file) → (earlier waits : List Wait) → Any P earlier ⊎ Any P waits → Any P (waits_onto file earlier waits)
  any_onto on_file earlier [] (inl so_far) = so_far
  any_onto on_file earlier [] (inr none) = absurd (Any-nil P none)
  any_onto on_file earlier (w ∷ waits) any = elim (cases_eq w.file file) [
    | inl here ↦ rw (on w file here) (any_onto on_file (w ∷ earlier) waits (elim any [
      | inl so_far ↦ inl (Any-there P w earlier so_far)
      | inr rest ↦ elim (Any-cons P w waits rest) [ inl itself ↦ inl (Any-here P w earlier itself) | inr later ↦ inr later ]
    ]))
    | inr other ↦ rw (off w file other) (any_onto on_file earlier waits (elim any [
      | inl so_far ↦ inl so_far
      | inr rest ↦ elim (Any-cons P w waits rest) [ inl itself ↦ absurd (other (on_file w itself)) | inr later ↦ inr later ]
    ]))
  ]

  -- what holds of some wait, and of none on another file, holds of one on the file
  pub any_on : ((w : Wait) → P w → w.file ≡ file) → (waits : List Wait) → Any P waits → Any P (waits_on waits file)
  any_on on_file waits any = any_onto on_file [] waits (inr any)

  any_out : (earlier waits : List Wait) → Any P (waits_onto file earlier waits) → Any P earlier ⊎ Any P waits
  any_out earlier [] any = inl any
  any_out earlier (w ∷ waits) any = elim (cases_Bool (w.file == file)) [
    | inl here ↦ elim (any_out (w ∷ earlier) waits (rw here at any)) [
      | inl so_far ↦ elim (Any-cons P w earlier so_far) [ inl itself ↦ inr (Any-here P w waits itself) | inr before ↦ inl before ]
      | inr rest ↦ inr (Any-there P w waits rest)
    ]
    | inr other ↦ elim (any_out earlier waits (rw other at any)) [ inl so_far ↦ inl so_far | inr rest ↦ inr (Any-there P w waits rest) ]
  ]

  -- and the way back
  pub any_from : (waits : List Wait) → Any P (waits_on waits file) → Any P waits
  any_from waits any = elim (any_out [] waits any) [ inl none ↦ absurd (Any-nil P none) | inr found ↦ found ]

pub length_on : (waits : List Wait) (file : ℕ) → length waits ≤ 64 → length (waits_on waits file) ≤ 64
length_on waits file short = let fits = length_onto file [] waits in omega (arith, fits, short)

on_file_onto : (file : ℕ) (earlier waits : List Wait) → All (λ w. w.file ≡ file) earlier → All (λ w. w.file ≡ file) (waits_onto file earlier waits)
on_file_onto file earlier [] so_far = so_far
on_file_onto file earlier (w ∷ waits) so_far = elim (cases_eq w.file file) [
  | inl here ↦ rw (on w file here) (on_file_onto file (w ∷ earlier) waits (All-cons (λ v. v.file ≡ file) w earlier here so_far))
  | inr other ↦ rw (off w file other) (on_file_onto file earlier waits so_far)
]

-- they are on the file
pub on_file_on : (waits : List Wait) (file : ℕ) → All (λ w. w.file ≡ file) (waits_on waits file)
on_file_on waits file = on_file_onto file [] waits (All-nil (λ w. w.file ≡ file))

-- the waits on a file can be asked for
pub well_formed_on : (processes : ℕ) (waits : List Wait) (file : ℕ) → processes ≤ 64 → All (IsWellFormed processes) waits
    → All (IsWellFormed 64) (waits_on waits file)
well_formed_on processes waits file few each = all_on (IsWellFormed 64) file waits
    (All-weaker (IsWellFormed processes) (IsWellFormed 64) (λ w is. record {
      from_one = is.from_one;
      process = (let within = is.process in omega arith);
      file = is.file;
      range = is.range;
      owner = is.owner;
    }) waits each)

-- each wait on a file that meets a range is on it
pub meets_on : (waits : List Wait) (file : ℕ) (span : Span) → Any (λ v. Meet Bytes v.span span) (waits_on waits file) ↔ Any (IsOn file span) waits
meets_on waits file span = (
  λ any.
      let (k, w, within, is, meets) = any in
      let here : w.file ≡ file = subst (λ (v : Wait). v.file ≡ file) is (on_file_on waits file k w within) in
      any_from (IsOn file span) file waits (k, w, within, is, (here, meets)),
  λ any. Any-weaker (IsOn file span) (λ v. Meet Bytes v.span span) (λ v is. is.1) (waits_on waits file) (any_on (IsOn file span) file (λ v is. is.0) waits any),
)

-- who conflicts with a wait is on its file
pub conflicts_on : (waits : List Wait) (wait : Wait) → Any (λ v. WaitsConflict v wait) (waits_on waits wait.file) ↔ Any (λ v. WaitsConflict v wait) waits
conflicts_on waits wait =
    (any_from (λ v. WaitsConflict v wait) wait.file waits, any_on (λ v. WaitsConflict v wait) wait.file (λ v conflict. conflict.file) waits)

pub conflicts_of_on : (waits : List Wait) (q : ℕ) (wait : Wait) → Any (IsConflictOf q wait) (waits_on waits wait.file) ↔ Any (IsConflictOf q wait) waits
conflicts_of_on waits q wait =
    (any_from (IsConflictOf q wait) wait.file waits, any_on (IsConflictOf q wait) wait.file (λ v conflict. conflict.2.file) waits)

-- the queues have the same waits
pub same_queues : (queues : Queues) (old new : ℕ → List Wait) → ((file : ℕ) → old file ≡ new file) → AreQueues queues old → AreQueues queues new
same_queues queues old new same are = record {
  latest = λ file. are.latest file ∙ ap first_process (same file);
  lead = λ file. subst (λ (ws : List Wait). Lead (links_in queues) file None ws) (same file) (are.lead file);
}

-- the waits that are left are no more
pub fewer_left : (p : ℕ) (waits : List Wait) → length (filter (λ w. not (w.p == p)) waits) ≤ length waits
fewer_left p [] = omega arith
fewer_left p (w ∷ waits) =
    let fewer = fewer_left p waits in
    elim (cases_Bool (w.p == p)) [ inl its ↦ rw its (omega (arith, fewer)) | inr others ↦ rw others (omega (arith, fewer)) ]

-- where neither an earlier wait nor the last one is the process'
pub none_before : (waits : List Wait) (wait : Wait) (p : ℕ) → All (λ v. v.p ≢ p) (waits ++ wait ∷ []) → All (λ v. v.p ≢ p) waits × (wait.p ≢ p)
none_before [] wait p none = (All-nil (λ v. v.p ≢ p), All-head (λ v. v.p ≢ p) wait [] none)
none_before (w ∷ waits) wait p none =
    let (rest, last) = none_before waits wait p (All-tail (λ v. v.p ≢ p) w (waits ++ wait ∷ []) none) in
    (All-cons (λ v. v.p ≢ p) w waits (All-head (λ v. v.p ≢ p) w (waits ++ wait ∷ []) none) rest, last)

-- a process that has none of the waits that are left had none, if it isn't the one whose wait left
pub none_left : (waits : List Wait) (p q : ℕ) → q ≢ p → All (λ v. v.p ≢ q) (filter (λ w. not (w.p == p)) waits) → All (λ v. v.p ≢ q) waits
none_left [] p q other none = All-nil (λ v. v.p ≢ q)
none_left (w ∷ waits) p q other none = elim (cases_eq w.p p) [
  | inl its ↦
      let gone : (w.p == p) ≡ true = grind (arith, nat_tests) in
      All-cons (λ v. v.p ≢ q) w waits (λ same. other (sym same ∙ its)) (none_left waits p q other (rw gone at none))
  | inr others ↦
      let stays : (w.p == p) ≡ false = grind (arith, nat_tests) in
      let rest : All (λ v. v.p ≢ q) (w ∷ filter (λ v. not (v.p == p)) waits) = rw stays at none in
      All-cons (λ v. v.p ≢ q) w waits (All-head (λ v. v.p ≢ q) w (filter (λ v. not (v.p == p)) waits) rest)
      (none_left waits p q other (All-tail (λ v. v.p ≢ q) w (filter (λ v. not (v.p == p)) waits) rest))
]

-- the queues once the wait has joined
pub queues_joined : (old new : Queues) (waits : List Wait) (wait : Wait)
    → ((queues : ℕ → List Wait) → AreQueues old queues → AreQueues new (with_wait queues wait)) → AreQueues old (waits_on waits)
    → AreQueues new (waits_on (waits ++ wait ∷ []))
queues_joined old new waits wait joins were = same_queues new (with_wait (waits_on waits) wait) (waits_on (waits ++ wait ∷ []))
    (λ file. sym (joined_onto file [] waits wait)) (joins (waits_on waits) were)

-- and once it has left, one of the waits
pub queues_left : (old new : Queues) (waits : List Wait) (wait : Wait) (p : ℕ)
    → ((queues : ℕ → List Wait) → AreQueues old queues → Any (λ v. v ≡ wait) (queues wait.file) → AreQueues new (without_wait queues wait.p))
    → wait.p ≡ p → Any (λ v. v ≡ wait) waits → AreQueues old (waits_on waits) → AreQueues new (waits_on (filter (λ w. not (w.p == p)) waits))
queues_left old new waits wait p leaves own there were = same_queues new (without_wait (waits_on waits) wait.p) (waits_on (filter (λ w. not (w.p == p)) waits))
    (λ file. subst (λ (q : ℕ). without_wait (waits_on waits) q file ≡ waits_on (filter (λ w. not (w.p == p)) waits) file) (sym own) (sym (left_onto file p [] waits)))
    (leaves (waits_on waits) were (any_on (λ v. v ≡ wait) wait.file (λ v same. ap (λ (w : Wait). w.file) same) waits there))
